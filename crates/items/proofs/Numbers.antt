-- The numbers of an item, by the places of its bytes.
use Prim.Native.Nat.{ℕ, zero, suc, ◌+◌, ◌≤◌}
use mathlib.Core.Path.{◌≡◌, refl, ap, ◌∙◌}
use mathlib.Core.List.{List, [], ◌∷◌}
use native.Mathlib.Omega.{arith}
use native.Mathlib.Nat.{zero-add}
use lib.ListN.{length, take, drop, get_or}
use lib.Seq.{drop-cons}
use Rattle.answer.specs.Bytes.{number_of}

-- n bytes from place k on, one by one
abbrev pub places : ℕ → ℕ → List ℕ → List ℕ
places k zero l = []
places k (suc n) l = get_or l k 0 ∷ places (suc k) n l

part : (n k : ℕ) (l : List ℕ) → k + n ≤ length l → take n (drop k l) ≡ places k n l
part zero k l h = refl
part (suc n) k l h =
    let s : suc k + n ≤ length l = omega arith in
    rw (drop-cons l k 0 (omega arith)) (ap (λ (r : List ℕ). get_or l k 0 ∷ r) (part n (suc k) l s))

pub first : (n : ℕ) (l : List ℕ) → n ≤ length l → take n l ≡ places 0 n l
first n l h = part n 0 l (omega arith)

-- n bytes from the first on, as one number
pub number : (n : ℕ) (l : List ℕ) → n ≤ length l → number_of (take n l) ≡ number_of (places 0 n l)
number n l h = ap number_of (first n l h)

pub one : (l : List ℕ) → 1 ≤ length l → number_of (take 1 l) ≡ get_or l 0 0
one l h = number 1 l h ∙ zero-add (get_or l 0 0)
