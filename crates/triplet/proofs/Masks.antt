-- The ones under a mask are those among the positions that it marks.
use Prim.Native.Nat.{ℕ, zero, suc, ◌+◌, ◌/◌, ◌%◌, ◌^◌, ◌<◌, min}
use mathlib.Core.Path.{◌≡◌, refl, sym, ap, ap₂, ◌∙◌}
use mathlib.Core.Bool.{Bool, true, false, cond}
use mathlib.Core.List.{List, [], ◌∷◌, ◌++◌}
use native.Mathlib.Omega.{arith}
use native.Mathlib.Nat.{div-one}
use borrow.Author.Tests.{eqb-true, eqb-false}
use lib.Bits.{bit_and, and_step, and_zero_r}
use lib.Count.{ones, ones_in, ones_step}
use lib.Dec.{eqb}
use Rattle.hamming.proofs.Bits.{bit_at, shifted}
use Rattle.triplet.specs.Word.{ones_among}
use Rattle.triplet.specs.Checks.{wrong}

-- the positions that the k lowest bits of a mask mark, where its lowest bit is for position n
abbrev marked : ℕ → ℕ → ℕ → List ℕ
marked zero n m = []
marked (suc k) n m = cond (eqb (m % 2) 1) (n ∷ []) [] ++ marked k (suc n) (m / 2)

ones_under : (k j m w : ℕ) → m < 2 ^ k → ones (bit_and (w / 2 ^ j) m) ≡ ones_among (marked k (suc j) m) w
unfolding ones ones_in
ones_under zero j m w h = let e : m ≡ 0 = omega arith in rw e (ap ones (and_zero_r (w / 2 ^ j)))
ones_under (suc k) j m w h =
    let x = w / 2 ^ j in
    let y = bit_and x m in
    let s = and_step x m in
    let low : y % 2 ≡ min (x % 2) (m % 2) = omega arith in
    let high : y / 2 ≡ bit_and (x / 2) (m / 2) = omega arith in
    let up = ap (λ (z : ℕ). ones (bit_and z (m / 2))) (sym (shifted j w)) in
    let r = ap ones high ∙ up ∙ ones_under k (suc j) (m / 2) w (omega arith) in
    ones_step y ∙ ap₂ (λ (p q : ℕ). p + q) low r ∙ go (eqb (m % 2) 1) refl
  where
    go : (t : Bool) → eqb (m % 2) 1 ≡ t →
        min (w / 2 ^ j % 2) (m % 2) + ones_among (marked k (suc (suc j)) (m / 2)) w
        ≡ ones_among (cond t (suc j ∷ []) [] ++ marked k (suc (suc j)) (m / 2)) w
    go true e = let q = eqb-true (m % 2) 1 e in let b = bit_at j w in omega arith
    go false e = let q : m % 2 ≡ 0 = omega (arith, eqb-false (m % 2) 1 e) in omega arith

pub under : (m w : ℕ) (ns : List ℕ) → m < 2 ^ 24 → marked 24 1 m ≡ ns → ones (bit_and w m) ≡ ones_among ns w
under m w ns h e =
    ap (λ (x : ℕ). ones (bit_and x m)) (sym (div-one w)) ∙ ones_under 24 0 m w h ∙ ap (λ (l : List ℕ). ones_among l w) e

-- the check of the ones under a mask is that of the positions
pub check : (ns : List ℕ) (m w : ℕ) → m < 2 ^ 24 → marked 24 1 m ≡ ns → (1 + ones (bit_and w m)) % 2 ≡ wrong ns w
check ns m w h e = ap (λ (n : ℕ). (1 + n) % 2) (under m w ns h e)
