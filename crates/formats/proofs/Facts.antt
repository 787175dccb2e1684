-- Facts of eleven codes.
use Prim.Native.Nat.{ℕ, zero, suc}
use mathlib.Core.List.{List, [], ◌∷◌}
use mathlib.Core.Path.{◌≡◌, refl, ap}
use lib.ListN.{length, get_or}

-- the first n values of a function
abbrev listed : ℕ → (ℕ → ℕ) → List ℕ
listed zero f = []
listed (suc n) f = f 0 ∷ listed n (λ i. f (suc i))

itself : (cs : List ℕ) → cs ≡ listed (length cs) (λ i. get_or cs i 0)
itself [] = refl
itself (c ∷ cs) = ap (λ (s : List ℕ). c ∷ s) (itself cs)

pub eleven : (cs : List ℕ) → length cs ≡ 11 → cs
    ≡ get_or cs 0 0 ∷ get_or cs 1 0 ∷ get_or cs 2 0 ∷ get_or cs 3 0 ∷ get_or cs 4 0 ∷ get_or cs 5 0
    ∷ get_or cs 6 0 ∷ get_or cs 7 0 ∷ get_or cs 8 0 ∷ get_or cs 9 0 ∷ get_or cs 10 0 ∷ []
eleven cs e = rw e at (itself cs)
