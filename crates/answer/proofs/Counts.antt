-- How many elements of a list pass a test.
use Prim.Native.Nat.{◌+◌, ◌≤◌}
use mathlib.Core.Path.{◌≡◌, refl}
use mathlib.Core.Bool.{Bool, true, false, cond}
use mathlib.Core.List.{List, [], ◌∷◌, ◌++◌}
use native.Mathlib.Omega.{arith}
use lib.ListN.{length}
use Rattle.answer.specs.Lists.{count}
use Rattle.answer.proofs.Every.{All}

pub bit_le : (t : Bool) → cond t 1 0 ≤ 1
bit_le true = omega arith
bit_le false = omega arith

module _ {A : Type 0} (f : A → Bool) where
  pub count_length : (xs : List A) → count f xs ≤ length xs
  count_length [] = omega arith
  count_length (x ∷ xs) =
      let b = bit_le (f x) in
      let r = count_length xs in
      omega arith

  pub count_more : (xs : List A) (y : A) → count f (xs ++ (y ∷ [])) ≡ count f xs + cond (f y) 1 0
  count_more [] y = omega arith
  count_more (x ∷ xs) y = let r = count_more xs y in omega arith

  -- none passes exactly where the count is 0
  pub count_none : (xs : List A) → All (λ x. f x ≡ false) xs → count f xs ≡ 0
  count_none [] a = refl
  count_none (x ∷ xs) a = let r = count_none xs a.1 in rw a.0 (omega arith)

  pub none_counted : (xs : List A) → count f xs ≡ 0 → All (λ x. f x ≡ false) xs
  none_counted [] e = tt
  none_counted (x ∷ xs) e = (go (f x) e, none_counted xs (omega arith))
    where
      go : (t : Bool) → cond t 1 0 + count f xs ≡ 0 → t ≡ false
      go true h = absurd (omega arith)
      go false h = refl

pub count_same : {A : Type 0} (f g : A → Bool) (xs : List A) → All (λ x. f x ≡ g x) xs → count f xs ≡ count g xs
count_same f g [] a = refl
count_same f g (x ∷ xs) a = rw (a.0, count_same f g xs a.1)
