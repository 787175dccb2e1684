-- The first n of some elements, and others where there are fewer: one more of them, and what stands at a place.
use Prim.Native.Nat.{ℕ, zero, suc, ◌≤◌, ◌<◌}
use mathlib.Core.Path.{◌≡◌, refl, sym, ap, ◌∙◌}
use mathlib.Core.List.{List, [], ◌∷◌, ◌++◌}
use native.Mathlib.Omega.{arith}
use lib.ListN.{length, get_or, take, set, replicate, get_or-replicate}
use lib.Seq.{get_or-take}
use Rattle.answer.specs.Lists.{filled}

module _ {A : Type 0} (z : A) where
  take_replicate : (n m : ℕ) → n ≤ m → take n (replicate m z) ≡ replicate n z
  take_replicate zero m h = refl
  take_replicate (suc n) zero h = absurd (omega arith)
  take_replicate (suc n) (suc m) h = ap (λ (xs : List A). z ∷ xs) (take_replicate n m (omega arith))

  pub filled_none : (n : ℕ) → filled n z [] ≡ replicate n z
  filled_none n = take_replicate n n (omega arith)

  more : (n m : ℕ) (xs : List A) (x : A) → n ≤ m → take n ((xs ++ (x ∷ [])) ++ replicate m z) ≡ set (take n (xs ++ replicate m z)) (length xs) x
  more zero m xs x h = refl
  more (suc n) zero [] x h = absurd (omega arith)
  more (suc n) (suc m) [] x h =
      ap (λ (xs : List A). x ∷ xs) (take_replicate n (suc m) (omega arith) ∙ sym (take_replicate n m (omega arith)))
  more (suc n) m (y ∷ xs) x h = ap (λ (ys : List A). y ∷ ys) (more n m xs x (omega arith))

  -- past the end `set` leaves the list
  pub filled_more : (n : ℕ) (xs : List A) (x : A) → filled n z (xs ++ (x ∷ [])) ≡ set (filled n z xs) (length xs) x
  filled_more n xs x = more n n xs x (omega arith)

  at : (m : ℕ) (xs : List A) (i : ℕ) (d : A) → i < m → get_or (xs ++ replicate m z) i d ≡ get_or xs i z
  at m [] i d h = get_or-replicate m i z d h
  at m (x ∷ xs) zero d h = refl
  at m (x ∷ xs) (suc i) d h = at m xs i d (omega arith)

  pub filled_at : (n : ℕ) (xs : List A) (i : ℕ) (d : A) → i < n → get_or (filled n z xs) i d ≡ get_or xs i z
  filled_at n xs i d h = get_or-take n (xs ++ replicate n z) i d h ∙ at n xs i d h
