-- The first programmes of a page, one after the other.
use Prim.Native.Nat.{ℕ, ◌+◌, ◌<◌, min}
use mathlib.Core.Path.{◌≡◌, refl, sym, ap, ◌∙◌}
use mathlib.Core.List.{List, ◌∷◌}
use native.Mathlib.Decide.{dec_lt}
use native.Mathlib.Numerals.{add-one}
use native.Mathlib.Omega.{arith}
use lib.ListN.{length, get_or, take, drop}
use lib.Seq.{drop-cons, take_all}

module _ {A : Type 0} where
  -- there are no more than the array has
  pub kept : (xs : List A) (n m : ℕ) {k : ℕ} → length xs ≡ m → k ≡ min n m → take k xs ≡ take n xs
  kept xs n m {k} l e =
      elim (dec_lt m n) [
        | yes h ↦ take_all k xs (omega arith) ∙ sym (take_all n xs (omega arith))
        | no h ↦ let same : k ≡ n = omega arith in ap (λ (j : ℕ). take j xs) same
      ]

  -- the next
  pub next : (xs : List A) (i : ℕ) (d : A) → i < length xs → drop i xs ≡ get_or xs i d ∷ drop (i + 1) xs
  next xs i d h = drop-cons xs i d h ∙ rw (add-one i) refl
