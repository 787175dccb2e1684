-- The lowest that passes: the library's search finds the same.
use Prim.Native.Nat.{ℕ, suc, ◌<◌}
use mathlib.Core.Path.{◌≡◌, refl, ◌∙◌}
use mathlib.Core.Bool.{Bool, true}
use mathlib.Core.List.{List, [], ◌∷◌}
use native.Mathlib.Numerals.{add-one}
use lib.ListN.{length, get_or}
use Rattle.std.specs.Prelude.{Option}
use Rattle.std.specs.List.{position, position_from}
use Rattle.std.proofs.lemmas.Iterator.Adapters.{position_from-zero}
use Rattle.std.proofs.lemmas.List.Quantifiers.{position-Some}
use Rattle.places.specs.Places.{at, lowest_from, lowest}

position_lowest : {A : Type 0} (f : A → Bool) (i : ℕ) (xs : List A) → position_from f i xs ≡ lowest_from f i xs
position_lowest f i [] = refl
position_lowest f i (x ∷ xs) = rw (add-one i, position_lowest f (suc i) xs)

pub position_is : {A : Type 0} (f : A → Bool) (xs : List A) → position f xs ≡ lowest f xs
position_is f xs = position_from-zero f xs ∙ position_lowest f 0 xs

pub by_position : {A : Type 0} (f : A → Bool) (xs : List A) {r : Option ℕ} → r ≡ position f xs → r ≡ lowest f xs
by_position f xs e = e ∙ position_is f xs

-- ── what is found passes ───────────────────────────────────────────────────────────────────────────────────────────
module _ {A : Type 0} (f : A → Bool) (z : A) (xs : List A) (q : ℕ) (e : lowest f xs ≡ at q) where
  pub lowest_below : q < length xs
  lowest_below = (position-Some f xs q z (position_is f xs ∙ e)).0

  pub lowest_passes : f (get_or xs q z) ≡ true
  lowest_passes = (position-Some f xs q z (position_is f xs ∙ e)).1
