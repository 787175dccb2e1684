-- What proves a writer that prints several texts one after the other: put together they are printed at once, as far as there is room.
use Rattle.std.specs.Prelude.{ℕ, suc, ◌+◌, ◌≤◌, ◌<◌, ◌≡◌, List, [], ◌∷◌, ◌++◌, length}
use Rattle.std.proofs.Common.{refl, sym, ◌∙◌}
use mathlib.Core.Logic.{◌⊎◌, inl, inr}
use native.Mathlib.Omega.{arith}
use Rattle.std.proofs.lemmas.Bool.{cases_lt}
use Rattle.std.proofs.lemmas.List.{set_past}
use Rattle.std.proofs.lemmas.List.Edits.{sets}
use lib.Seq.{length-sets}
use Rattle.answer.proofs.Texts.{sets_append}
use Rattle.text.specs.Printed.{place_after}

-- past the end nothing is stored
pub sets_past : (l : List ℕ) (i : ℕ) (x : List ℕ) → length l ≤ i → sets l i x ≡ l
sets_past l i [] h = refl
sets_past l i (a ∷ x) h = rw (set_past l i a h) (sets_past l (suc i) x (omega (arith, h)))

pub place_fits : (n i k : ℕ) → i + k ≤ n → place_after n i k ≡ i + k
unfolding place_after
place_fits n i k h = omega (arith, h)

pub place_none : (n i : ℕ) → i ≡ place_after n i 0
unfolding place_after
place_none n i = omega arith

-- one byte, where it finds room and where it does not
pub place_one : (n i : ℕ) → i < n → i + 1 ≡ place_after n i 1
unfolding place_after
place_one n i h = omega (arith, h)

pub place_stays : (n i k : ℕ) → n ≤ i → place_after n i k ≡ i
unfolding place_after
place_stays n i k h = omega (arith, h)

pub place_twice : (n i k m : ℕ) → place_after n (place_after n i k) m ≡ place_after n i (k + m)
unfolding place_after
place_twice n i k m = omega arith

pub place_past : (n i k : ℕ) → n < i + k → n ≤ place_after n i k
unfolding place_after
place_past n i k h = omega (arith, h)

-- a text where the one before it ended
pub sets_after : (l : List ℕ) (i : ℕ) (x y : List ℕ) → sets (sets l i x) (place_after (length l) i (length x)) y ≡ sets l i (x ++ y)
sets_after l i x y = go (cases_lt (length l) (i + length x))
  where
    go : (length l < i + length x) ⊎ (i + length x ≤ length l) → sets (sets l i x) (place_after (length l) i (length x)) y ≡ sets l i (x ++ y)
    go (inl h) =
        let past : length (sets l i x) ≤ place_after (length l) i (length x) = omega (arith, length-sets l i x, place_past (length l) i (length x) h) in
        let end : length (sets l i x) ≤ i + length x = omega (arith, length-sets l i x, h) in
        sets_past (sets l i x) (place_after (length l) i (length x)) y past
        ∙ sym (sets_past (sets l i x) (i + length x) y end)
        ∙ sym (sets_append l i x y)
    go (inr h) = rw (place_fits (length l) i (length x) h) (sym (sets_append l i x y))
