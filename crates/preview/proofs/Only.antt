-- What each answer tells of a page, and what the sum is.
use Prim.Native.Nat.{ℕ, ◌+◌}
use mathlib.Core.Path.{◌≡◌, refl}
use mathlib.Core.Bool.{true, false}
use mathlib.Core.List.{List, [], ◌∷◌, ◌++◌}
use native.Mathlib.Omega.{arith}
use lib.ListN.{length}
use Rattle.answer.specs.Answer.{refused, given}
use Rattle.answer.proofs.Cases.{by_test}
use Rattle.sums.specs.Counted.{sum_of, is_word, counted}
use Rattle.rows.specs.Row.{Content, format, title}
use Rattle.preview.specs.declared.Programme.{Programme}
use Rattle.preview.specs.Page.{Reading, Reads, programmes_by, sum_in, agrees, Answers, no_reading, wrong_word, read}
use Rattle.preview.specs.Laws.{figures_in}

pub accepted_only : (page : List ℕ) (qs : List Programme) → Answers page (given qs) →
    (length page ≡ 960) × ((r : Reading) × Reads page r × (agrees r.contents ≡ true) × (qs ≡ programmes_by r.announced r.originals))
accepted_only page qs (read r l w e) = (l, (r, w, e, refl))

pub only_24 : (page : List ℕ) → Answers page (refused 24) → (length page ≡ 960) × ((r : Reading) → Reads page r → ⊥)
only_24 page (no_reading l n) = (l, n)

pub only_25 : (page : List ℕ) → Answers page (refused 25) → (length page ≡ 960) × ((r : Reading) × Reads page r × (agrees r.contents ≡ false))
only_25 page (wrong_word r l w e) = (l, (r, w, e))

sum_append : (xs ys : List ℕ) → sum_of (xs ++ ys) ≡ sum_of xs + sum_of ys
sum_append [] ys = omega arith
sum_append (x ∷ xs) ys = omega (arith, sum_append xs ys)

pub sum : (xs : List Content) → sum_in xs ≡ sum_of (figures_in xs)
unfolding sum_in counted
sum [] = refl
sum (format a fs ∷ xs) =
    by_test (is_word a)
    (λ w. rw w (omega (arith, sum xs)))
    (λ w. rw w (omega (arith, sum xs, sum_append fs (figures_in xs))))
sum (title r c ∷ xs) = sum xs
