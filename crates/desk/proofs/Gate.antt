-- The refusals of a table bar whatever comes, and where none applies it goes on.
use Rattle.std.specs.Prelude.{ℕ, ◌≡◌, refl, Bool, true, false, cond, List, [], ◌∷◌, Result}
use mathlib.Core.Path.{sym, ap, ◌∙◌}
use Rattle.answer.specs.Answer.{Answer, refused, Row, first_of, and_then}
use Rattle.reply.specs.Numbers.{told}

module _ {A B C : Type 0} (a : A) (b : B) (next : B → Answer C) where
  -- whatever is let through
  gated : (rows : List Row) → and_then (first_of rows b) next ≡ and_then (first_of rows a) (λ x. next b)
  gated [] = refl
  gated (row ∷ rows) = go row.0 (gated rows)
    where
      go : (t : Bool) → and_then (first_of rows b) next ≡ and_then (first_of rows a) (λ x. next b) →
          and_then (cond t (refused row.1) (first_of rows b)) next ≡ and_then (cond t (refused row.1) (first_of rows a)) (λ x. next b)
      go true h = refl
      go false h = h

  pub past_gate : {R : Type 0} (rows : List Row) (numbered : R → ℕ) (r : Result A R) → told numbered r ≡ first_of rows a →
      and_then (first_of rows b) next ≡ and_then (told numbered r) (λ x. next b)
  past_gate rows numbered r e = gated rows ∙ ap (λ o. and_then o (λ x. next b)) (sym e)
