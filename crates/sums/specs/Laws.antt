-- What is claimed of the sum. Proved in proofs/Proved.antt.
use Rattle.std.specs.Prelude.{ℕ, ◌≡◌, List}
use Rattle.answer.specs.Answer.{Unique}
use Rattle.formats.specs.declared.Kind.{Kind}
use Rattle.formats.specs.Formats.{pattern, figures_by}
use Rattle.formats.specs.Taken.{own_codes}
use Rattle.sums.specs.Counted.{counted}

pub record Laws : Type 0 where
  -- the call's promise allows one outcome
  pub sum_of_unique : (k : Kind) (codes : List ℕ) → Unique (λ (r : ℕ). r ≡ counted k (figures_by (pattern k) (own_codes k codes)))
