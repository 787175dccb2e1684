-- What is claimed of the figures. Proved in proofs/Proved.antt.
use Rattle.std.specs.Prelude.{ℕ, ◌≡◌, List}
use Rattle.answer.specs.Answer.{Unique}
use Rattle.formats.specs.declared.Start.{Start}
use Rattle.figures.specs.Taken.{found_from}

pub record Laws : Type 0 where
  -- the call's promise allows one outcome
  pub found_in_unique : (s : Start) (n : ℕ) (codes : List ℕ) → Unique (λ r. r ≡ found_from s n codes)
