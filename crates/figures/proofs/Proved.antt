-- The laws of the figures.
use Rattle.answer.proofs.Answers.{equation}
use Rattle.figures.specs.Laws.{Laws}
use Rattle.figures.specs.Taken.{found_from}

pub laws : Laws
laws = record { found_in_unique = λ s n codes. equation (found_from s n codes) }
