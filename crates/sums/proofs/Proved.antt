-- The laws of the sum.
use Rattle.answer.proofs.Answers.{equation}
use Rattle.formats.specs.Formats.{pattern, figures_by}
use Rattle.formats.specs.Taken.{own_codes}
use Rattle.sums.specs.Laws.{Laws}
use Rattle.sums.specs.Counted.{counted}

pub laws : Laws
laws = record { sum_of_unique = λ k codes. equation (counted k (figures_by (pattern k) (own_codes k codes))) }
