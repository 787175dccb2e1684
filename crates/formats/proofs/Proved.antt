-- The laws of the formats.
use Rattle.answer.proofs.Answers.{equation}
use Rattle.formats.specs.Laws.{Laws}
use Rattle.formats.specs.Formats.{start_of}
use Rattle.formats.specs.Taken.{kind_from}
use Rattle.formats.proofs.Standing.{one_kind, one_figures}

pub laws : Laws
laws = record {
  one_kind = one_kind;
  one_figures = one_figures;
  start_of_unique = λ k c. equation (start_of k c);
  kind_of_unique = λ s n codes. equation (kind_from s n codes);
}
