-- The laws of the clock's own seconds.
use Rattle.answer.proofs.Answers.{equation}
use Rattle.clocked.specs.Clocked.{out_of_range, on_time}
use Rattle.clocked.specs.Laws.{Laws}
use Rattle.clocked.proofs.Parts.{begins, not_before, ends, ends_at_close}

pub laws : Laws
laws = record {
  begins = begins;
  not_before = not_before;
  ends = ends;
  ends_at_close = ends_at_close;
  out_of_range_unique = λ b. equation (out_of_range b);
  on_time_unique = λ s b. equation (on_time s b);
}
