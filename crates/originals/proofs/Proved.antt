-- The laws of the data.
use Rattle.answer.proofs.Answers.{equation}
use Rattle.originals.specs.Laws.{Laws}
use Rattle.originals.specs.Data.{data_of}
use Rattle.originals.specs.Taken.{data_start, may_end, data_from, originals_from, given_of}
use Rattle.originals.proofs.Read.{taken_read, read_taken}

pub laws : Laws
laws = record {
  taken_read = taken_read;
  read_taken = read_taken;
  new_unique = equation data_start;
  after_unique = λ s v. equation (data_from s (data_of v));
  given_unique = λ s v. equation (given_of (originals_from s (data_of v)));
  ends_unique = λ s. equation (may_end s);
}
