-- The laws of times and titles.
use Rattle.answer.proofs.Answers.{equation}
use Rattle.announced.specs.Laws.{Laws}
use Rattle.announced.specs.Times.{marks_of}
use Rattle.announced.specs.Taken.{after_title, by_title, may_end, stage_from, announced_from, told_of}
use Rattle.announced.proofs.Read.{taken_read, read_taken}

pub laws : Laws
laws = record {
  taken_read = taken_read;
  read_taken = read_taken;
  after_unique = λ s v. equation (stage_from s (marks_of v));
  told_unique = λ s v. equation (told_of (announced_from s (marks_of v)));
  titled_unique = λ s row column. equation (after_title s row column);
  entitled_unique = λ s row column. equation (told_of (by_title s row column));
  ends_unique = λ s. equation (may_end s);
}
