-- The laws of the groups taken one at a time.
use Rattle.answer.proofs.Answers.{equation}
use Rattle.sequence.specs.Laws.{Laws}
use Rattle.sequence.specs.Sequence.{start, state_after, change_by}
use Rattle.sequence.proofs.Made.{made, lacking}

pub laws : Laws
laws = record {
  made = made;
  lacking = lacking;
  new_unique = equation start;
  next_unique = λ s g. equation (state_after s g);
  change_unique = λ s g. equation (change_by s g);
}
