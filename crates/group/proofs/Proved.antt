-- The laws of the group.
use Rattle.answer.proofs.Answers.{equation}
use Rattle.group.specs.Group.{group_of, bits_of}
use Rattle.group.specs.Laws.{Laws}
use Rattle.group.proofs.Round.{round}

pub laws : Laws
laws = record {
  small = λ g e. (round g e).0;
  back = λ g e. (round g e).1;
  group_unique = λ v. equation (group_of v);
  bits_unique = λ g. equation (bits_of g);
}
