-- The laws of the places.
use lib.ListN.{get_or, set}
use Rattle.answer.specs.Lists.{some}
use Rattle.answer.proofs.Answers.{equation}
use Rattle.places.specs.Places.{no_label, stands, heard_at, labels_fail}
use Rattle.places.specs.Laws.{Laws}
use Rattle.places.proofs.Codes.{codes_stand}

pub laws : Laws
laws = record {
  codes_stand = codes_stand;
  no_label_unique = equation no_label;
  stands_unique = λ s l. equation (stands s l);
  heard_at_unique = λ t l old. equation (heard_at t l old);
  label_at_unique = λ ls p. equation (get_or ls p no_label);
  put_label_unique = λ ls p l. equation (set ls p l);
  any_stands_unique = λ s ls. equation (some (stands s) ls);
  labels_fail_unique = λ s ls tuner. equation (labels_fail s ls tuner);
}
