-- The laws of the rule for one timer.
use Rattle.answer.proofs.Answers.{equation}
use Rattle.rule.specs.Rule.{next_timer, held, by_labels, is_live}
use Rattle.rule.specs.Laws.{Laws}

pub laws : Laws
laws = record {
  next_timer_unique = λ s ls t. equation (next_timer s ls t);
  is_held_unique = λ c. equation (held c);
  is_by_labels_unique = λ c. equation (by_labels c);
  is_live_unique = λ c. equation (is_live c);
}
