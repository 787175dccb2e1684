-- The laws of the sixteen slots.
use mathlib.Core.Bool.{◌&&◌}
use mathlib.Core.List.{map}
use lib.ListN.{get_or, set}
use Rattle.answer.specs.Lists.{some, count}
use Rattle.answer.proofs.Answers.{equation}
use Rattle.rule.specs.Rule.{by_labels_timer, live_timer, next_timer}
use Rattle.sixteen.specs.Sixteen.{no_timer, active, same_booking, room_at}
use Rattle.sixteen.specs.Laws.{Laws}

pub laws : Laws
laws = record {
  no_timer_unique = equation no_timer;
  timer_at_unique = λ ts slot. equation (get_or ts slot no_timer);
  put_timer_unique = λ ts slot t. equation (set ts slot t);
  any_holds_unique = λ s ts b. equation (some (λ t. active s t && same_booking b t.booking) ts);
  room_unique = λ s ts. equation (room_at s ts);
  all_next_unique = λ s ls ts. let next = map (next_timer s ls) ts in equation (record { live = count live_timer next; timers = next });
  any_by_labels_unique = λ ts. equation (some by_labels_timer ts);
}
