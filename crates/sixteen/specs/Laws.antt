-- What is claimed of the sixteen slots: each call's promise allows one outcome. Proved in proofs/Proved.antt.
use Rattle.std.specs.Prelude.{ℕ, ◌≡◌, ◌&&◌, List, map, get_or, set}
use Rattle.answer.specs.Answer.{Unique}
use Rattle.answer.specs.Lists.{some, count}
use Rattle.places.specs.declared.Stamped.{Stamped}
use Rattle.matching.specs.declared.Booking.{Booking}
use Rattle.rule.specs.declared.Timer.{Timer}
use Rattle.rule.specs.Rule.{by_labels_timer, live_timer, next_timer}
use Rattle.sixteen.specs.declared.GoneOn.{GoneOn}
use Rattle.sixteen.specs.Sixteen.{no_timer, active, same_booking, room_at}

pub record Laws : Type 0 where
  pub no_timer_unique : Unique (λ r. r ≡ no_timer)
  pub timer_at_unique : (ts : List Timer) (slot : ℕ) → Unique (λ r. r ≡ get_or ts slot no_timer)
  pub put_timer_unique : (ts : List Timer) (slot : ℕ) (t : Timer) → Unique (λ r. r ≡ set ts slot t)
  pub any_holds_unique : (s : ℕ) (ts : List Timer) (b : Booking) → Unique (λ r. r ≡ some (λ t. active s t && same_booking b t.booking) ts)
  pub room_unique : (s : ℕ) (ts : List Timer) → Unique (λ r. r ≡ room_at s ts)
  pub all_next_unique : (s : ℕ) (ls : List Stamped) (ts : List Timer) →
      let next = map (next_timer s ls) ts in Unique (λ (r : GoneOn). r ≡ record { live = count live_timer next; timers = next })
  pub any_by_labels_unique : (ts : List Timer) → Unique (λ r. r ≡ some by_labels_timer ts)
