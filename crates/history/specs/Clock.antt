-- Recording by the clock, through a sequence of calls (document 02, #105).
use Rattle.std.specs.Prelude.{ℕ, ◌≡◌, true, false, List, [], ◌∷◌, get_or}
use Rattle.answer.specs.Lists.{some}
use Rattle.places.specs.Places.{no_label, stands, of_tuner, labels_fail}
use Rattle.matching.specs.Matching.{open_at, matches}
use Rattle.clocked.specs.Clocked.{in_length, on_time}
use Rattle.rule.specs.Rule.{held, by_labels, live_timer}
use Rattle.matching.specs.declared.Booking.{Booking}
use Rattle.desk.specs.declared.Desk.{Desk}
use Rattle.desk.specs.Calls.{timer_at}
use Rattle.history.specs.Prepared.{NoPrf0}

-- what a slot's timer must be, to be recorded by the clock
pub record ClockRecords (d : Desk) (slot : ℕ) : Type 0 where
  pub is_held : held (timer_at d slot).copy ≡ true
  -- 'a timer that is neither recording nor running on'
  pub neither : by_labels (timer_at d slot).copy ≡ false
  -- and that is not to be: 'a match with PRF 0 makes it recording'
  pub no_start : NoPrf0 d.clock d.places (timer_at d slot).booking
  -- 'while no label stands on any place of the home tuner, or timer-control stands on one'
  pub labels_fail_lem : labels_fail d.clock d.places (timer_at d slot).booking.tuner ≡ true
  -- 'from its announced second until its length has passed'
  pub in_length_lem : in_length d.clock (timer_at d slot).booking ≡ true
  -- 'inside its window'
  pub in_window : open_at d.clock (timer_at d slot).booking ≡ true

-- no label stands on any place of a tuner
abbrev pub Silent : ℕ → Desk → Type 0
Silent tuner d = some (stands d.clock) (of_tuner tuner d.places) ≡ false

-- a slot holds timer b, whose home tuner is silent, and no label matches it anywhere
pub record Unheard (slot : ℕ) (b : Booking) (d : Desk) : Type 0 where
  pub is_held : held (timer_at d slot).copy ≡ true
  pub booked : (timer_at d slot).booking ≡ b
  pub silent : Silent b.tuner d
  pub no_match : (q : ℕ) → matches d.clock b (get_or d.places q no_label) ≡ false

-- as long as that holds at each of these moments: the timer is live exactly at the seconds from the announced one to the end of its length,
-- inside its window
abbrev pub LiveByTime : ℕ → Booking → List Desk → Type 0
LiveByTime slot b [] = Unit {0}
LiveByTime slot b (e ∷ es) = Unheard slot b e → (live_timer (timer_at e slot) ≡ on_time e.clock b) × LiveByTime slot b es
