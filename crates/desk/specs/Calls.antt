-- The calls of the desk (document 01, 'Timers and calls'): when each is refused, and what an accepted one answers and leaves.
use Rattle.std.specs.Prelude.{ℕ, ◌+◌, ◌*◌, cond, not, ◌&&◌, ◌||◌, List, [], ◌∷◌, leb, ltb, get_or, set}
use Rattle.answer.specs.Answer.{Answer, given, Row, first_of, and_then}
use Rattle.label.specs.declared.Label.{Label}
use Rattle.label.specs.Packet.{reading_of}
use Rattle.calendar.specs.Calendar.{window_in, clock_end}
use Rattle.calendar.specs.declared.Window.{Window}
use Rattle.answer.specs.Lists.{some}
use Rattle.places.specs.Places.{no_label, heard_at, Found, flag}
use Rattle.matching.specs.Matching.{ended_at}
use Rattle.clocked.specs.Clocked.{out_of_range}
use Rattle.rule.specs.Rule.{held}
use Rattle.matching.specs.declared.Booking.{Booking}
use Rattle.rule.specs.declared.Timer.{Timer}
use Rattle.rule.specs.declared.Copy.{Copy}
use Rattle.rule.specs.declared.Copy.TheVariants.{Free, Waiting, Prepared, Recording, RunningOn, ByTheClock}
use Rattle.reply.specs.Numbers.{Says}
use Rattle.sixteen.specs.Sixteen.{no_timer, active, same_booking, room_at, is_nowhere, slot_of}
use Rattle.moving.specs.Moving.{Update, repeats, moves, update_for, moved_in}
use Rattle.desk.specs.Moments.{moment, next_second, pass_to, walked_to}
use Rattle.desk.specs.declared.Desk.{Desk}

-- what an accepted call that tells a number gives: the number, and the desk afterwards
pub record Told : Type 0 where
  pub says : ℕ
  pub desk : Desk

-- ── a packet ───────────────────────────────────────────────────────────────────────────────────────────────────────
-- 9: 'time before the clock'; 10: 'time past the clock's end'
abbrev pub time_rows : Desk → ℕ → List Row
time_rows d t = (ltb t d.clock, 9) ∷ (ltb clock_end t, 10) ∷ []

-- 8: 'tuner above 3'
abbrev pub tuner_rows : Desk → ℕ → ℕ → List Row
tuner_rows d tuner t = (ltb 3 tuner, 8) ∷ time_rows d t

-- 'sixteen places, a tuner 0 to 3 with an LCI 0 to 3, ordered by tuner, then LCI'
abbrev pub place_of : ℕ → Label → ℕ
place_of tuner l = tuner * 4 + l.lci

-- the label reaches its place at the present second
abbrev pub with_label : ℕ → Label → Desk → Desk
with_label tuner l d =
    let p = place_of tuner l in
    record { clock = d.clock; live = d.live; places = set d.places p (heard_at d.clock l (get_or d.places p no_label)); timers = d.timers }

-- 'first passes every second up to t, then takes effect', and 'each accepted call' is a moment
unfoldable pub hearing_at : ℕ → ℕ → Label → Desk → Desk
hearing_at tuner t l d = moment (with_label tuner l (pass_to t d))

-- ── a packet with LUF 1 (02, #107) ─────────────────────────────────────────────────────────────────────────────────
-- what is asked for takes effect. 'The place's label stays', so nothing is put there, and no stamp is renewed
abbrev pub updated : Update → Desk → Desk
updated repeats d = d  -- 'only moves the clock'
updated (moves slot b) d = record { clock = d.clock; live = d.live; places = d.places; timers = moved_in d.clock slot b d.timers }

-- 'first passes every second up to t, then takes effect'
unfoldable pub updating_at : ℕ → Update → Desk → Desk
updating_at t u d = moment (updated u (pass_to t d))

-- by the label that stands at the packet's own place: 7, 11 and 12, 'all judged at the packet's second'
unfoldable pub updating : ℕ → ℕ → Label → Desk → Answer Desk
updating tuner t l d =
    and_then (update_for t (get_or d.places (place_of tuner l) no_label) l d.timers) (λ u. given (updating_at t u d))

-- ── which of the two ───────────────────────────────────────────────────────────────────────────────────────────────
-- with LUF 1 the label is not that of what is on air, but the one that it goes on under (EN 300 231, clause 6.2)
unfoldable pub obeying : ℕ → ℕ → Label → Desk → Answer Desk
obeying tuner t l d = cond (flag l.luf) (updating tuner t l d) (given (hearing_at tuner t l d))

-- a label already read is heard: 8, 9, 10, then 7, 11, 12
unfoldable pub hearing : ℕ → ℕ → Label → Desk → Answer Desk
hearing tuner t l d = and_then (first_of (tuner_rows d tuner t) l) (λ m. obeying tuner t m d)

-- 'packet: 8, 9, 10, 1 to 7', then 11 and 12 (02, #107)
unfoldable pub packet_of : ℕ → ℕ → List ℕ → Desk → Answer Desk
packet_of tuner t bytes d = and_then (first_of (tuner_rows d tuner t) bytes) (λ p. and_then (reading_of p) (λ l. obeying tuner t l d))

-- ── a wait, and one second ─────────────────────────────────────────────────────────────────────────────────────────
-- 'wait: 9, 10'
unfoldable pub wait_of : ℕ → Desk → Answer Told
wait_of t d = first_of (time_rows d t) (record { says = walked_to t d; desk = moment (pass_to t d) })

-- one second passes, but not past the clock's end
unfoldable pub second_of : Desk → Answer Desk
second_of d = first_of ((leb clock_end d.clock, 10) ∷ []) (next_second d)

-- ── timers ─────────────────────────────────────────────────────────────────────────────────────────────────────────
-- 'the lowest slot that is free or whose window has ended'
unfoldable pub room_in : Desk → Found
room_in d = room_at d.clock d.timers

abbrev pub with_timer : ℕ → Timer → Desk → Desk
with_timer slot t d = record { clock = d.clock; live = d.live; places = d.places; timers = set d.timers slot t }

abbrev pub add_rows : Booking → Desk → Window → List Row
add_rows b d w =
    (out_of_range b, 17)  -- home tuner or length out of range
    ∷ (leb w.closes d.clock, 12)  -- window has ended
    ∷ (some (λ t. active d.clock t && same_booking b t.booking) d.timers, 13)  -- the same timer is held and not ended
    ∷ (is_nowhere (room_in d), 14)  -- all sixteen slots held and not ended
    ∷ []

-- 'add: 11 to 14', with 17 'between 11 and 12' (02, #105); 11 is the calendar's
unfoldable pub add_of : Booking → Desk → Answer Told
add_of b d =
    let slot = slot_of (room_in d) in
    and_then (window_in b.pil b.year)
    (λ w. first_of (add_rows b d w) (record { says = slot; desk = moment (with_timer slot (record { booking = b; copy = Waiting }) d) }))

abbrev pub timer_at : Desk → ℕ → Timer
timer_at d slot = get_or d.timers slot no_timer

-- 15: 'slot above 15 or free'
abbrev pub slot_rows : ℕ → Desk → List Row
slot_rows slot d = (ltb 15 slot || not (held (timer_at d slot).copy), 15) ∷ []

-- 'cancelling frees a slot and ends its copy'
unfoldable pub cancel_of : ℕ → Desk → Answer Desk
cancel_of slot d = first_of (slot_rows slot d) (moment (with_timer slot no_timer d))

-- ── asking ─────────────────────────────────────────────────────────────────────────────────────────────────────────
abbrev pub copy_says : Copy → Says
copy_says Free = record { state = 0; place = 0 }
copy_says Waiting = record { state = 0; place = 0 }
copy_says (Prepared v) = record { state = 1; place = 0 }
copy_says (Recording p mi) = record { state = 2; place = p }
copy_says (RunningOn p v) = record { state = 3; place = p }
copy_says ByTheClock = record { state = 5; place = 0 }

-- 'asking a slot gives waiting, prepared, recording with place, running on with place, or ended', or 'by the clock' (02, #105)
unfoldable pub ask_of : ℕ → Desk → Answer Says
ask_of slot d =
    let t = timer_at d slot in
    first_of (slot_rows slot d) (cond (ended_at d.clock t.booking) (record { state = 4; place = 0 }) (copy_says t.copy))
