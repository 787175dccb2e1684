-- A programme that moves to another channel (document 02, #107; EN 300 231, clause 6.2, LUF): a packet with LUF 1 'with the label it goes on under',
-- by the standing label of its place and the timers, 'all judged at the packet's second'.
use Rattle.std.specs.Prelude.{ℕ, ◌+◌, Bool, cond, ◌&&◌, List, [], ◌∷◌, leb, eqb, get_or, set}
use Rattle.answer.specs.Answer.{Answer, refused, given, Row, first_of, and_then}
use Rattle.answer.specs.Lists.{some}
use Rattle.label.specs.declared.Label.{Label}
use Rattle.label.specs.Pil.{month_of}
use Rattle.calendar.specs.declared.Window.{Window}
use Rattle.calendar.specs.Calendar.{window_in}
use Rattle.places.specs.declared.Stamped.{Stamped}
use Rattle.places.specs.Places.{Found, lowest}
use Rattle.matching.specs.declared.Booking.{Booking}
use Rattle.matching.specs.Matching.{matches}
use Rattle.rule.specs.declared.Timer.{Timer}
use Rattle.rule.specs.Rule.{held}
use Rattle.sixteen.specs.Sixteen.{no_timer, active, same_booking, is_nowhere, slot_of}
use Rattle.moving.specs.declared.Verdict.{Verdict}
use Rattle.moving.specs.declared.Verdict.TheVariants.{NoMatch, NotReal, Ended, Repeats, Moves}

-- what an accepted packet with LUF 1 asks for
pub data Update : Type 0 where
  repeats : Update  -- only that the clock moves
  moves : ℕ → Booking → Update  -- that the timer of a slot becomes another

-- 'a place whose standing label matches a timer at that second': the slot of that timer, the lowest if there were two
unfoldable pub meant : ℕ → Stamped → List Timer → Found
meant s old timers = lowest (λ t. held t.copy && matches s t.booking old) timers

-- 7: 'where no standing label there matches a timer'
abbrev pub match_rows : Found → List Row
match_rows slot = (is_nowhere slot, 7) ∷ []

-- 'a packet repeating the standing label': its CNI and PIL
abbrev pub is_repeat : Label → Stamped → Bool
is_repeat l old = eqb l.cni old.cni && eqb l.pil old.pil

-- 'in its own year, or in the next year if the month goes from 12 to 1'
unfoldable pub year_for : Booking → ℕ → ℕ
year_for b pil = b.year + cond (eqb (month_of b.pil) 12 && eqb (month_of pil) 1) 1 0

-- 'that timer takes the new CNI and PIL .. It keeps its slot, home tuner and length'
unfoldable pub moved_to : Label → Booking → Booking
moved_to l b = record { cni = l.cni; pil = l.pil; year = year_for b l.pil; tuner = b.tuner; length = b.length }

-- 12: the new window has ended
abbrev pub window_rows : ℕ → Window → List Row
window_rows s w = (leb w.closes s, 12) ∷ []

-- 'then 11, then 12, for the new label and year'; 11 is the calendar's
abbrev pub moving_to : ℕ → ℕ → Booking → Answer Update
moving_to s slot b = and_then (window_in b.pil b.year) (λ w. first_of (window_rows s w) (moves slot b))

-- '7 stays where no standing label there matches a timer'; a repeat 'is accepted'; 'then 11, then 12'
unfoldable pub update_for : ℕ → Stamped → Label → List Timer → Answer Update
update_for s old l timers =
    let slot = slot_of (meant s old timers) in
    let moving = moving_to s slot (moved_to l (get_or timers slot no_timer).booking) in
    and_then (first_of (match_rows (meant s old timers)) old) (λ standing. cond (is_repeat l standing) (given repeats) moving)

-- the number of the answer, and what is asked for
abbrev pub verdict_answer : Verdict → Answer Update
verdict_answer NoMatch = refused 7
verdict_answer NotReal = refused 11
verdict_answer Ended = refused 12
verdict_answer Repeats = given repeats
verdict_answer (Moves slot b) = given (moves slot b)

-- ── what takes effect ──────────────────────────────────────────────────────────────────────────────────────────────
-- at second s the timer of a slot becomes another, with the copy that it has, whatever that is. 'If another timer held the new label in that year,
-- that one is kept and the moved one cancelled'
unfoldable pub moved_in : ℕ → ℕ → Booking → List Timer → List Timer
moved_in s slot b timers =
    let others = set timers slot no_timer in
    let moved = set timers slot (record { booking = b; copy = (get_or timers slot no_timer).copy }) in
    cond (some (λ t. active s t && same_booking b t.booking) others) others moved
