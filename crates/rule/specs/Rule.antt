-- The second-by-second rule (document 01, amended by 02) for one timer: how its copy goes on. A second is a number of the clock; a place is a
-- number from 0 to 15.
use Rattle.std.specs.Prelude.{ℕ, ◌-◌, Bool, true, false, cond, not, ◌&&◌, List, ltb, get_or}
use Rattle.places.specs.declared.Stamped.{Stamped}
use Rattle.matching.specs.declared.Booking.{Booking}
use Rattle.rule.specs.declared.Copy.{Copy}
use Rattle.rule.specs.declared.Copy.TheVariants.{Free, Waiting, Prepared, Recording, RunningOn, ByTheClock}
use Rattle.rule.specs.declared.Timer.{Timer}
use Rattle.matching.specs.declared.Sight.{Sight}
use Rattle.matching.specs.declared.Sight.TheVariants.{Nothing, Prepare, Start}
use Rattle.places.specs.Places.{no_label}
use Rattle.matching.specs.Matching.{open_at, matches, sight_of}
use Rattle.clocked.specs.Clocked.{clocked}

-- ── Moments: how a copy goes on at second s ────────────────────────────────────────────────────────────────────────
-- 'whenever a copy becomes recording at a place or moves to one, it remembers the MI of the label there'
unfoldable pub recording_at : List Stamped → ℕ → Copy
recording_at ls p = Recording p (get_or ls p no_label).mi

-- for want of PRF 0: by the clock where that applies, 'which comes before prepared, and before the start after its 60 seconds, and ends it' (02,
-- #105), or else as is said next
unfoldable pub clock_or : ℕ → List Stamped → Booking → Copy → Copy
clock_or s ls b next = cond (clocked s ls b) ByTheClock next

-- 'not live: the lowest match with PRF 0 makes it recording. Failing that, any match with PRF 1 makes it prepared. Else it waits.'
-- 'The copy keeps the second at which it became prepared' (02, #101), which is this one
abbrev pub not_live : ℕ → List Stamped → Booking → Sight → Copy
not_live s ls b (Start q) = recording_at ls q
not_live s ls b (Prepare q) = clock_or s ls b (Prepared s)
not_live s ls b Nothing = clock_or s ls b Waiting

-- how long a copy is prepared
abbrev pub prepare_for : ℕ
prepare_for = 60

-- prepared from second v, it goes on as a timer that is not live, except that it keeps its second, and that 'a timer that has been prepared
-- without a break for more than 60 seconds now starts recording at the lowest place that matches' (02, #101)
abbrev pub from_prepared : ℕ → List Stamped → Booking → ℕ → Sight → Copy
from_prepared s ls b v (Start q) = recording_at ls q
from_prepared s ls b v (Prepare q) = clock_or s ls b (cond (ltb prepare_for (s - v)) (recording_at ls q) (Prepared v))
from_prepared s ls b v Nothing = clock_or s ls b Waiting

-- to the lowest place with a match and PRF 0, or else as is said next
abbrev pub moves_or : List Stamped → Sight → Copy → Copy
moves_or ls (Start q) next = recording_at ls q
moves_or ls (Prepare q) next = next
moves_or ls Nothing next = next

-- 'if p's label still matches, it stays so, whichever PRF is sent, and remembers that label's MI. If not, it moves to the lowest place with a
-- match and PRF 0. If there is none and the remembered MI is 0 it runs on, from this second. Else it goes on in this same moment as a timer
-- that is not live.'
unfoldable pub from_recording : ℕ → List Stamped → Booking → ℕ → Bool → Copy
from_recording s ls b p mi =
    cond (matches s b (get_or ls p no_label)) (recording_at ls p)
    (moves_or ls (sight_of s ls b) (cond mi (not_live s ls b (sight_of s ls b)) (RunningOn p s)))

-- how long a copy runs on
abbrev pub run_for : ℕ
run_for = 30

-- 'the lowest place with a match and PRF 0 makes it recording there. Else it runs on while s - v < 30, and otherwise goes on in this same
-- moment as a timer that is not live.'
unfoldable pub from_running_on : ℕ → List Stamped → Booking → ℕ → ℕ → Copy
from_running_on s ls b p v =
    moves_or ls (sight_of s ls b) (cond (ltb (s - v) run_for) (RunningOn p v) (not_live s ls b (sight_of s ls b)))

-- the copy's next state, by cases of its present one
abbrev pub goes_on : ℕ → List Stamped → Booking → Copy → Copy
goes_on s ls b Free = Free
goes_on s ls b Waiting = not_live s ls b (sight_of s ls b)
goes_on s ls b (Prepared v) = from_prepared s ls b v (sight_of s ls b)
goes_on s ls b (Recording p mi) = from_recording s ls b p mi
goes_on s ls b (RunningOn p v) = from_running_on s ls b p v
goes_on s ls b ByTheClock = not_live s ls b (sight_of s ls b)  -- 'under Moments the timer is treated as not live' (02, #105)

abbrev pub held : Copy → Bool
held Free = false
held Waiting = true
held (Prepared v) = true
held (Recording p mi) = true
held (RunningOn p v) = true
held ByTheClock = true

-- 'a closed window comes before all of these: it ends a recording or run-on at once'; and 'where the new window isn't open yet, the copy ends at
-- once and the timer waits' (02, #107), so that a closed window is one that is not open
unfoldable pub next_copy : ℕ → List Stamped → Booking → Copy → Copy
next_copy s ls b c = cond (held c && not (open_at s b)) Waiting (goes_on s ls b c)

unfoldable pub next_timer : ℕ → List Stamped → Timer → Timer
next_timer s ls t = record { booking = t.booking; copy = next_copy s ls t.booking t.copy }

-- 'recording or running on': live by its labels
abbrev pub by_labels : Copy → Bool
by_labels Free = false
by_labels Waiting = false
by_labels (Prepared v) = false
by_labels (Recording p mi) = true
by_labels (RunningOn p v) = true
by_labels ByTheClock = false

-- 'live means recording or running on'; by the clock 'counts as live' (02, #105)
abbrev pub is_live : Copy → Bool
is_live Free = false
is_live Waiting = false
is_live (Prepared v) = false
is_live (Recording p mi) = true
is_live (RunningOn p v) = true
is_live ByTheClock = true

abbrev pub by_labels_timer : Timer → Bool
by_labels_timer t = by_labels t.copy

abbrev pub live_timer : Timer → Bool
live_timer t = is_live t.copy
