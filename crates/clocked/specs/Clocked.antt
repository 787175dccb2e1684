-- When the labels fail (document 02, #105; EN 300 231, clause 5 g)): the seconds at which a timer is recorded by the clock.
use Rattle.std.specs.Prelude.{ℕ, ◌+◌, ◌*◌, Bool, ◌&&◌, ◌||◌, List, leb, ltb, eqb}
use Rattle.calendar.specs.Calendar.{announced_at}
use Rattle.places.specs.Places.{labels_fail}
use Rattle.places.specs.declared.Stamped.{Stamped}
use Rattle.matching.specs.declared.Booking.{Booking}
use Rattle.matching.specs.Matching.{open_at}

-- 'a timer gains a home tuner and a length of 1 to 1,440 minutes'; 17: 'home tuner or length out of range'
unfoldable pub out_of_range : Booking → Bool
out_of_range b = ltb 3 b.tuner || eqb b.length 0 || ltb 1440 b.length

-- 'from its announced second until its length has passed', the length in minutes
unfoldable pub in_length : ℕ → Booking → Bool
in_length s b =
    let a = announced_at b.pil b.year in
    leb a s && ltb s (a + 60 * b.length)

-- 'from its announced second until its length has passed, inside its window'
unfoldable pub on_time : ℕ → Booking → Bool
on_time s b = in_length s b && open_at s b

-- 'while no label stands on any place of the home tuner, or timer-control stands on one, a timer that is neither recording nor running on is
-- recorded by the clock from its announced second until its length has passed, inside its window'
unfoldable pub clocked : ℕ → List Stamped → Booking → Bool
clocked s ls b = labels_fail s ls b.tuner && on_time s b
