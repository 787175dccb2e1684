-- The sixteen slots as a list (document 01, 'Timers and calls'): free ones, held ones, and the one that a new timer gets.
use Rattle.std.specs.Prelude.{ℕ, Bool, true, false, not, ◌&&◌, List, eqb}
use Rattle.places.specs.Places.{Found, nowhere, at, lowest}
use Rattle.matching.specs.Matching.{ended_at}
use Rattle.rule.specs.Rule.{held}
use Rattle.matching.specs.declared.Booking.{Booking}
use Rattle.rule.specs.declared.Timer.{Timer}
use Rattle.rule.specs.declared.Copy.TheVariants.{Free}

abbrev pub no_booking : Booking
no_booking = record { cni = 0; pil = 0; year = 0; tuner = 0; length = 0 }

-- a free slot
abbrev pub no_timer : Timer
no_timer = record { booking = no_booking; copy = Free }

-- 'held and not ended'
abbrev pub active : ℕ → Timer → Bool
active s t = held t.copy && not (ended_at s t.booking)

-- 'two timers are the same if all three agree', whatever home tuner and length
abbrev pub same_booking : Booking → Booking → Bool
same_booking a b = eqb a.cni b.cni && eqb a.pil b.pil && eqb a.year b.year

-- 'the lowest slot that is free or whose window has ended'
abbrev pub room_at : ℕ → List Timer → Found
room_at s timers = lowest (λ t. not (active s t)) timers

-- where no slot is found, 'all sixteen slots' are 'held and not ended'
abbrev pub is_nowhere : Found → Bool
is_nowhere nowhere = true
is_nowhere (at i) = false

-- the slot's number, and 16 where there is none
abbrev pub slot_of : Found → ℕ
slot_of nowhere = 16
slot_of (at i) = i
