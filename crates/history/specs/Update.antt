-- Label updates, through a sequence of calls (document 02, #107).
use Rattle.std.specs.Prelude.{ℕ, ◌≤◌, ◌≡◌, true, ◌&&◌, List, [], ◌∷◌, get_or}
use Rattle.answer.specs.Answer.{given}
use Rattle.label.specs.declared.Label.{Label}
use Rattle.label.specs.Packet.{reading_of}
use Rattle.calendar.specs.Calendar.{clock_end}
use Rattle.places.specs.declared.Stamped.{Stamped}
use Rattle.places.specs.Places.{no_label, flag}
use Rattle.matching.specs.declared.Booking.{Booking}
use Rattle.sixteen.specs.Sixteen.{active, same_booking}
use Rattle.moving.specs.Moving.{Update, moves, update_for}
use Rattle.desk.specs.declared.Desk.{Desk}
use Rattle.desk.specs.Calls.{place_of, timer_at}
use Rattle.history.specs.Run.{Call, packet, cancel, outcome, left}

-- what a packet's place holds
abbrev pub standing_at : ℕ → Label → Desk → Stamped
standing_at tuner l d = get_or d.places (place_of tuner l) no_label

-- a call is an accepted packet with LUF 1, and asks for u
pub record Asks (u : Update) (c : Call) (d : Desk) : Type 0 where
  pub tuner : ℕ
  pub t : ℕ
  pub bytes : List ℕ
  pub label : Label
  pub call : c ≡ packet tuner t bytes
  -- neither 8, 9 nor 10
  pub four : tuner ≤ 3
  pub from : d.clock ≤ t
  pub to : t ≤ clock_end
  -- none of 1 to 6
  pub read : reading_of bytes ≡ given label
  pub luf : flag label.luf ≡ true
  -- nor 7, 11 or 12
  pub asks : update_for t (standing_at tuner label d) label d.timers ≡ given u

-- 'another timer held the new label in that year': another slot's, held and not ended at second s
pub record OtherHolds (slot : ℕ) (b : Booking) (s : ℕ) (d : Desk) : Type 0 where
  pub other : ℕ
  pub apart : other ≡ slot → ⊥
  pub holds : (active s (timer_at d other) && same_booking b (timer_at d other).booking) ≡ true

-- a call neither cancels a slot's timer nor is an accepted update of it
abbrev pub Spares : ℕ → Call → Desk → Type 0
Spares slot c d = (c ≡ cancel slot → ⊥) × ((b : Booking) → Asks (moves slot b) c d → ⊥)

-- and none of these calls, when its turn comes
abbrev pub AllSpare : ℕ → List Call → Desk → Type 0
AllSpare slot [] d = Unit {0}
AllSpare slot (c ∷ cs) d = Spares slot c d × AllSpare slot cs (left d (outcome c d))
