-- The match of a standing label with a timer, and what a timer sees at the places (document 01, amended by 02).
use Rattle.std.specs.Prelude.{ℕ, Bool, true, false, not, ◌&&◌, List, ltb, leb, eqb}
use Rattle.answer.specs.Answer.{Answer, refused, given}
use Rattle.calendar.specs.declared.Window.{Window}
use Rattle.calendar.specs.Calendar.{window_in}
use Rattle.places.specs.declared.Stamped.{Stamped}
use Rattle.places.specs.Places.{stands, Found, nowhere, at, lowest}
use Rattle.matching.specs.declared.Booking.{Booking}
use Rattle.matching.specs.declared.Sight.{Sight}
use Rattle.matching.specs.declared.Sight.TheVariants.{Nothing, Prepare, Start}

-- ── Match ──────────────────────────────────────────────────────────────────────────────────────────────────────────
abbrev pub open_in : ℕ → Answer Window → Bool
open_in s (refused n) = false
open_in s (given w) = leb w.opens s && ltb s w.closes

-- the timer's window is open at second s; a booking that is not real has none
unfoldable pub open_at : ℕ → Booking → Bool
open_at s b = open_in s (window_in b.pil b.year)

abbrev pub closed_in : ℕ → Answer Window → Bool
closed_in s (refused n) = true
closed_in s (given w) = leb w.closes s

-- 'a window has ended when the clock has reached its close'
unfoldable pub ended_at : ℕ → Booking → Bool
ended_at s b = closed_in s (window_in b.pil b.year)

-- 'a standing label matches a timer if CNI and PIL are equal and the timer's window is open'
unfoldable pub matches : ℕ → Booking → Stamped → Bool
matches s b l = stands s l && eqb l.cni b.cni && eqb l.pil b.pil && open_at s b

-- ── what a timer goes by ───────────────────────────────────────────────────────────────────────────────────────────
abbrev pub sight_by : Found → Found → Sight
sight_by (at q) f = Start q
sight_by nowhere (at q) = Prepare q
sight_by nowhere nowhere = Nothing

-- 'the lowest match with PRF 0'; 'failing that, any match with PRF 1', and of these 'the lowest place that matches' (02, #101)
unfoldable pub sight_of : ℕ → List Stamped → Booking → Sight
sight_of s ls b = sight_by (lowest (λ l. matches s b l && not l.prf) ls) (lowest (matches s b) ls)
