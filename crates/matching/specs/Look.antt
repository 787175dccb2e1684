-- What the promises of the crate's own parts cite: the match without the window, and what a timer would see if its window were open.
use Rattle.std.specs.Prelude.{ℕ, Bool, not, ◌&&◌, List, eqb, position}
use Rattle.places.specs.Places.{stands}
use Rattle.matching.specs.Matching.{sight_by}
use Rattle.places.specs.declared.Stamped.{Stamped}
use Rattle.matching.specs.declared.Booking.{Booking}
use Rattle.matching.specs.declared.Sight.{Sight}

-- a standing label of the timer's programme
unfoldable pub named : ℕ → Booking → Stamped → Bool
named s b l = eqb l.pil b.pil && stands s l && eqb l.cni b.cni

unfoldable pub look_of : ℕ → List Stamped → Booking → Sight
look_of s ls b = sight_by (position (λ l. named s b l && not l.prf) ls) (position (named s b) ls)
