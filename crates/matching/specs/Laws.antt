-- What is claimed of the match, over the definitions of Matching alone. Proved in proofs/Proved.antt.
use Rattle.std.specs.Prelude.{ℕ, ◌≡◌, false, List}
use Rattle.answer.specs.Answer.{refused, Unique}
use Rattle.label.specs.declared.pil.Service.TheVariants.{Programme}
use Rattle.label.specs.Pil.{service_of}
use Rattle.calendar.specs.Calendar.{real_in, window_in}
use Rattle.places.specs.declared.Stamped.{Stamped}
use Rattle.matching.specs.declared.Booking.{Booking}
use Rattle.matching.specs.Matching.{open_at, ended_at, matches, sight_of}

pub record Laws : Type 0 where
  -- 'other service codes and no-specific-value' are labels 'that match no timer', whatever was booked
  pub codes_match_nothing : (s : ℕ) (b : Booking) (l : Stamped) → (service_of l.pil ≡ Programme → ⊥) → matches s b l ≡ false
  -- nor is there a match with a PIL that is not real in the timer's year, ..
  pub unreal_matches_nothing : (s : ℕ) (b : Booking) (l : Stamped) → real_in b.pil b.year ≡ false → matches s b l ≡ false
  -- .. nor with anything else that could not be added
  pub refused_matches_nothing : (s : ℕ) (b : Booking) (l : Stamped) (n : ℕ) → window_in b.pil b.year ≡ refused n → matches s b l ≡ false
  -- each call's promise allows one outcome
  pub open_at_unique : (s : ℕ) (b : Booking) → Unique (λ r. r ≡ open_at s b)
  pub ended_at_unique : (s : ℕ) (b : Booking) → Unique (λ r. r ≡ ended_at s b)
  pub matches_unique : (s : ℕ) (b : Booking) (l : Stamped) → Unique (λ r. r ≡ matches s b l)
  pub sight_of_unique : (s : ℕ) (ls : List Stamped) (b : Booking) → Unique (λ r. r ≡ sight_of s ls b)
