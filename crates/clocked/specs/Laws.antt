-- What is claimed of the clock's own seconds, over the definitions of Clocked alone. Proved in proofs/Proved.antt.
use Rattle.std.specs.Prelude.{ℕ, ◌+◌, ◌*◌, ◌≤◌, ◌<◌, ◌≡◌, true, false}
use Rattle.answer.specs.Answer.{given, Unique}
use Rattle.calendar.specs.Calendar.{announced_at, window_in}
use Rattle.calendar.specs.declared.Window.{Window}
use Rattle.matching.specs.Matching.{ended_at}
use Rattle.matching.specs.declared.Booking.{Booking}
use Rattle.clocked.specs.Clocked.{out_of_range, on_time}

pub record Laws : Type 0 where
  -- a timer that can be added has its announced second inside its length and window: the clock begins to record just then
  pub begins : (b : Booking) (w : Window) → window_in b.pil b.year ≡ given w → out_of_range b ≡ false → on_time (announced_at b.pil b.year) b ≡ true
  pub not_before : (s : ℕ) (b : Booking) → s < announced_at b.pil b.year → on_time s b ≡ false
  -- it ends when its length has passed, ..
  pub ends : (s : ℕ) (b : Booking) → announced_at b.pil b.year + 60 * b.length ≤ s → on_time s b ≡ false
  -- .. or where its window has ended
  pub ends_at_close : (s : ℕ) (b : Booking) → ended_at s b ≡ true → on_time s b ≡ false
  -- each call's promise allows one outcome
  pub out_of_range_unique : (b : Booking) → Unique (λ r. r ≡ out_of_range b)
  pub on_time_unique : (s : ℕ) (b : Booking) → Unique (λ r. r ≡ on_time s b)
