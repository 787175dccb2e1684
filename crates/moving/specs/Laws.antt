-- What is claimed of label updates, over the definitions of Moving alone. Proved in proofs/Proved.antt.
use Rattle.std.specs.Prelude.{ℕ, ◌≡◌, cond, List}
use Rattle.answer.specs.Answer.{refused, Unique}
use Rattle.label.specs.declared.Label.{Label}
use Rattle.label.specs.declared.pil.Service.TheVariants.{Programme}
use Rattle.label.specs.Pil.{service_of}
use Rattle.places.specs.declared.Stamped.{Stamped}
use Rattle.matching.specs.declared.Booking.{Booking}
use Rattle.rule.specs.declared.Timer.{Timer}
use Rattle.sixteen.specs.Sixteen.{is_nowhere}
use Rattle.moving.specs.declared.Verdict.{Verdict}
use Rattle.moving.specs.Moving.{meant, verdict_answer, update_for, moved_in}

pub record Laws : Type 0 where
  -- a service code with LUF 1, continuation and no-specific-value too, is no label that a programme goes on under: 11, or 7 where no timer matches
  pub codes_refused : (s : ℕ) (old : Stamped) (l : Label) (timers : List Timer) → (service_of l.pil ≡ Programme → ⊥) →
      update_for s old l timers ≡ refused (cond (is_nowhere (meant s old timers)) 7 11)
  -- each call's promise allows one outcome
  pub judge_unique : (s : ℕ) (old : Stamped) (l : Label) (timers : List Timer) → Unique (λ (r : Verdict). verdict_answer r ≡ update_for s old l timers)
  pub moved_in_unique : (s slot : ℕ) (b : Booking) (timers : List Timer) → Unique (λ r. r ≡ moved_in s slot b timers)
