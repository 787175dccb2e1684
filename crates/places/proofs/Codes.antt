-- A code that is no continuation code stands as a label.
use Prim.Native.Nat.{ℕ, ◌-◌}
use mathlib.Core.Path.{◌≡◌, refl}
use mathlib.Core.Bool.{true, false}
use native.Mathlib.Omega.{arith}
use borrow.Author.Tests.{le-leb}
use Rattle.label.specs.declared.Label.{Label}
use Rattle.label.specs.declared.pil.Service.{Service}
use Rattle.label.specs.declared.pil.Service.TheVariants.{Programme, TimerControl, InhibitTerminate, Interruption, Continuation, NoSpecificValue}
use Rattle.label.specs.Pil.{service_of}
use Rattle.places.specs.Places.{stand_for, stands, stamped, is_continuation, heard_at}
use Rattle.places.specs.declared.Stamped.{Stamped}

not_continued : (c : Service) → (c ≡ Continuation → ⊥) → is_continuation c ≡ false
not_continued Programme h = refl
not_continued TimerControl h = refl
not_continued InhibitTerminate h = refl
not_continued Interruption h = refl
not_continued Continuation h = absurd (h refl)
not_continued NoSpecificValue h = refl

pub codes_stand : (t : ℕ) (l : Label) (old : Stamped) → (service_of l.pil ≡ Continuation → ⊥) →
    (heard_at t l old ≡ stamped t l) × (stands t (heard_at t l old) ≡ true)
unfolding heard_at stands
codes_stand t l old h =
    let p : heard_at t l old ≡ stamped t l = rw (not_continued (service_of l.pil) h) in
    (p, rw p (le-leb (t - t) stand_for (omega arith)))
