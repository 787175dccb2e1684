-- The places (document 01, amended by 02): what is heard at one, how long it stands, and the lowest of them. A second is a number of the clock; a
-- place is a number from 0 to 15.
use Rattle.std.specs.Prelude.{ℕ, suc, ◌+◌, ◌-◌, ◌*◌, Bool, true, false, cond, not, ◌&&◌, ◌||◌, List, [], ◌∷◌, map, leb, eqb, get_or, Option}
pub use Rattle.std.specs.Prelude.{None as nowhere, Some as at}
use Rattle.answer.specs.Lists.{some}
use Rattle.label.specs.declared.Label.{Label}
use Rattle.label.specs.declared.pil.Service.{Service}
use Rattle.label.specs.declared.pil.Service.TheVariants.{Programme, TimerControl, InhibitTerminate, Interruption, Continuation, NoSpecificValue}
use Rattle.label.specs.Pil.{service_of}
use Rattle.places.specs.declared.Stamped.{Stamped}

-- ── Standing ───────────────────────────────────────────────────────────────────────────────────────────────────────
-- 'no label at any place'
abbrev pub no_label : Stamped
no_label = record { heard = false; stamp = 0; cni = 0; pil = 0; prf = false; mi = false }

-- how long a label stands
abbrev pub stand_for : ℕ
stand_for = 5

-- 'a label stands at second s if s - stamp ≤ 5'
unfoldable pub stands : ℕ → Stamped → Bool
stands s l = l.heard && leb (s - l.stamp) stand_for

abbrev pub flag : ℕ → Bool
flag b = not (eqb b 0)

-- 'puts its label at its place, stamped t'
abbrev pub stamped : ℕ → Label → Stamped
stamped t l = record { heard = true; stamp = t; cni = l.cni; pil = l.pil; prf = flag l.prf; mi = flag l.mi }

-- 'it sets the stamp of a label that stands there to t and does nothing to an empty or lapsed place'
abbrev pub renewed : ℕ → Stamped → Stamped
renewed t old =
    cond (stands t old) (record { heard = old.heard; stamp = t; cni = old.cni; pil = old.pil; prf = old.prf; mi = old.mi }) old

abbrev pub is_continuation : Service → Bool
is_continuation Programme = false
is_continuation TimerControl = false
is_continuation InhibitTerminate = false
is_continuation Interruption = false
is_continuation Continuation = true
is_continuation NoSpecificValue = false

-- what a place holds after a label at second t: 'a continuation code puts no label', 'other service codes and no-specific-value stand as labels'
unfoldable pub heard_at : ℕ → Label → Stamped → Stamped
heard_at t l old = cond (is_continuation (service_of l.pil)) (renewed t old) (stamped t l)

-- ── When the labels fail (02, #105) ────────────────────────────────────────────────────────────────────────────────
-- the labels at the places of a tuner, 'ordered by tuner, then LCI'
abbrev pub of_tuner : ℕ → List Stamped → List Stamped
of_tuner tuner ls = map (λ lci. get_or ls (tuner * 4 + lci) no_label) (0 ∷ 1 ∷ 2 ∷ 3 ∷ [])

abbrev pub is_timer_control : Service → Bool
is_timer_control Programme = false
is_timer_control TimerControl = true
is_timer_control InhibitTerminate = false
is_timer_control Interruption = false
is_timer_control Continuation = false
is_timer_control NoSpecificValue = false

-- 'timer-control stands'
unfoldable pub timer_control : ℕ → Stamped → Bool
timer_control s l = stands s l && is_timer_control (service_of l.pil)

-- 'no label stands on any place of the home tuner, or timer-control stands on one'
unfoldable pub labels_fail : ℕ → List Stamped → ℕ → Bool
labels_fail s ls tuner = not (some (stands s) (of_tuner tuner ls)) || some (timer_control s) (of_tuner tuner ls)

-- ── The lowest ─────────────────────────────────────────────────────────────────────────────────────────────────────
-- the number that is found, `at` one or `nowhere`
abbrev pub Found : Type 0
Found = Option ℕ

-- the lowest number, counted from i, whose element passes
abbrev pub lowest_from : {A : Type 0} → (A → Bool) → ℕ → List A → Found
lowest_from f i [] = nowhere
lowest_from f i (x ∷ xs) = cond (f x) (at i) (lowest_from f (suc i) xs)

abbrev pub lowest : {A : Type 0} → (A → Bool) → List A → Found
lowest f xs = lowest_from f 0 xs
