-- A date and a time that are permitted are a real PIL.
use Prim.Native.Nat.{ℕ, zero, suc, ◌^◌, ◌<◌, ◌≤◌, ◌%◌}
use mathlib.Core.Path.{◌≡◌, refl, sym}
use mathlib.Core.Bool.{true, ◌&&◌}
use native.Mathlib.Omega.{arith}
use borrow.Author.Tests.{leb-true, ltb-true, le-leb}
use lib.Dec.{leb, ltb, eqb}
use Rattle.answer.specs.Answer.{given}
use Rattle.answer.proofs.Cases.{by_test, both_true}
use Rattle.figures.specs.Permitted.{is_time, is_date}
use Rattle.figures.specs.Permitted as figures
use Rattle.label.specs.Pil.{day_of, month_of, hour_of, minute_of}
use Rattle.calendar.specs.Calendar.{leap, days_in, day_exists, real_in, window_at, window_in}
use Rattle.calendar.proofs.Windows.{window_in_real}
use Rattle.preview.specs.declared.Programme.{Programme}
use Rattle.booked.specs.Timer.{pil_of}

-- the page's days of a month are the calendar's
days : (month year : ℕ) → 1 ≤ month → month ≤ 12 → figures.days_in month year ≡ days_in year month
unfolding days_in leap
days zero year h k = absurd (omega arith)
days (suc zero) year h k = refl
days (suc (suc zero)) year h k = by_test (eqb (year % 4) 0) (λ e. rw e refl) (λ e. rw e refl)
days (suc (suc (suc zero))) year h k = refl
days (suc (suc (suc (suc zero)))) year h k = refl
days (suc (suc (suc (suc (suc zero))))) year h k = refl
days (suc (suc (suc (suc (suc (suc zero)))))) year h k = refl
days (suc (suc (suc (suc (suc (suc (suc zero))))))) year h k = refl
days (suc (suc (suc (suc (suc (suc (suc (suc zero)))))))) year h k = refl
days (suc (suc (suc (suc (suc (suc (suc (suc (suc zero))))))))) year h k = refl
days (suc (suc (suc (suc (suc (suc (suc (suc (suc (suc zero)))))))))) year h k = refl
days (suc (suc (suc (suc (suc (suc (suc (suc (suc (suc (suc zero))))))))))) year h k = refl
days (suc (suc (suc (suc (suc (suc (suc (suc (suc (suc (suc (suc zero)))))))))))) year h k = refl
days (suc (suc (suc (suc (suc (suc (suc (suc (suc (suc (suc (suc (suc n))))))))))))) year h k = absurd (omega arith)

pub record Exists (day month year : ℕ) : Type 0 where
  pub month_from : 1 ≤ month
  pub month_to : month ≤ 12
  pub day_to : day ≤ 31
  pub exists : day_exists year month day ≡ true

month_short : (month year : ℕ) → figures.days_in month year ≤ 31
month_short month year =
    by_test (eqb month 2)
    (λ e. rw e (by_test (eqb (year % 4) 0) (λ f. rw f (omega arith)) (λ f. rw f (omega arith))))
    (λ e. rw e (by_test (figures.is_short month) (λ f. rw f (omega arith)) (λ f. rw f (omega arith))))

pub date_exists : (day month year : ℕ) → is_date day month year ≡ true → Exists day month year
unfolding day_exists
date_exists day month year e =
    let p = both_true (leb 1 month && leb month 12) (leb 1 day && leb day (figures.days_in month year)) e in
    let m = both_true (leb 1 month) (leb month 12) p.0 in
    let d = both_true (leb 1 day) (leb day (figures.days_in month year)) p.1 in
    let from = leb-true 1 month m.0 in
    let to = leb-true month 12 m.1 in
    record {
      month_from = from;
      month_to = to;
      day_to = omega (arith, leb-true day (figures.days_in month year) d.1, month_short month year);
      exists = rw (sym (days month year from to)) p.1;
    }

-- ── the PIL ────────────────────────────────────────────────────────────────────────────────────────────────────────
pub record Parts (q : Programme) : Type 0 where
  pub narrow : pil_of q < 2 ^ 20
  pub day : day_of (pil_of q) ≡ q.day
  pub month : month_of (pil_of q) ≡ q.month
  pub hour : hour_of (pil_of q) ≡ q.original.hour
  pub minute : minute_of (pil_of q) ≡ q.original.minute

pub pil_parts : (q : Programme) → q.day ≤ 31 → q.month ≤ 12 → q.original.hour < 24 → q.original.minute < 60 → Parts q
unfolding pil_of
pil_parts q d m h i = record { narrow = omega arith; day = omega arith; month = omega arith; hour = omega arith; minute = omega arith }

pub time_parts : (hour minute : ℕ) → is_time hour minute ≡ true → (hour < 24) × (minute < 60)
time_parts hour minute e =
    let p = both_true (ltb hour 24) (ltb minute 60) e in
    (ltb-true hour 24 p.0, ltb-true minute 60 p.1)

real : (q : Programme) → Parts q → Exists q.day q.month q.year → q.original.hour < 24 → q.original.minute < 60 →
    real_in (pil_of q) q.year ≡ true
unfolding real_in
real q p x h i =
    rw (p.day, p.month, p.hour, p.minute, x.exists, le-leb q.original.hour 23 (omega (arith, h)), le-leb q.original.minute 59 (omega (arith, i)))
    refl

pub window : (q : Programme) → Parts q → Exists q.day q.month q.year → q.original.hour < 24 → q.original.minute < 60 → q.year ≤ 99 →
    window_in (pil_of q) q.year ≡ given (window_at (pil_of q) q.year)
window q p x h i y = window_in_real (pil_of q) q.year y p.narrow (real q p x h i)
