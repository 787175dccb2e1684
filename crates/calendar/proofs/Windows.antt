-- Where a window lies: within the clock, how long, around its announced time, and beside other windows.
use Prim.Native.Nat.{ℕ, suc, ◌+◌, ◌^◌, ◌≤◌, ◌<◌}
use mathlib.Core.Bool.{true, false, cond, not, ◌||◌}
use mathlib.Core.Path.{◌≡◌}
use native.Mathlib.Decide.{dec_lt}
use native.Mathlib.Omega.{arith}
use borrow.Author.Tests.{leb-true, ltb-true, ltb-false, lt-ltb, le-ltb, not-false}
use lib.Dec.{leb, ltb}
use Rattle.answer.specs.Answer.{given}
use Rattle.label.specs.Pil.{twenty_bits, day_of, month_of, hour_of, minute_of}
use Rattle.calendar.specs.Calendar.{day_exists, real_in, date_of, hours, clock_at, clock_end, opening, closing, opens_at, closes_at, announced_at, window_at, window_in}
use Rattle.calendar.specs.Laws.{InWindow}
use Rattle.calendar.specs.declared.Window.{Window}
use Rattle.answer.proofs.Cases.{by_test, both_true, both_false}
use Rattle.calendar.proofs.Counting.{closed_form, day_number_lt, day_number_years}

-- the window of a date and an hour
module _ (date hour : ℕ) where
  opening_le : opening date hour ≤ clock_at date 0
  unfolding opening
  opening_le = by_test (leb hour 3) (λ e. rw e (omega arith)) (λ e. rw e (omega arith))

  opening_ge : clock_at date 0 ≤ opening date hour + hours 4
  unfolding opening
  opening_ge = by_test (leb hour 3) (λ e. rw e (omega arith)) (λ e. rw e (omega arith))

  opening_length : 1 ≤ date → closing date ≡ opening date hour + cond (leb hour 3) (hours 32) (hours 28)
  unfolding opening closing
  opening_length h = by_test (leb hour 3) (λ e. rw e (omega arith)) (λ e. rw e (omega arith))

  opening_next : closing date ≡ opening (date + 1) hour + cond (leb hour 3) (hours 8) (hours 4)
  unfolding opening closing
  opening_next = by_test (leb hour 3) (λ e. rw e (omega arith)) (λ e. rw e (omega arith))

pub window_length : (pil year : ℕ) → 1 ≤ date_of pil year → closes_at pil year ≡ opens_at pil year + cond (leb (hour_of pil) 3) (hours 32) (hours 28)
unfolding opens_at closes_at
window_length pil year h = opening_length (date_of pil year) (hour_of pil) h

pub cut_at_start : (pil year : ℕ) → date_of pil year ≡ 0 → (opens_at pil year ≡ 0) × (closes_at pil year ≡ hours 28)
unfolding opens_at closes_at closing
cut_at_start pil year e =
    let h = opening_le (date_of pil year) (hour_of pil) in
    (omega arith, omega arith)

-- whatever the PIL and the year, a window is not empty
opens_lt_closes : (pil year : ℕ) → opens_at pil year < closes_at pil year
unfolding opens_at closes_at closing
opens_lt_closes pil year = omega (arith, opening_le (date_of pil year) (hour_of pil))

pub real_in_parts : (pil year : ℕ) → real_in pil year ≡ true → (day_exists year (month_of pil) (day_of pil) ≡ true) × (hour_of pil ≤ 23) × (minute_of pil ≤ 59)
unfolding real_in
real_in_parts pil year e =
    let p = both_true _ (leb (minute_of pil) 59) e in
    let q = both_true _ (leb (hour_of pil) 23) p.0 in
    (q.0, leb-true (hour_of pil) 23 q.1, leb-true (minute_of pil) 59 p.1)

closes_le_end : (pil year : ℕ) → year ≤ 99 → real_in pil year ≡ true → closes_at pil year ≤ clock_end
unfolding closes_at closing
closes_le_end pil year h e = omega (arith, day_number_lt year (month_of pil) (day_of pil) (real_in_parts pil year e).0, closed_form (suc year))

pub within_clock : (pil year : ℕ) → year ≤ 99 → real_in pil year ≡ true → (opens_at pil year < closes_at pil year) × (closes_at pil year ≤ clock_end)
within_clock pil year h e = (opens_lt_closes pil year, closes_le_end pil year h e)

pub announced_within : (pil year : ℕ) → real_in pil year ≡ true → InWindow pil year (announced_at pil year)
unfolding opens_at closes_at closing announced_at
announced_within pil year e =
    let p = real_in_parts pil year e in
    (omega (arith, opening_le (date_of pil year) (hour_of pil)), omega arith)

-- days that are no neighbours have windows that do not meet
closes_le_opens : (pil year other otherYear : ℕ) → date_of pil year + 2 ≤ date_of other otherYear → closes_at pil year ≤ opens_at other otherYear
unfolding opens_at closes_at closing
closes_le_opens pil year other otherYear h = omega (arith, opening_ge (date_of other otherYear) (hour_of other))

-- in a later year the same PIL opens after it has closed
closes_le_opens_later : (pil year other : ℕ) → year < other → closes_at pil year ≤ opens_at pil other
closes_le_opens_later pil year other h = closes_le_opens pil year pil other (day_number_years year other (month_of pil) (day_of pil) h)

pub one_year : (pil year other second : ℕ) → InWindow pil year second → InWindow pil other second → year ≡ other
one_year pil year other second a b =
    elim (dec_lt year other) [
      | yes l ↦ absurd (omega (arith, closes_le_opens_later pil year other l))
      | no l ↦
          elim (dec_lt other year) [
            | yes m ↦ absurd (omega (arith, closes_le_opens_later pil other year m))
            | no m ↦ omega arith
          ]
    ]

pub same_close : (pil other year : ℕ) → day_of pil ≡ day_of other → month_of pil ≡ month_of other → closes_at pil year ≡ closes_at other year
unfolding closes_at
same_close pil other year d m = rw (d, m)

pub overlap : (pil year next nextYear : ℕ) → date_of next nextYear ≡ date_of pil year + 1
    → (opens_at pil year ≤ opens_at next nextYear) × (closes_at pil year ≤ closes_at next nextYear)
    × (closes_at pil year ≡ opens_at next nextYear + cond (leb (hour_of next) 3) (hours 8) (hours 4))
unfolding opens_at closes_at closing
overlap pil year next nextYear e =
    rw e (
      omega (arith, opening_le (date_of pil year) (hour_of pil), opening_ge (date_of pil year + 1) (hour_of next)),
      omega arith,
      opening_next (date_of pil year) (hour_of next),
    )

-- what is not refused is real
pub accepted : (pil year : ℕ) → (ltb 99 year || not (twenty_bits pil) || not (real_in pil year)) ≡ false → (year ≤ 99) × (pil < 2 ^ 20) × (real_in pil year ≡ true)
accepted pil year e =
    let p = both_false _ (not (real_in pil year)) e in
    let q = both_false (ltb 99 year) (not (twenty_bits pil)) p.0 in
    (ltb-false 99 year q.0, ltb-true pil (2 ^ 20) (not-false _ q.1), not-false _ p.1)

-- what is real is given its window, and nothing else is given one
pub window_in_real : (pil year : ℕ) → year ≤ 99 → pil < 2 ^ 20 → real_in pil year ≡ true → window_in pil year ≡ given (window_at pil year)
unfolding window_in
window_in_real pil year h k e = rw (le-ltb 99 year, lt-ltb pil (2 ^ 20), e)

pub window_in_given : (pil year : ℕ) (window : Window) → window_in pil year ≡ given window
    → (year ≤ 99) × (pil < 2 ^ 20) × (real_in pil year ≡ true) × (window ≡ window_at pil year)
unfolding window_in
window_in_given pil year window g =
    by_test (ltb 99 year || not (twenty_bits pil) || not (real_in pil year))
    (λ e. absurd (let f = rw e at g in let z : ◌≡◌ {A = ℕ} 0 1 = cc in omega arith))
    (λ e. let f = rw e at g in let p = accepted pil year e in (p.0, p.1, p.2, cc))
