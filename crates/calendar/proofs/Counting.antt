-- Days are counted right, and the code's table of sums and its closed form give the counts.
use Prim.Native.Nat.{ℕ, zero, suc, ◌+◌, ◌*◌, ◌/◌, ◌≤◌, ◌<◌}
use mathlib.Core.Bool.{Bool, true, false, cond, ◌&&◌}
use mathlib.Core.List.{List, [], ◌∷◌}
use mathlib.Core.Path.{◌≡◌, refl}
use native.Mathlib.Decide.{dec_lt}
use native.Mathlib.Numerals.{add-one}
use native.Mathlib.Omega.{arith}
use borrow.Author.Tests.{ne_eqb, eqb-true, eqb-false, leb-true, lt-ltb}
use lib.Dec.{T, eqb, leb, ltb, eqb→eq, leb→le}
use lib.ListN.{get_or, get_or-eq_default}
use Rattle.answer.proofs.All.{both, both_left, both_right, below, each}
use Rattle.answer.proofs.Cases.{by_test, both_true}
use Rattle.calendar.specs.Calendar.{leap, month_lengths, days_in, day_exists, sum_below, days_before_month, days_of_year, days_before_year, day_number}

abbrev leap_day : Bool → ℕ
leap_day t = cond t 1 0

pub leap_day_le : (t : Bool) → leap_day t ≤ 1
leap_day_le true = omega arith
leap_day_le false = omega arith

sum_below_le : (f : ℕ → ℕ) (m n : ℕ) → m ≤ n → sum_below f m ≤ sum_below f n
unfolding sum_below
sum_below_le f m zero h = let e : m ≡ 0 = omega arith in rw e (omega arith)
sum_below_le f m (suc n) h =
    elim (dec_lt n m) [
      | yes l ↦ let e : m ≡ suc n = omega arith in rw e (omega arith)
      | no l ↦ omega (arith, sum_below_le f m n (omega arith))
    ]

-- the months of a year, leap where t is true
days : Bool → ℕ → ℕ
days t month = get_or month_lengths month 0 + leap_day (eqb month 2 && t)

pub days_in_none : (year month : ℕ) → 12 < month → days_in year month ≡ 0
unfolding days_in
days_in_none year month h = rw (get_or-eq_default month_lengths 0 h, ne_eqb month 2 (λ (e : month ≡ 2). omega arith))

usual : Bool → ℕ → Bool
usual t month = both (leb 28 (days t (suc month))) (leb (days t (suc month)) 31)

all_usual : (t : Bool) → T (below (usual t) 12)
unfolding usual days
all_usual true = tt
all_usual false = tt

days_in_usual : (year month : ℕ) → 1 ≤ month → month ≤ 12 → (28 ≤ days_in year month) × (days_in year month ≤ 31)
unfolding days_in usual days
days_in_usual year zero p q = absurd (omega arith)
days_in_usual year (suc m) p q =
    let n = days_in year (suc m) in
    let t = each (usual (leap year)) 12 (all_usual (leap year)) m (omega arith) in
    (leb→le 28 n (both_left (leb 28 n) (leb n 31) t), leb→le n 31 (both_right (leb 28 n) (leb n 31) t))

-- the code's table
abbrev sums : List ℕ
sums = 0 ∷ 0 ∷ 31 ∷ 59 ∷ 90 ∷ 120 ∷ 151 ∷ 181 ∷ 212 ∷ 243 ∷ 273 ∷ 304 ∷ 334 ∷ []

summed : Bool → ℕ → Bool
summed t month = eqb (sum_below (days t) month) (get_or sums month 365 + leap_day (ltb 2 month && t))

all_summed : (t : Bool) → T (below (summed t) 13)
unfolding summed days sum_below
all_summed true = tt
all_summed false = tt

pub days_before_month_sums : (year month : ℕ) → month ≤ 12 → days_before_month year month ≡ get_or sums month 365 + leap_day (ltb 2 month && leap year)
unfolding days_before_month days_in days summed
days_before_month_sums year month h = eqb→eq _ _ (each (summed (leap year)) 13 (all_summed (leap year)) month (omega arith))

days_all : (t : Bool) → sum_below (days t) 13 ≡ 365 + leap_day t
unfolding days sum_below
days_all true = refl
days_all false = refl

pub days_of_year_leap : (year : ℕ) → days_of_year year ≡ 365 + leap_day (leap year)
unfolding days_of_year days_before_month days_in days
days_of_year_leap year = days_all (leap year)

-- past December no day is added
pub days_before_month_past : (year month : ℕ) → 12 < month → days_before_month year month ≡ 365 + leap_day (leap year)
unfolding days_of_year days_before_month sum_below
days_before_month_past year zero h = absurd (omega arith)
days_before_month_past year (suc m) h =
    elim (dec_lt 12 m) [
      | yes l ↦ omega (arith, days_in_none year m l, days_before_month_past year m l)
      | no l ↦ let e : m ≡ 12 = omega arith in rw e (days_of_year_leap year)
    ]

pub days_before_month_table : (year month : ℕ) → days_before_month year month ≡ get_or sums month 365 + leap_day (ltb 2 month && leap year)
days_before_month_table year month =
    elim (dec_lt 12 month) [
      | yes l ↦ rw (get_or-eq_default sums 365 l, lt-ltb 2 month (omega arith)) (days_before_month_past year month l)
      | no l ↦ days_before_month_sums year month (omega arith)
    ]

-- two years differ in their leap day alone
days_before_month_le_other : (year other month : ℕ) → days_before_month year month ≤ days_before_month other month + 1
days_before_month_le_other year other month =
    elim (dec_lt 12 month) [
      | yes l ↦ omega (arith, days_before_month_past year month l, days_before_month_past other month l, leap_day_le (leap year))
      | no l ↦
          omega (
            arith,
            days_before_month_sums year month (omega arith),
            days_before_month_sums other month (omega arith),
            leap_day_le (ltb 2 month && leap year),
          )
    ]

-- one leap day more after each leap year
fourth : (year : ℕ) → (year + 3) / 4 + leap_day (leap year) ≡ (suc year + 3) / 4
unfolding leap
fourth year = by_test (leap year) (λ e. rw e (omega (arith, eqb-true))) (λ e. rw e (omega (arith, eqb-false)))

pub closed_form : (year : ℕ) → days_before_year year ≡ 365 * year + (year + 3) / 4
unfolding days_before_year sum_below
closed_form zero = refl
closed_form (suc year) = omega (arith, closed_form year, days_of_year_leap year, fourth year)

pub first_day : day_number 0 1 1 ≡ 0
unfolding day_number days_before_year days_before_month days_in sum_below
first_day = refl

pub next_day : (year month day : ℕ) → 1 ≤ day → day_number year month (day + 1) ≡ day_number year month day + 1
unfolding day_number
next_day year month day h = omega arith

days_before_month_next : (year month : ℕ) → days_before_month year (suc month) ≡ days_before_month year month + days_in year month
unfolding days_before_month sum_below
days_before_month_next year month = refl

days_before_year_next : (year : ℕ) → days_before_year (suc year) ≡ days_before_year year + days_of_year year
unfolding days_before_year sum_below
days_before_year_next year = refl

pub next_month : (year month : ℕ) → 1 ≤ month → month ≤ 11 → day_number year (month + 1) 1 ≡ day_number year month (days_in year month) + 1
unfolding day_number
next_month year month p q = rw (add-one month) (omega (arith, days_before_month_next year month, days_in_usual year month (omega arith) (omega arith)))

pub next_year : (year : ℕ) → day_number (year + 1) 1 1 ≡ day_number year 12 31 + 1
unfolding day_number
next_year year =
    rw (add-one year)
    (omega (
      arith,
      days_before_year_next year,
      days_of_year_leap year,
      days_before_month_sums (suc year) 1 (omega arith),
      days_before_month_sums year 12 (omega arith),
    ))

-- the days of the months up to one are among the year's
pub days_before_month_le : (year month : ℕ) → month ≤ 13 → days_before_month year month ≤ days_of_year year
unfolding days_of_year days_before_month
days_before_month_le year month h = sum_below_le (days_in year) month 13 h

before_next : (year month day : ℕ) → 1 ≤ day → day ≤ days_in year month → day_number year month day < days_before_year (suc year)
unfolding day_number
before_next year month day p q =
    elim (dec_lt month 13) [
      | yes l ↦ omega (arith, days_before_year_next year, days_before_month_next year month, days_before_month_le year (suc month) (omega arith))
      | no l ↦ absurd (omega (arith, days_in_none year month (omega arith)))
    ]

-- a day that exists lies before the next year
pub day_number_lt : (year month day : ℕ) → day_exists year month day ≡ true → day_number year month day < days_before_year (suc year)
unfolding day_exists
day_number_lt year month day e =
    let p = both_true (leb 1 day) (leb day (days_in year month)) e in
    before_next year month day (leb-true 1 day p.0) (leb-true day (days_in year month) p.1)

-- the same date of a later year is more than a day away
pub day_number_years : (year other month day : ℕ) → year < other → day_number year month day + 2 ≤ day_number other month day
unfolding day_number
day_number_years year other month day h =
    omega (arith, closed_form year, closed_form other, days_before_month_le_other year other month)
