-- The days of the clock, and the window of a PIL (document 01, 'PIL'; EN 300 231, clause 9.3). A year is counted from 2000.
use Rattle.std.specs.Prelude.{ℕ, zero, suc, ◌+◌, ◌-◌, ◌*◌, ◌%◌, Bool, cond, not, ◌&&◌, ◌||◌, List, [], ◌∷◌, leb, ltb, eqb, get_or, Option, Some, None}
use Rattle.answer.specs.Answer.{Answer, refused, given, first_of}
use Rattle.label.specs.Pil.{twenty_bits, day_of, month_of, hour_of, minute_of}
use Rattle.calendar.specs.declared.Window.{Window}

-- 'every fourth is leap, 2000 included'
unfoldable pub leap : ℕ → Bool
leap year = eqb (year % 4) 0

-- the days of the months 0 to 12 where the year is not leap: there is no month 0
abbrev pub month_lengths : List ℕ
month_lengths = 0 ∷ 31 ∷ 28 ∷ 31 ∷ 30 ∷ 31 ∷ 30 ∷ 31 ∷ 31 ∷ 30 ∷ 31 ∷ 30 ∷ 31 ∷ []

-- the days of a month in a year: February has one more where it is leap, and past 12 there is none
unfoldable pub days_in : ℕ → ℕ → ℕ
days_in year month = get_or month_lengths month 0 + cond (eqb month 2 && leap year) 1 0

-- 'the day exists in that month of that year'
unfoldable pub day_exists : ℕ → ℕ → ℕ → Bool
day_exists year month day = leb 1 day && leb day (days_in year month)

-- 'a PIL is real in a year if the day exists in that month of that year, hour ≤ 23 and minute ≤ 59'
unfoldable pub real_in : ℕ → ℕ → Bool
real_in pil year = day_exists year (month_of pil) (day_of pil) && leb (hour_of pil) 23 && leb (minute_of pil) 59

-- f 0 + f 1 + … + f (n - 1)
unfoldable pub sum_below : (ℕ → ℕ) → ℕ → ℕ
sum_below f zero = 0
sum_below f (suc n) = sum_below f n + f n

-- the days of a year before a month: the sum over the months before it
unfoldable pub days_before_month : ℕ → ℕ → ℕ
days_before_month year month = sum_below (days_in year) month

-- the days of a year: the sum over its twelve months
unfoldable pub days_of_year : ℕ → ℕ
days_of_year year = days_before_month year 13

-- the days before a year: the sum over the years before it
unfoldable pub days_before_year : ℕ → ℕ
days_before_year year = sum_below days_of_year year

-- how many days a date lies after 1 January 2000
unfoldable pub day_number : ℕ → ℕ → ℕ → ℕ
day_number year month day = days_before_year year + days_before_month year month + day - 1

abbrev pub date_of : ℕ → ℕ → ℕ
date_of pil year = day_number year (month_of pil) (day_of pil)

-- 'the clock counts seconds of local time from 1 January 2000, 00:00:00'
abbrev pub hours : ℕ → ℕ
hours n = n * 3600

abbrev pub clock_at : ℕ → ℕ → ℕ
clock_at date hour = hours (24 * date + hour)

-- 'the clock ends at 3,155,774,400, which is still allowed'
abbrev pub clock_end : ℕ
clock_end = 3155774400

-- 'from 00:00:00 of the date'; 'if the hour is 0 to 3 it opens at 20:00:00 of the day before, or at 0 where that lies before the clock's start'
-- (a difference of two numbers stops at 0)
unfoldable pub opening : ℕ → ℕ → ℕ
opening date hour = cond (leb hour 3) (clock_at date 20 - hours 24) (clock_at date 0)

-- 'up to, not including, 04:00:00 of the next day'
unfoldable pub closing : ℕ → ℕ
closing date = clock_at (date + 1) 4

unfoldable pub opens_at : ℕ → ℕ → ℕ
opens_at pil year = opening (date_of pil year) (hour_of pil)

unfoldable pub closes_at : ℕ → ℕ → ℕ
closes_at pil year = closing (date_of pil year)

-- 'its announced second' (02, #105): that of the PIL's own date and time in the year
unfoldable pub announced_at : ℕ → ℕ → ℕ
announced_at pil year = clock_at (date_of pil year) (hour_of pil) + minute_of pil * 60

abbrev pub window_at : ℕ → ℕ → Window
window_at pil year = record { opens = opens_at pil year; closes = closes_at pil year }

-- the number of the answer, and its value
abbrev pub validity_answer : Option Window → Answer Window
validity_answer None = refused 11
validity_answer (Some window) = given window

-- 11: 'year above 99, or PIL not real or wider than 20 bits'
unfoldable pub window_in : ℕ → ℕ → Answer Window
window_in pil year = first_of ((ltb 99 year || not (twenty_bits pil) || not (real_in pil year), 11) ∷ []) (window_at pil year)
