-- What is claimed of the calendar, over the definitions of Calendar alone. Proved in proofs/Proved.antt.
use Rattle.std.specs.Prelude.{ℕ, ◌+◌, ◌*◌, ◌/◌, ◌≤◌, ◌<◌, true, cond, ◌≡◌, leb, Option}
use Rattle.answer.specs.Answer.{Unique}
use Rattle.label.specs.Pil.{day_of, month_of, hour_of}
use Rattle.calendar.specs.Calendar.{days_in, real_in, days_before_year, day_number, date_of, hours, clock_end, opens_at, closes_at, announced_at, validity_answer, window_in}
use Rattle.calendar.specs.declared.Window.{Window}

-- a second of the PIL's window in the year
abbrev pub InWindow : ℕ → ℕ → ℕ → Type 0
InWindow pil year second = (opens_at pil year ≤ second) × (second < closes_at pil year)

pub record Laws : Type 0 where
  -- days are counted right: 1 January 2000 is 0, ..
  pub first_day : day_number 0 1 1 ≡ 0
  -- .. and a date's number is one more than that of the date before, within a month, ..
  pub next_day : (year month day : ℕ) → 1 ≤ day → day_number year month (day + 1) ≡ day_number year month day + 1
  -- .. from the last of a month to the first of the next, ..
  pub next_month : (year month : ℕ) → 1 ≤ month → month ≤ 11 → day_number year (month + 1) 1 ≡ day_number year month (days_in year month) + 1
  -- .. and from 31 December to 1 January
  pub next_year : (year : ℕ) → day_number (year + 1) 1 1 ≡ day_number year 12 31 + 1
  -- the count of the days before a year in closed form
  pub closed_form : (year : ℕ) → days_before_year year ≡ 365 * year + (year + 3) / 4
  -- a real PIL's window lies within the clock, and is not empty
  pub within_clock : (pil year : ℕ) → year ≤ 99 → real_in pil year ≡ true → (opens_at pil year < closes_at pil year) × (closes_at pil year ≤ clock_end)
  -- a window is 28 or 32 hours long, ..
  pub window_length : (pil year : ℕ) → 1 ≤ date_of pil year → closes_at pil year ≡ opens_at pil year + cond (leb (hour_of pil) 3) (hours 32) (hours 28)
  -- .. but for the cut at 0, on the first day: there it has the 28 hours of that day and the next night, whatever the hour
  pub cut_at_start : (pil year : ℕ) → date_of pil year ≡ 0 → (opens_at pil year ≡ 0) × (closes_at pil year ≡ hours 28)
  -- the announced time lies in the window
  pub announced_within : (pil year : ℕ) → real_in pil year ≡ true → InWindow pil year (announced_at pil year)
  -- windows of one PIL in two different years do not meet
  pub one_year : (pil year other second : ℕ) → InWindow pil year second → InWindow pil other second → year ≡ other
  -- a window's close is the same for every hour of a date
  pub same_close : (pil other year : ℕ) → day_of pil ≡ day_of other → month_of pil ≡ month_of other → closes_at pil year ≡ closes_at other year
  -- of two successive days the later opens and closes no earlier, so that the windows overlap from its opening to the other's close:
  -- 8 hours if its hour is 0 to 3, else 4. The cut at 0 never shortens this, since the later day is not the first
  pub overlap : (pil year next nextYear : ℕ) → date_of next nextYear ≡ date_of pil year + 1
      → (opens_at pil year ≤ opens_at next nextYear) × (closes_at pil year ≤ closes_at next nextYear)
      × (closes_at pil year ≡ opens_at next nextYear + cond (leb (hour_of next) 3) (hours 8) (hours 4))
  -- any two outcomes that the promise of `window_of` allows are equal, ..
  pub window_unique : (pil year : ℕ) → Unique (λ (r : Option Window). validity_answer r ≡ window_in pil year)
  -- .. and of `announced_of`
  pub announced_unique : (pil year : ℕ) → Unique (λ r. r ≡ announced_at pil year)
