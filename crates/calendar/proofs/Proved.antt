-- The laws of the calendar.
use Rattle.std.proofs.Common.{◌≡◌, refl, Option, Some, None}
use Rattle.answer.specs.Answer.{Answer, refused, given}
use Rattle.answer.proofs.Answers.{numbered, equation}
use Rattle.calendar.specs.Calendar.{announced_at, validity_answer, window_in}
use Rattle.calendar.specs.Laws.{Laws}
use Rattle.calendar.specs.declared.Window.{Window}
use Rattle.calendar.proofs.Counting.{first_day, next_day, next_month, next_year, closed_form}
use Rattle.calendar.proofs.Windows.{within_clock, window_length, cut_at_start, announced_within, one_year, same_close, overlap}

abbrev validity : Answer Window → Option Window
validity (refused n) = None
validity (given window) = Some window

validity_back : (r : Option Window) → validity (validity_answer r) ≡ r
validity_back None = refl
validity_back (Some window) = refl

pub laws : Laws
laws = record {
  first_day = first_day;
  next_day = next_day;
  next_month = next_month;
  next_year = next_year;
  closed_form = closed_form;
  within_clock = within_clock;
  window_length = window_length;
  cut_at_start = cut_at_start;
  announced_within = announced_within;
  one_year = one_year;
  same_close = same_close;
  overlap = overlap;
  window_unique = λ pil year. numbered validity_answer validity validity_back (window_in pil year);
  announced_unique = λ pil year. equation (announced_at pil year);
}
