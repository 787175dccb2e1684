-- The clause's examples: what the pages are answered is computed, code by code, and is the grammar's answer.
use Prim.Native.Nat.{ℕ}
use mathlib.Core.Path.{◌≡◌, refl, subst}
use mathlib.Core.List.{List, [], ◌∷◌}
use Rattle.answer.specs.Answer.{Answer, refused, given}
use Rattle.codes.specs.Codes.{is_mark, colour_by}
use Rattle.formats.specs.Formats.{start_of}
use Rattle.formats.specs.Taken.{kind_in, kind_from}
use Rattle.sums.specs.Counted.{counted}
use Rattle.figures.specs.Permitted.{permitted, value_of}
use Rattle.rows.specs.Title.{is_opening}
use Rattle.rows.specs.Taken.{kind_here, title_here, row_next, row_after, given_here, given_from, row_given}
use Rattle.announced.specs.Times.{time, times_in}
use Rattle.announced.specs.Taken.{stage_from, announced_from}
use Rattle.originals.specs.Data.{data_in, with_network, with_date, with_offset, with_type, original_by}
use Rattle.originals.specs.Taken.{data_from, originals_from}
use Rattle.preview.specs.declared.Programme.{Programme}
use Rattle.preview.specs.Page.{too_high, all_permitted, sum_in, words_in, agrees, Answers}
use Rattle.preview.specs.Taken.{given_to, readable, answer_of}
use Rattle.preview.proofs.Readings.{answered}
use Rattle.clause.specs.Clause.{seven, left, right, programme, table6, Clause}

by_answer : (page : List ℕ) (a : Answer (List Programme)) → answer_of page ≡ a → Answers page a
by_answer page a e = subst (Answers page) e (answered page)

example_7 : answer_of seven ≡ given (programme 1 14 (time 20 0) (time 20 15) 15 (time 20 0) 0x81 ∷ [])
unfolding answer_of given_to readable too_high all_permitted sum_in words_in agrees times_in data_in stage_from announced_from data_from originals_from with_network with_date with_offset with_type original_by permitted value_of counted row_given given_from given_here kind_here title_here row_after row_next kind_from kind_in is_mark colour_by start_of is_opening
example_7 = refl

left_printed : answer_of (left 57 67) ≡ refused 25
unfolding answer_of given_to readable too_high all_permitted sum_in words_in agrees times_in data_in stage_from announced_from data_from originals_from with_network with_date with_offset with_type original_by permitted value_of counted row_given given_from given_here kind_here title_here row_after row_next kind_from kind_in is_mark colour_by start_of is_opening
left_printed = refl

right_printed : answer_of (right 57 67) ≡ refused 25
unfolding answer_of given_to readable too_high all_permitted sum_in words_in agrees times_in data_in stage_from announced_from data_from originals_from with_network with_date with_offset with_type original_by permitted value_of counted row_given given_from given_here kind_here title_here row_after row_next kind_from kind_in is_mark colour_by start_of is_opening
right_printed = refl

left_read : answer_of (left 65 67) ≡ given (table6 14)
unfolding answer_of given_to readable too_high all_permitted sum_in words_in agrees times_in data_in stage_from announced_from data_from originals_from with_network with_date with_offset with_type original_by permitted value_of counted row_given given_from given_here kind_here title_here row_after row_next kind_from kind_in is_mark colour_by start_of is_opening
left_read = refl

right_read : answer_of (right 65 67) ≡ given (table6 8)
unfolding answer_of given_to readable too_high all_permitted sum_in words_in agrees times_in data_in stage_from announced_from data_from originals_from with_network with_date with_offset with_type original_by permitted value_of counted row_given given_from given_here kind_here title_here row_after row_next kind_from kind_in is_mark colour_by start_of is_opening
right_read = refl

pub clause : Clause
clause = record {
  example_7 = by_answer seven (given (programme 1 14 (time 20 0) (time 20 15) 15 (time 20 0) 0x81 ∷ [])) example_7;
  left_printed = by_answer (left 57 67) (refused 25) left_printed;
  right_printed = by_answer (right 57 67) (refused 25) right_printed;
  left_read = by_answer (left 65 67) (given (table6 14)) left_read;
  right_read = by_answer (right 65 67) (given (table6 8)) right_read;
}
