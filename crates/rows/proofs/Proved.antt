-- The laws of a row.
use mathlib.Core.Path.{sym, ◌∙◌}
use mathlib.Core.Bool.{false}
use Rattle.answer.proofs.Answers.{equation}
use Rattle.codes.specs.declared.Colour.TheVariants as colour
use Rattle.rows.specs.Laws.{Laws}
use Rattle.rows.specs.Taken.{found_here, titled_by, is_text_value, row_next, row_start}
use Rattle.rows.proofs.Given.{row_given_lem}
use Rattle.rows.proofs.Contained.{ahead_contained, contained_ahead}

pub laws : Laws
laws = record {
  given_contained = λ row codes. rw (row_given_lem row codes) (ahead_contained row false colour.Plain 0 codes);
  contained_given = λ row codes xs w. contained_ahead row false colour.Plain 0 codes xs w ∙ sym (row_given_lem row codes);
  is_text_unique = λ v. equation (is_text_value v);
  new_unique = equation row_start;
  found_unique = λ s end. equation (found_here s end);
  titled_unique = λ s pair text. equation (titled_by s pair text);
  next_unique = λ s c p pair text. equation (row_next s c p pair text);
}
