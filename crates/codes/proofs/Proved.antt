-- The laws of the codes.
use Rattle.answer.proofs.Answers.{equation}
use Rattle.codes.specs.Laws.{Laws}
use Rattle.codes.specs.Codes.{is_colour, is_decimal, is_hexadecimal, figure, is_graphics, is_mark, is_pair, colour_by}

pub laws : Laws
laws = record {
  is_colour_unique = λ c. equation (is_colour c);
  is_decimal_unique = λ c. equation (is_decimal c);
  is_hexadecimal_unique = λ c. equation (is_hexadecimal c);
  figure_unique = λ c. equation (figure c);
  is_graphics_unique = λ c. equation (is_graphics c);
  is_mark_unique = λ c. equation (is_mark c);
  is_pair_unique = λ c d. equation (is_pair c d);
  colour_by_unique = λ k c. equation (colour_by k c);
}
