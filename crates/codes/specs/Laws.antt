-- What is claimed of the codes. Proved in proofs/Proved.antt.
use Rattle.std.specs.Prelude.{ℕ, ◌≡◌, Bool}
use Rattle.answer.specs.Answer.{Unique}
use Rattle.codes.specs.declared.Colour.{Colour}
use Rattle.codes.specs.Codes.{is_colour, is_decimal, is_hexadecimal, figure, is_graphics, is_mark, is_pair, colour_by}

pub record Laws : Type 0 where
  -- each call's promise allows one outcome
  pub is_colour_unique : (c : ℕ) → Unique (λ (r : Bool). r ≡ is_colour c)
  pub is_decimal_unique : (c : ℕ) → Unique (λ (r : Bool). r ≡ is_decimal c)
  pub is_hexadecimal_unique : (c : ℕ) → Unique (λ (r : Bool). r ≡ is_hexadecimal c)
  pub figure_unique : (c : ℕ) → Unique (λ (r : ℕ). r ≡ figure c)
  pub is_graphics_unique : (c : ℕ) → Unique (λ (r : Bool). r ≡ is_graphics c)
  pub is_mark_unique : (c : ℕ) → Unique (λ (r : Bool). r ≡ is_mark c)
  pub is_pair_unique : (c d : ℕ) → Unique (λ (r : Bool). r ≡ is_pair c d)
  pub colour_by_unique : (k : Colour) (c : ℕ) → Unique (λ r. r ≡ colour_by k c)
