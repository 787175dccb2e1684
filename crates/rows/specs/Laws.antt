-- What is claimed of a row. Proved in proofs/Proved.antt.
use Rattle.std.specs.Prelude.{ℕ, Bool, ◌≡◌, List}
use Rattle.answer.specs.Answer.{Unique}
use Rattle.figures.specs.declared.Value.{Value}
use Rattle.rows.specs.declared.Row.{Row}
use Rattle.rows.specs.Row.{Content, RowContains}
use Rattle.rows.specs.Taken.{found_here, titled_by, is_text_value, row_next, row_start, row_given}

pub record Laws : Type 0 where
  -- what is given out of a row, one code at a time, is what it contains,
  pub given_contained : (row : ℕ) (codes : List ℕ) → RowContains row codes (row_given row codes)
  -- and a row contains nothing else
  pub contained_given : (row : ℕ) (codes : List ℕ) (xs : List Content) → RowContains row codes xs → xs ≡ row_given row codes
  -- each call's promise allows one outcome
  pub is_text_unique : (v : Value) → Unique (λ (r : Bool). r ≡ is_text_value v)
  pub new_unique : Unique (λ r. r ≡ row_start)
  pub found_unique : (s : Row) (end : Bool) → Unique (λ r. r ≡ found_here s end)
  pub titled_unique : (s : Row) (pair text : Bool) → Unique (λ (r : Bool). r ≡ titled_by s pair text)
  pub next_unique : (s : Row) (c p : ℕ) (pair text : Bool) → Unique (λ r. r ≡ row_next s c p pair text)
