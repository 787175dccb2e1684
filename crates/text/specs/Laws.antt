-- What is claimed of texts that are printed. Proved in proofs/Proved.antt.
use Rattle.std.specs.Prelude.{ℕ, ◌+◌, ◌≤◌, ◌≡◌, Bool, List, length}
use Rattle.answer.specs.Text.{Stored}
use Rattle.text.specs.declared.Printer.{Printer}
use Rattle.text.specs.Printed.{Follows}
use Rattle.text.specs.Columns.{column_in, pair, signed, hour_minute, quarters, number_line}

pub record Laws : Type 0 where
  -- how long each text is at most
  pub column_room : (k n : ℕ) → length (column_in k n) ≤ 1 + k
  pub pair_room : (a b : ℕ) → length (pair a b) ≤ 8
  pub signed_room : (sign : ℕ) (shown : Bool) → length (signed sign shown) ≤ 2
  pub hour_minute_room : (h m : ℕ) → length (hour_minute h m) ≤ 7
  pub quarters_room : (q : ℕ) (negative : Bool) → length (quarters q negative) ≤ 5
  pub number_line_room : (letter n : ℕ) → length (number_line letter n) ≤ 6
  -- a text that finds room is stored whole
  pub printed_whole :
      (p q : Printer) (text : List ℕ) → p.at + length text ≤ length p.buffer.now → Follows p text q → Stored p.buffer.now p.at text q.at q.buffer.now
  -- each writer's promise allows one outcome
  pub printed_unique : (p : Printer) (text : List ℕ) (q r : Printer) → Follows p text q → Follows p text r → (q.at ≡ r.at) × (q.buffer.now ≡ r.buffer.now)
