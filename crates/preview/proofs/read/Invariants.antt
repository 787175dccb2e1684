-- `read` goes through the rows; what it keeps is the table of those before row r. Each exit is a row of the answer.
use mathlib.Core.Path.{◌≡◌}
use Rattle.preview.proofs.Whole.{held_after}
use Rattle.preview.proofs.read.Given as goal

abbrev pub invariant-loop-r : goal.invariant-loop-r
invariant-loop-r l = l.t ≡ held_after l.bytes l.r
