-- What a call that tells a number says, and what it leaves of the desk.
use Rattle.std.specs.Prelude.{ℕ}
use Rattle.answer.specs.Answer.{Answer, refused, given}
use Rattle.desk.specs.Calls.{Told}
use Rattle.desk.specs.declared.Desk.{Desk}

-- the number that is told, and the desk afterwards
abbrev pub said_by : Answer Told → Answer ℕ
said_by (refused n) = refused n
said_by (given t) = given t.says

abbrev pub left_by : Desk → Answer Told → Desk
left_by d (refused n) = d
left_by d (given t) = t.desk
