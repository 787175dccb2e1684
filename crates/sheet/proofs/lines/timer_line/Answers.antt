-- The line finds room, and is stored whole.
use Rattle.std.proofs.Common.{rules}
use native.Mathlib.Omega.{arith}
use Rattle.reply.specs.Numbers.{add_answer}
use Rattle.text.proofs.Printing.{stored}
use Rattle.sheet.specs.Sheet.{timer_line}
use Rattle.sheet.proofs.Rooms.{timer_short}
use Rattle.sheet.proofs.lines.timer_line.Goals as goal

pub returns : goal.returns
returns c =
    let a = add_answer c.args.a in
    let whole = stored _ c.put_timer.new.out (timer_line a) (omega (arith, c.requires, timer_short a)) c.put_timer.ensures.1 in
    search (rules, whole)
