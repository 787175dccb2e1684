-- The parts of the line, one after the other: they find room, and are stored whole.
use Rattle.std.proofs.Common.{rules}
use native.Mathlib.Omega.{arith}
use Rattle.text.proofs.Printing.{then, stored}
use Rattle.sheet.specs.Sheet.{decimal, packet_line}
use Rattle.sheet.proofs.Rooms.{packet_short}
use Rattle.sheet.proofs.lines.packet_line.Goals as goal

pub returns : goal.returns
unfolding decimal
returns c =
    let a = c.args in
    let line = then _ _ _ _ _ c.open_line.ensures.1 (then _ _ _ _ _ c.decimal.ensures.1 (then _ _ _ _ _ c.put.ensures.1 c.end_line.ensures.1)) in
    let whole = stored _ c.end_line.new.out (packet_line a.answer a.live) (omega (arith, c.requires, packet_short a.answer a.live)) line in
    search (rules, whole)
