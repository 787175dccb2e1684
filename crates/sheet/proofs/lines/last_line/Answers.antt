-- The line finds room, and is stored whole.
use Rattle.std.proofs.Common.{rules}
use mathlib.Core.List.{[], ◌∷◌, ◌++◌}
use native.Mathlib.Omega.{arith}
use Rattle.answer.specs.Text.{space, line_feed}
use Rattle.text.proofs.Printing.{then, stored}
use Rattle.sheet.specs.Sheet.{decimal}
use Rattle.sheet.proofs.Rooms.{last_short}
use Rattle.sheet.proofs.lines.last_line.Goals as goal

pub returns : goal.returns
returns c =
    let a = c.args in
    let line = then _ _ _ _ _ c.open_line.ensures.1 c.end_line.ensures.1 in
    let whole = stored _ c.end_line.new.out (a.letter ∷ space ∷ decimal a.live ++ (line_feed ∷ [])) (omega (arith, c.requires, last_short a.live)) line in
    search (rules, whole)
