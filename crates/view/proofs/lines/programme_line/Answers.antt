-- The parts of the line, one after the other.
use Rattle.std.proofs.Common.{rules}
use Rattle.text.proofs.Printing.{then}
use Rattle.view.specs.View.{programme_line}
use Rattle.view.proofs.lines.programme_line.Goals as goal

pub returns : goal.returns
unfolding programme_line
returns c = (search rules, then _ _ _ _ _ c.put_beginning.ensures.1 (then _ _ _ _ _ c.put_middle.ensures.1 (then _ _ _ _ _ c.put_ending.ensures.1 c.put.ensures.1)))
