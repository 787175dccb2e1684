-- The columns of a line, one after the other.
use Rattle.std.proofs.Common.{rules}
use Rattle.text.proofs.Printing.{then}
use Rattle.report.specs.Report.{a_line}
use Rattle.report.proofs.lines.a_line.Goals as goal

pub returns : goal.returns
unfolding a_line
returns c = (search rules, then _ _ _ _ _ c.open_line.ensures.1 (then _ _ _ _ _ c.column.ensures.1 (then _ _ _ _ _ c.column-2.ensures.1 (then _ _ _ _ _ c.column-3.ensures.1 (then _ _ _ _ _ c.column-4.ensures.1 c.put.ensures.1)))))
