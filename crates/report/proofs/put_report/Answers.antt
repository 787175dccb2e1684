-- The lines of a report, one after the other.
use Rattle.std.proofs.Common.{rules}
use Rattle.text.proofs.Printing.{then}
use Rattle.report.specs.Report.{report}
use Rattle.report.proofs.put_report.Goals as goal

pub returns : goal.returns
unfolding report
returns c = (search rules, then _ _ _ _ _ c.tuner_line.ensures.1 (then _ _ _ _ _ c.tuner_line-2.ensures.1 (then _ _ _ _ _ c.tuner_line-3.ensures.1 (then _ _ _ _ _ c.tuner_line-4.ensures.1 c.last_line.ensures.1))))
