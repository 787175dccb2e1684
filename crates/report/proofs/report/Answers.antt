-- A report that finds room is stored whole.
use Rattle.std.proofs.Common.{rules, ℕ, ◌≤◌, length, get_or}
use native.Mathlib.Omega.{arith}
use Rattle.text.proofs.Printing.{stored}
use Rattle.report.specs.declared.Tuner.{Tuner}
use Rattle.report.specs.Report.{silence, report}
use Rattle.report.specs.Room.{longest, length_in, stored_in}
use Rattle.report.proofs.Rooms.{report_short}
use Rattle.report.proofs.report.Goals as goal

pub returns : goal.returns
unfolding length_in stored_in
returns c =
    let f : ℕ → Tuner = λ k. get_or c.args.tuners k silence in
    let room : longest ≤ length c.args.out.now = search rules in
    let whole = stored _ c.put_report.new.out (report f c.args.whole) (omega (arith, room, report_short f c.args.whole)) c.put_report.ensures.1 in
    search (rules, whole)
