-- The laws of a report.
use mathlib.Core.Path.{◌≡◌}
use lib.ListN.{get_or}
use Rattle.answer.proofs.Answers.{equation, paired}
use Rattle.report.specs.Laws.{Laws}
use Rattle.report.specs.Report.{silence, report}
use Rattle.report.specs.Room.{length_in, stored_in}
use Rattle.report.proofs.Rooms.{report_short}

pub laws : Laws
laws = record {
  short = report_short;
  report_unique =
      λ tuners whole out.
      let text = report (λ k. get_or tuners k silence) whole in
      paired (λ r. r ≡ length_in out text) (λ q. q ≡ stored_in out text) (equation (length_in out text)) (equation (stored_in out text));
}
