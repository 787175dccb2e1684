-- `reported`: where there is room, `report` stores it.
use borrow.Author.Tests.{le-leb}
use mathlib.Core.Path.{◌≡◌}
use mathlib.Core.Bool.{true}
use lib.Dec.{leb}
use lib.ListN.{length}
use Rattle.collected.specs.Collected.{held}
use Rattle.view.specs.Reported.{end_told, longest, reported_by, out_after}
use Rattle.view.proofs.Readings.{told}
use Rattle.guide.proofs.reported.Goals as goal

pub returns : goal.returns
unfolding reported_by out_after end_told
returns c =
    let (a, w, counted, stored) = c.report.ensures in
    let e : leb longest (length c.args.out.now) ≡ true = le-leb _ _ c.requires in
    rw (told (held c.args.page) a w) (rw e at counted, rw e at stored)
