-- `report`: all that is printed where there is room, and else nothing changes.
use borrow.Author.Tests.{le-leb, lt-leb}
use mathlib.Core.Path.{◌≡◌, refl, ◌∙◌}
use mathlib.Core.Bool.{true, false}
use native.Mathlib.Nat.{zero-add}
use native.Mathlib.Omega.{arith}
use Prim.Native.Nat.{◌≤◌}
use lib.Dec.{leb}
use lib.ListN.{length}
use Rattle.preview.specs.Taken.{answer_of}
use Rattle.preview.proofs.Readings.{answered}
use Rattle.collected.specs.Collected.{held}
use Rattle.view.specs.Reported.{longest, reported_by, out_after}
use Rattle.view.proofs.Readings.{read_lines_lem, read_room}
use Rattle.view.proofs.report.Goals as goal

pub returns-then-out-lt-LONGEST : goal.returns-then-out-lt-LONGEST
unfolding reported_by out_after
returns-then-out-lt-LONGEST c =
    let a = c.args in
    let short : leb longest (length a.out.now) ≡ false = lt-leb _ _ c.if-out-lt-LONGEST.true in
    (answer_of (held a.collected), answered (held a.collected), rw short refl, rw short refl)

pub print-requires : goal.print-requires
unfolding held
print-requires c =
    let wide : longest ≤ length c.args.out.now = c.if-out-lt-LONGEST.false in
    omega (arith, wide, read_room (held c.args.collected) c.read.result c.read.ensures)

pub returns : goal.returns
unfolding reported_by out_after held
returns c =
    let a = c.args in
    let r = c.read.result in
    let (b, w, told) = read_lines_lem (held a.collected) r c.read.ensures in
    let stored = rw told at c.print.ensures in
    let room : leb longest (length a.out.now) ≡ true = le-leb _ _ c.if-out-lt-LONGEST.false in
    (b, w, rw room (stored.0 ∙ zero-add _), rw room stored.1)
