-- `report`: the whole listing where there is room, and else nothing changes.
use borrow.Author.Tests.{le-leb, lt-leb}
use mathlib.Core.Path.{◌≡◌, refl, ◌∙◌}
use mathlib.Core.Bool.{true, false}
use native.Mathlib.Nat.{zero-add}
use native.Mathlib.Omega.{arith}
use lib.Dec.{leb}
use lib.ListN.{length}
use Rattle.held.specs.Held as first
use Rattle.listing.specs.Listing.{listing_of}
use Rattle.listing.specs.Pieces.{held, end_told, longest, read_lines, reported_by, out_after}
use Rattle.listing.proofs.Readings.{read_lines_lem, room}
use Rattle.listing.proofs.Collected.report.Goals as goal

pub returns-then-out-lt-LONGEST : goal.returns-then-out-lt-LONGEST
unfolding reported_by out_after
returns-then-out-lt-LONGEST c =
    let short : leb longest (length c.args.out.now) ≡ false = lt-leb _ _ c.if-out-lt-LONGEST.true in
    rw short (refl, refl)

pub print-requires : goal.print-requires
unfolding held first.held
print-requires c =
    let told : read_lines c.read_held.result ≡ listing_of (held c.args.self) = read_lines_lem (held c.args.self) c.read_held.result c.read_held.ensures in
    rw told (omega (arith, room (held c.args.self), c.if-out-lt-LONGEST.false))

pub returns : goal.returns
unfolding reported_by out_after end_told held first.held
returns c =
    let a = c.args in
    let told : read_lines c.read_held.result ≡ listing_of (held a.self) = read_lines_lem (held a.self) c.read_held.result c.read_held.ensures in
    let stored = rw told at c.print.ensures in
    let fits : leb longest (length a.out.now) ≡ true = le-leb _ _ c.if-out-lt-LONGEST.false in
    rw fits (stored.0 ∙ zero-add _, stored.1)
