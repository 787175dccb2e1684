-- How long a report is.
use Prim.Native.Nat.{◌≤◌}
use mathlib.Core.Bool.{Bool}
use lib.ListN.{length}
use Rattle.items.specs.Pieces.{whole_at}
use Rattle.report.specs.Room.{longest}
use Rattle.report.proofs.Rooms.{report_short}
use Rattle.tally.specs.declared.Tally.{Tally}
use Rattle.tally.specs.Pieces.{end_told}

pub room : (ended : Bool) (t : Tally) → length (end_told ended t) ≤ longest
unfolding end_told
room ended t = report_short _ (whole_at ended t.split)
