-- `feed`'s loop: what is left of the piece, fed from here, comes to what the whole piece comes to (`Along`). The measure is what is left
-- of the piece.
use Prim.Native.Nat.{◌-◌}
use lib.ListN.{length}
use Rattle.tally.proofs.Feeding.{Along}
use Rattle.tally.proofs.Tally.feed.Given as goal

abbrev pub invariant-loop-i : goal.invariant-loop-i
invariant-loop-i l =
    Along l.piece (record { split = l.initial.split; tuners = l.initial.tuners }) (record { split = l.split; tuners = l.tuners }) l.i

abbrev pub decreases-loop-i : goal.decreases-loop-i
decreases-loop-i l = length l.piece - l.i
