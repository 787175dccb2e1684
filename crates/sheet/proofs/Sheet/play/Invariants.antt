-- `play`'s loop: what is left of the piece, fed from here, comes to what the whole piece comes to, and finds room (`Along`).
-- The measure is what is left of the piece.
use Prim.Native.Nat.{◌-◌}
use lib.ListN.{length}
use Rattle.sheet.proofs.Feeding.{Along}
use Rattle.sheet.proofs.Sheet.play.Given as goal

abbrev pub invariant-loop-i : goal.invariant-loop-i
invariant-loop-i l =
    Along l.piece l.initial.out l.initial.end (record { desk = l.initial.desk; split = l.initial.split }) l.out l.end
    (record { desk = l.desk; split = l.split }) l.i

abbrev pub decreases-loop-i : goal.decreases-loop-i
decreases-loop-i l = length l.piece - l.i
