-- `main`'s loop: at each turn the buffer has room for what a whole piece prints. The measure is how many
-- bytes may still decide something.
use Prim.Native.Nat.{◌*◌, ◌≤◌}
use mathlib.Core.Path.{◌≡◌}
use lib.ListN.{length}
use Rattle.sheet.specs.Pieces.{longest}
use Rattle.play.proofs.main.Given as goal

abbrev pub invariant-loop-left : goal.invariant-loop-left
invariant-loop-left l = (length l.out ≡ 65536) × (l.at ≤ longest * 4096)

abbrev pub decreases-loop-left : goal.decreases-loop-left
decreases-loop-left l = l.left
