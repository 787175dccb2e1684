-- `main`'s loop: the measure is how many bytes may still decide something.
use Rattle.aerial.proofs.main.Given as goal

abbrev pub decreases-loop-left : goal.decreases-loop-left
decreases-loop-left l = l.left
