-- `programmes` pairs the first n one after the other.
use mathlib.Core.Path.{◌≡◌}
use Rattle.preview.proofs.Pairs.{first_by}
use Rattle.preview.proofs.paired.programmes.Given as goal

abbrev pub invariant-loop-i : goal.invariant-loop-i
invariant-loop-i l = l.out ≡ first_by l.a l.o l.i
