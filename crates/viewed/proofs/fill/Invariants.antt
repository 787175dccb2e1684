-- `fill` stores the count, then the programmes one after the other.
use Rattle.viewed.proofs.Stored.{Stored}
use Rattle.viewed.proofs.fill.Given as goal

abbrev pub invariant-loop-i : goal.invariant-loop-i
invariant-loop-i l = Stored l.initial.out l.fn.programmes l.out l.i
