-- `fill` stores the count, then the programmes one after the other.
use Rattle.fields.proofs.Stored.{Stored}
use Rattle.fields.proofs.fill.Given as goal

abbrev pub invariant-loop-i : goal.invariant-loop-i
invariant-loop-i l = Stored l.initial.out l.fn.page.programmes l.out l.i
