-- `page_of` takes the programmes one after the other; what it keeps is `Taken`.
use Rattle.fields.proofs.Taken.{Taken}
use Rattle.fields.proofs.page_of.Given as goal

abbrev pub invariant-loop-i : goal.invariant-loop-i
invariant-loop-i l = Taken l.f l.q-items l.i
