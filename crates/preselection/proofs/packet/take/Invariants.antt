-- `take` goes through a packet's triplets; what it keeps is `Along`.
use Rattle.preselection.proofs.Triplets.{Along}
use Rattle.preselection.proofs.packet.take.Given as goal

abbrev pub invariant-loop-j : goal.invariant-loop-j
invariant-loop-j l = Along l.bytes l.k l.initial.s l.initial.so_far l.damaged l.s l.so_far l.j
