-- `take_row` goes through a row's codes, and then its end; what it keeps is `Taking`.
use Rattle.preview.proofs.Steps.{Taking}
use Rattle.preview.proofs.taking.take_row.Given as goal

abbrev pub invariant-loop-p : goal.invariant-loop-p
invariant-loop-p l = Taking l.bytes l.r l.initial.t l.t l.x l.p
