-- `fill` stores the fourteen bytes one after the other.
use lib.Dec.{lit<}
use lib.ListN.{length-set}
use Rattle.probe.specs.Plain.{received_bytes}
use Rattle.probe.proofs.Filled.{filled}
use Rattle.probe.proofs.fill.Goals as goal

pub bounds-out-4 : goal.bounds-out-4
bounds-out-4 c = simp (length-set, c.requires) (lit< tt)

pub bounds-out-5 : goal.bounds-out-5
bounds-out-5 c = simp (length-set, c.requires) (lit< tt)

pub bounds-out-6 : goal.bounds-out-6
bounds-out-6 c = simp (length-set, c.requires) (lit< tt)

pub bounds-out-7 : goal.bounds-out-7
bounds-out-7 c = simp (length-set, c.requires) (lit< tt)

pub bounds-out-8 : goal.bounds-out-8
bounds-out-8 c = simp (length-set, c.requires) (lit< tt)

pub bounds-out-9 : goal.bounds-out-9
bounds-out-9 c = simp (length-set, c.requires) (lit< tt)

pub bounds-out-10 : goal.bounds-out-10
bounds-out-10 c = simp (length-set, c.requires) (lit< tt)

pub bounds-out-11 : goal.bounds-out-11
bounds-out-11 c = simp (length-set, c.requires) (lit< tt)

pub bounds-out-12 : goal.bounds-out-12
bounds-out-12 c = simp (length-set, c.requires) (lit< tt)

pub bounds-out-13 : goal.bounds-out-13
bounds-out-13 c = simp (length-set, c.requires) (lit< tt)

pub shape_of-out : goal.shape_of-out
shape_of-out c = simp length-set

pub returns : goal.returns
returns c =
    filled c.args.out.now (received_bytes c.args.r) c.requires
