-- `take` goes through a packet's triplets; what it keeps is `Along`.
use borrow.Author.Rules.{rules}
use mathlib.Core.Path.{◌≡◌}
use native.Mathlib.Omega.{arith}
use Rattle.programmes.specs.Page.{groups_in}
use Rattle.preselection.proofs.Triplets.{along_none, along_more}
use Rattle.preselection.proofs.packet.take.Goals as goal

pub loop-j-init : goal.loop-j-init
loop-j-init c = along_none _ _ _ _

pub loop-j-preserved : goal.loop-j-preserved
loop-j-preserved c =
    along_more _ _ c.loop-j.invariant (search rules) c.triplet_at-t.ensures c.is_damaged-damaged.ensures c.bits_in.ensures c.group_of-g.ensures
    c.change.ensures c.change-in-loop-j.ensures.0 c.change-in-loop-j.ensures.1 c.next-s.ensures

pub returns : goal.returns
unfolding groups_in
returns c =
    let a = c.loop-j.invariant in
    let e : c.loop-j.j ≡ 13 = omega arith in
    let m = rw e at a.made in
    (rw e at a.harmed, rw e at a.state, rw e at a.few, m)
