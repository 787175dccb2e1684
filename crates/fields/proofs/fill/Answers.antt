-- `fill` stores the count, then the programmes one after the other.
use borrow.Author.Rules.{rules}
use Prim.Native.Nat.{◌+◌, ◌*◌, ◌≤◌}
use mathlib.Core.Path.{◌≡◌, ◌∙◌}
use native.Mathlib.Omega.{arith}
use lib.ListN.{length, set, length-set}
use Rattle.fields.proofs.Stored.{stored_none, stored_more, stored_all, stored_length}
use Rattle.fields.proofs.fill.Goals as goal

pub loop-i-init : goal.loop-i-init
loop-i-init c =
    let a = c.args in
    stored_none (set a.out.now 0 a.page.count) a.page.programmes (simp length-set (search rules)) (search rules)

pub put-requires : goal.put-requires
put-requires c =
    let a = c.args in
    let k = stored_length (set a.out.now 0 a.page.count) a.page.programmes c.loop-i.invariant in
    let room : 17 + 16 * c.loop-i.i ≤ length c.loop-i.out = omega arith in
    omega arith

pub loop-i-preserved : goal.loop-i-preserved
loop-i-preserved c =
    let a = c.args in
    stored_more (set a.out.now 0 a.page.count) a.page.programmes c.loop-i.invariant _ (search rules) c.bytes_of.ensures c.put.ensures

pub shape_of-out : goal.shape_of-out
shape_of-out c =
    let a = c.args in
    let h : length c.loop-i.out ≡ length a.out.now =
    stored_length (set a.out.now 0 a.page.count) a.page.programmes c.loop-i.invariant ∙ length-set a.out.now 0 a.page.count in
    h

pub returns : goal.returns
returns c =
    let a = c.args in
    stored_all a.out.now a.page.count a.page.programmes c.loop-i.invariant (search rules)
