-- `play`'s loop: what is left of the piece, fed from here, comes to what the whole piece comes to, and finds room (`Along`).
-- The measure is what is left of the piece.
use mathlib.Core.Path.{refl, ap}
use native.Mathlib.Omega.{arith}
use Rattle.items.specs.declared.Taken.{Taken}
use Rattle.items.proofs.Taking.{taking}
use Rattle.sheet.specs.declared.acts.Left.{Left}
use Rattle.sheet.proofs.Feeding.{Outcome, further, ended}
use Rattle.sheet.proofs.Sheet.play.Goals as goal

pub loop-i-init : goal.loop-i-init
loop-i-init c = record { same = refl; within = omega arith; room = omega arith; long = refl }

pub act-left-requires : goal.act-left-requires
act-left-requires c = omega arith

pub loop-i-smaller : goal.loop-i-smaller
loop-i-smaller c =
    let p = c.args.piece.now in
    let t = taking p c.loop-i.i c.loop-i.split c.loop-i.invariant.within in
    let e = c.take-taken.ensures.value in
    omega (arith, t.on c.loop-i-test.true, t.within, ap (λ (r : Taken). r.at) e)

pub loop-i-preserved : goal.loop-i-preserved
loop-i-preserved c =
    let left = c.act-left.ensures in
    further c.loop-i.invariant c.take-taken.result c.take-taken.ensures.value c.loop-i-test.true
    left.1 (ap (λ (r : Left). r.desk) left.0) (ap (λ (r : Left). r.at) left.0)

pub shape_of-out : goal.shape_of-out
shape_of-out c = c.loop-i.invariant.long

pub returns : goal.returns
returns c =
    let e = ended c.loop-i.invariant c.loop-i-test.false in
    (ap (λ (o : Outcome). record { sheet = o.sheet; at = o.at }) e, ap (λ (o : Outcome). o.out) e)
