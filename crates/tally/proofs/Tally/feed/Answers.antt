-- `feed`'s loop: what is left of the piece, fed from here, comes to what the whole piece comes to (`Along`). The measure is what is left
-- of the piece.
use mathlib.Core.Path.{refl, ap}
use native.Mathlib.Omega.{arith}
use Rattle.items.specs.declared.Taken.{Taken}
use Rattle.items.proofs.Taking.{taking}
use Rattle.tally.proofs.Feeding.{further, ended}
use Rattle.tally.proofs.Tally.feed.Goals as goal

pub loop-i-init : goal.loop-i-init
loop-i-init c = record { same = refl; within = omega arith }

pub loop-i-smaller : goal.loop-i-smaller
loop-i-smaller c =
    let t = taking c.args.piece.now c.loop-i.i c.loop-i.split c.loop-i.invariant.within in
    omega (arith, t.on c.loop-i-test.true, t.within, ap (λ (r : Taken). r.at) c.take-taken.ensures.value)

pub loop-i-preserved : goal.loop-i-preserved
loop-i-preserved c =
    further c.loop-i.invariant c.take-taken.result c.take-taken.ensures.value c.found_more-more.ensures

pub returns-clause-value : goal.returns-clause-value
returns-clause-value c = ended c.loop-i.invariant c.loop-i-test.false
