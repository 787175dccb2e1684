-- The loop's invariant: the seconds walked so far and those from here on are those of the whole pass, and both end at the same desk.
use mathlib.Core.Bool.{true}
use mathlib.Core.Path.{◌≡◌, refl, sym, ◌∙◌}
use native.Mathlib.Omega.{arith}
use Rattle.desk.specs.Moments.{quiet}
use Rattle.desk.proofs.Turns.{turn_clock, turn_pass, turn_walked, jump_pass, jump_walked, end_pass, end_walked}
use Rattle.desk.proofs.Desk.pass.Goals as goal

pub loop-d-init : goal.loop-d-init
loop-d-init c = (omega arith, refl, omega arith)

pub returns-then-quiet : goal.returns-then-quiet
returns-then-quiet c =
    let t = c.args.t in
    let d = c.loop-d.d in
    let q : quiet d ≡ true = sym c.quiet.ensures ∙ c.if-quiet.true in
    let z = jump_walked t d q in
    (omega (arith, c.loop-d.invariant.0), c.moment_at.ensures ∙ sym (c.loop-d.invariant.1 ∙ jump_pass t d c.loop-d-test.true q))

pub loop-d-smaller : goal.loop-d-smaller
loop-d-smaller c =
    let e = turn_clock 0 c.loop-d.d _ c.step-d.ensures in
    omega (arith, c.loop-d-test.true)

pub loop-d-preserved : goal.loop-d-preserved
loop-d-preserved c =
    let t = c.args.t in
    let d = c.loop-d.d in
    let r = c.step-d.result in
    let q = c.step-d.ensures in
    let e = turn_clock t d r q in
    let u = turn_walked t d r q c.loop-d-test.true (sym c.quiet.ensures ∙ c.if-quiet.false) in
    (omega (arith, c.loop-d.invariant.0), c.loop-d.invariant.1 ∙ turn_pass t d r q c.loop-d-test.true, omega (arith, c.loop-d-test.true, c.loop-d.invariant.2))

pub returns : goal.returns
returns c =
    let t = c.args.t in
    let d = c.loop-d.d in
    let z = end_walked t d c.loop-d-test.false in
    (omega (arith, c.loop-d.invariant.0), sym (c.loop-d.invariant.1 ∙ end_pass t d c.loop-d-test.false))
