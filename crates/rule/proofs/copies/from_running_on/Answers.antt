-- Each exit is a case of the definition; `Ages.below` carries the test.
use Prim.Native.Nat.{◌+◌}
use mathlib.Core.Bool.{true, false}
use mathlib.Core.Path.{◌≡◌, refl, sym, ◌∙◌}
use native.Mathlib.Omega.{arith}
use borrow.Author.Tests.{lt-ltb, le-ltb}
use lib.Dec.{ltb}
use Rattle.matching.specs.Matching.{open_at}
use Rattle.rule.specs.Rule.{run_for, from_running_on}
use Rattle.places.proofs.Ages.{below}
use Rattle.rule.proofs.Steps.{moves_not_live, live_shut, running_on}
use Rattle.rule.proofs.copies.from_running_on.Goals as goal

pub returns-then-not-open_at : goal.returns-then-not-open_at
returns-then-not-open_at c =
    let a = c.args in
    let shut : open_at a.s a.b ≡ false = sym c.open_at.ensures ∙ c.if-not-open_at.true in
    sym (live_shut a.s a.places a.b _ refl shut)

pub returns-then-s-v : goal.returns-then-s-v
unfolding from_running_on
returns-then-s-v c =
    let a = c.args in
    let opened : open_at a.s a.b ≡ true = sym c.open_at.ensures ∙ c.if-not-open_at.false in
    let on : ltb a.s (a.v + run_for) ≡ true = lt-ltb _ _ c.if-s-v.true in
    rw (running_on a.s a.places a.b a.p a.v opened, ← below a.s a.v run_for (λ l. omega arith), on, ← c.sight_of-seen.ensures) c.moves_or.ensures

pub returns : goal.returns
unfolding from_running_on
returns c =
    let a = c.args in
    let opened : open_at a.s a.b ≡ true = sym c.open_at.ensures ∙ c.if-not-open_at.false in
    let out : ltb a.s (a.v + run_for) ≡ false = le-ltb _ _ c.if-s-v.false in
    rw (running_on a.s a.places a.b a.p a.v opened, ← below a.s a.v run_for (λ l. omega arith), out, ← c.sight_of-seen.ensures, moves_not_live) c.not_live.ensures
