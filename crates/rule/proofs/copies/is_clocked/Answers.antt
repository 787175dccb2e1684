-- The definition asks the labels first.
use Rattle.std.proofs.Common.{◌≡◌, ◌∙◌, sym, true, false}
use mathlib.Core.Bool.{and-true, and-false}
use Rattle.clocked.specs.Clocked.{on_time, clocked}
use Rattle.rule.proofs.copies.is_clocked.Goals as goal

pub returns-then-on_time : goal.returns-then-on_time
unfolding clocked
returns-then-on_time c =
    let now : on_time c.args.s c.args.b ≡ true = sym c.on_time.ensures ∙ c.if-on_time.true in
    rw (now, and-true) c.labels_fail.ensures

pub returns-else-on_time : goal.returns-else-on_time
unfolding clocked
returns-else-on_time c =
    let not-now : on_time c.args.s c.args.b ≡ false = sym c.on_time.ensures ∙ c.if-on_time.false in
    rw (c.on_time.ensures, not-now, and-false)
