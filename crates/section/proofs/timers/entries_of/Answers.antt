-- `entries_of`'s loop: the timers of the programmes passed are entered.
use borrow.Author.Rules.{rules}
use mathlib.Core.Path.{◌≡◌, sym, ap, ◌∙◌}
use native.Mathlib.Omega.{arith}
use mathlib.Core.List.{List}
use lib.ListN.{take, length-take}
use lib.Seq.{take_all}
use Rattle.preview.specs.declared.Programme.{Programme}
use Rattle.section.specs.Section.{timers_of}
use Rattle.section.specs.Taken.{entered}
use Rattle.section.proofs.Entered.{entered_none, entered_further, few_entered, all_shown}
use Rattle.section.proofs.timers.entries_of.Goals as goal

pub loop-q-init : goal.loop-q-init
loop-q-init c = let a = c.args in entered_none a.tuner (take c.least-shown.result a.programmes)

pub after_timer-had-requires : goal.after_timer-had-requires
after_timer-had-requires c =
    let a = c.args in
    let items = take c.least-shown.result a.programmes in
    omega (arith, few_entered items a.tuner c.loop-q.q-index c.loop-q.had (omega arith) c.loop-q.invariant, length-take c.least-shown.result a.programmes)

pub loop-q-preserved : goal.loop-q-preserved
loop-q-preserved c =
    let a = c.args in
    let items = take c.least-shown.result a.programmes in
    let more = entered_further items a.tuner c.loop-q.q-index (omega arith) in
    c.after_timer-had.ensures ∙ rw (c.timer_of.ensures, c.loop-q.invariant) (sym more)

pub returns : goal.returns
returns c =
    let a = c.args in
    let items = take c.least-shown.result a.programmes in
    let few = few_entered items a.tuner c.loop-q.q-index c.loop-q.had (omega arith) c.loop-q.invariant in
    let all : take c.loop-q.q-index items ≡ items = take_all c.loop-q.q-index items c.loop-q-test.false in
    let shown : items ≡ take a.count a.programmes = rw c.least-shown.ensures (all_shown a.programmes a.count (search rules)) in
    (c.loop-q.invariant ∙ ap (λ (qs : List Programme). entered a.tuner (timers_of qs)) (all ∙ shown), omega (arith, length-take c.least-shown.result a.programmes))
