-- Each exit is a row of the table, a repeat, or what `in_time` says; `Update` says that the timer's year is one of the clock's.
use Prim.Native.Nat.{◌≤◌}
use mathlib.Core.Bool.{true, false}
use mathlib.Core.Path.{◌≡◌, refl, sym, ◌∙◌}
use native.Mathlib.Omega.{arith}
use Rattle.places.specs.Places.{nowhere, at}
use Rattle.moving.specs.Moving.{meant, is_repeat, update_for}
use Rattle.moving.proofs.Update.{meant_is, meant_year}
use Rattle.moving.proofs.judging.judge.Goals as goal

pub returns-in_default : goal.returns-in_default
unfolding update_for
returns-in_default c =
    let a = c.args in
    let none : meant a.s a.old a.timers ≡ nowhere = sym (meant_is a.s a.old a.timers c.meant.ensures) ∙ c.in_default.is in
    rw none refl

pub returns-then-l-old : goal.returns-then-l-old
unfolding update_for
returns-then-l-old c =
    let a = c.args in
    let found : meant a.s a.old a.timers ≡ at c.in-Some.slot = sym (meant_is a.s a.old a.timers c.meant.ensures) ∙ c.in-Some.is in
    let repeat : is_repeat a.l a.old ≡ true = c.if-l-old.true in
    rw (found, repeat) refl

pub moved_to-requires : goal.moved_to-requires
moved_to-requires c =
    let a = c.args in
    let found : meant a.s a.old a.timers ≡ at c.in-Some.slot = sym (meant_is a.s a.old a.timers c.meant.ensures) ∙ c.in-Some.is in
    let year : c.timer_at.result.booking.year ≤ 99 = rw c.timer_at.ensures (meant_year a.s a.old a.timers _ found) in
    omega arith

pub returns : goal.returns
unfolding update_for
returns c =
    let a = c.args in
    let found : meant a.s a.old a.timers ≡ at c.in-Some.slot = sym (meant_is a.s a.old a.timers c.meant.ensures) ∙ c.in-Some.is in
    let other : is_repeat a.l a.old ≡ false = c.if-l-old.false in
    rw (found, other, ← c.timer_at.ensures, ← c.moved_to.ensures) c.in_time.ensures
