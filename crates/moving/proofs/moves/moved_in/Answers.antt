-- By whether another timer held the new label.
use Prim.Native.Nat.{ℕ}
use mathlib.Core.Bool.{Bool, true, false, cond, ◌&&◌}
use mathlib.Core.List.{List}
use mathlib.Core.Path.{◌≡◌, sym, ap, ◌∙◌}
use lib.ListN.{get_or, set}
use Rattle.answer.specs.Lists.{some}
use Rattle.matching.specs.declared.Booking.{Booking}
use Rattle.rule.specs.declared.Timer.{Timer}
use Rattle.sixteen.specs.Sixteen.{no_timer, active, same_booking}
use Rattle.moving.specs.Moving.{moved_in}
use Rattle.moving.proofs.moves.moved_in.Goals as goal

-- what is left, by the test on the other slots
module _ (s slot : ℕ) (b : Booking) (ts others : List Timer) (free : Timer) {held : Bool} (f : free ≡ no_timer) (o : others ≡ set ts slot free)
    (h : held ≡ some (λ t. active s t && same_booking b t.booking) others) where
  others_are : others ≡ set ts slot no_timer
  others_are = o ∙ ap (set ts slot) f

  test : some (λ t. active s t && same_booking b t.booking) (set ts slot no_timer) ≡ held
  test = sym (h ∙ ap (some (λ t. active s t && same_booking b t.booking)) others_are)

  abbrev left : Bool → List Timer
  left t = cond t (set ts slot no_timer) (set ts slot (record { booking = b; copy = (get_or ts slot no_timer).copy }))

  by_the_test : left held ≡ moved_in s slot b ts
  unfolding moved_in
  by_the_test = ap left (sym test)

  twin : held ≡ true → others ≡ moved_in s slot b ts
  twin e = others_are ∙ sym (ap left e) ∙ by_the_test

  alone : held ≡ false → left false ≡ moved_in s slot b ts
  alone e = sym (ap left e) ∙ by_the_test

pub returns-then-any_holds : goal.returns-then-any_holds
returns-then-any_holds c =
    let a = c.args in
    twin a.s a.slot a.b a.timers _ _ c.no_timer.ensures c.put_timer-others.ensures c.any_holds.ensures c.if-any_holds.true

pub returns : goal.returns
returns c =
    let a = c.args in
    let put : c.put_timer.result ≡ set a.timers a.slot (record { booking = a.b; copy = c.timer_at.result.copy }) = c.put_timer.ensures in
    put
    ∙ ap (λ (x : Timer). set a.timers a.slot (record { booking = a.b; copy = x.copy })) c.timer_at.ensures
    ∙ alone a.s a.slot a.b a.timers _ _ c.no_timer.ensures c.put_timer-others.ensures c.any_holds.ensures c.if-any_holds.false
