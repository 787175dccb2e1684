-- No programme ever has two live copies.
use Prim.Native.Nat.{ℕ, ◌≤◌, ◌<◌}
use mathlib.Core.Path.{◌≡◌, refl, sym, ◌∙◌}
use mathlib.Core.Bool.{true, ◌&&◌, true≢false}
use borrow.Author.Tests.{eqb-true, eq-eqb}
use lib.Dec.{eqb}
use Rattle.calendar.specs.Laws.{InWindow}
use Rattle.calendar.proofs.Proved as calendar
use Rattle.answer.specs.Lists.{count}
use Rattle.answer.proofs.Cases.{both_true}
use Rattle.matching.specs.declared.Booking.{Booking}
use Rattle.matching.specs.Matching.{open_at}
use Rattle.rule.specs.Rule.{held, is_live, live_timer}
use Rattle.rule.specs.declared.Copy.{Copy}
use Rattle.rule.specs.declared.Copy.TheVariants.{Free, Waiting, Prepared, Recording, RunningOn, ByTheClock}
use Rattle.desk.specs.declared.Desk.{Desk}
use Rattle.sixteen.specs.Sixteen.{no_timer, active, same_booking}
use Rattle.desk.specs.Calls.{timer_at}
use Rattle.history.specs.Laws.{copy_of, Sound}
use Rattle.history.proofs.Lists.{count_one}
use Rattle.history.proofs.Windows.{open_not_ended, open_in_window}

pub live_held : (c : Copy) → is_live c ≡ true → held c ≡ true
live_held Free e = e
live_held Waiting e = refl
live_held (Prepared v) e = refl
live_held (Recording p mi) e = refl
live_held (RunningOn p v) e = refl
live_held ByTheClock e = refl

-- a live copy's timer is held and not ended
pub live_active : (d : Desk) → Sound d → (slot : ℕ) → live_timer (timer_at d slot) ≡ true → active d.clock (timer_at d slot) ≡ true
live_active d h slot l =
    let t = timer_at d slot in
    rw (live_held t.copy l, open_not_ended t.booking d.clock (h.open_window slot l))

-- two bookings of one programme whose windows are open at one second are the same: no PIL's windows of two years meet
pub same_open : (s : ℕ) (t u : Booking) → open_at s t ≡ true → open_at s u ≡ true → t.cni ≡ u.cni → t.pil ≡ u.pil → same_booking t u ≡ true
same_open s t u a b cni pil =
    let in-u : InWindow t.pil u.year s = rw pil (open_in_window u s b) in
    let year : t.year ≡ u.year = (calendar.laws).one_year t.pil t.year u.year s (open_in_window t s a) in-u in
    rw (eq-eqb t.cni u.cni cni, eq-eqb t.pil u.pil pil, eq-eqb t.year u.year year)

pub no_two : (d : Desk) → Sound d → (i j : ℕ) → i < j →
    let t = timer_at d i in let u = timer_at d j in
    live_timer t ≡ true → live_timer u ≡ true → t.booking.cni ≡ u.booking.cni → t.booking.pil ≡ u.booking.pil → ⊥
no_two d h i j l a b cni pil =
    let alike = same_open d.clock (timer_at d i).booking (timer_at d j).booking (h.open_window i a) (h.open_window j b) cni pil in
    true≢false (sym alike ∙ h.no_twins i j l (live_active d h i a) (live_active d h j b))

pub one_copy : (d : Desk) → Sound d → (cni pil : ℕ) → count (copy_of cni pil) d.timers ≤ 1
one_copy d h cni pil = count_one (copy_of cni pil) no_timer d.timers λ i j l a b.
    let x = is_copy i a in
    let y = is_copy j b in
    no_two d h i j l x.0 y.0 (x.1 ∙ sym y.1) (x.2 ∙ sym y.2)
  where
    is_copy : (slot : ℕ) → copy_of cni pil (timer_at d slot) ≡ true →
        (live_timer (timer_at d slot) ≡ true) × ((timer_at d slot).booking.cni ≡ cni) × ((timer_at d slot).booking.pil ≡ pil)
    is_copy slot e =
        let t = timer_at d slot in
        let k = both_true (live_timer t && eqb t.booking.cni cni) (eqb t.booking.pil pil) e in
        let m = both_true (live_timer t) (eqb t.booking.cni cni) k.0 in
        (m.0, eqb-true _ _ m.1, eqb-true _ _ k.1)
