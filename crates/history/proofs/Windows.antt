-- When a timer's window is open, and when it has ended.
use Prim.Native.Nat.{ℕ, ◌≤◌, ◌<◌}
use mathlib.Core.Path.{◌≡◌, refl, sym, ap}
use mathlib.Core.Bool.{true, false, ◌&&◌, true≢false}
use mathlib.Core.List.{List}
use native.Mathlib.Omega.{arith}
use borrow.Author.Tests.{leb-true, leb-false, ltb-true, lt-ltb, le-leb, lt-leb}
use lib.Dec.{leb, ltb, eqb}
use Rattle.answer.specs.Answer.{Answer, refused, given}
use Rattle.calendar.specs.declared.Window.{Window}
use Rattle.calendar.specs.Calendar.{window_in}
use Rattle.calendar.specs.Laws.{InWindow}
use Rattle.answer.proofs.Cases.{both_true}
use Rattle.calendar.proofs.Windows.{window_in_given}
use Rattle.places.specs.Places.{stands, labels_fail}
use Rattle.matching.specs.Matching.{open_in, open_at, closed_in, ended_at, matches}
use Rattle.clocked.specs.Clocked.{in_length, on_time, clocked}
use Rattle.places.specs.declared.Stamped.{Stamped}
use Rattle.matching.specs.declared.Booking.{Booking}

-- a window that is open has not ended, and is open until it has
open_in_closed_in : (s : ℕ) (w : Answer Window) → open_in s w ≡ true → closed_in s w ≡ false
open_in_closed_in s (refused n) e = absurd (true≢false (sym e))
open_in_closed_in s (given w) e = lt-leb w.closes s (ltb-true s w.closes (both_true (leb w.opens s) (ltb s w.closes) e).1)

open_in_later : (s s' : ℕ) (w : Answer Window) → s ≤ s' → open_in s w ≡ true → closed_in s' w ≡ false → open_in s' w ≡ true
open_in_later s s' (refused n) h e f = absurd (true≢false (sym e))
open_in_later s s' (given w) h e f =
    let o : w.opens ≤ s = leb-true w.opens s (both_true (leb w.opens s) (ltb s w.closes) e).0 in
    let c : s' < w.closes = leb-false w.closes s' f in
    rw (le-leb w.opens s' (omega arith), lt-ltb s' w.closes c)

closed_in_before : (s s' : ℕ) (w : Answer Window) → s ≤ s' → closed_in s' w ≡ false → closed_in s w ≡ false
closed_in_before s s' (refused n) h f = f
closed_in_before s s' (given w) h f = let c : s' < w.closes = leb-false w.closes s' f in lt-leb w.closes s (omega arith)

module _ (b : Booking) where
  pub open_not_ended : (s : ℕ) → open_at s b ≡ true → ended_at s b ≡ false
  unfolding open_at ended_at
  open_not_ended s e = open_in_closed_in s (window_in b.pil b.year) e

  pub open_later : (s s' : ℕ) → s ≤ s' → open_at s b ≡ true → ended_at s' b ≡ false → open_at s' b ≡ true
  unfolding open_at ended_at
  open_later s s' h e f = open_in_later s s' (window_in b.pil b.year) h e f

  pub not_ended_before : (s s' : ℕ) → s ≤ s' → ended_at s' b ≡ false → ended_at s b ≡ false
  unfolding ended_at
  not_ended_before s s' h f = closed_in_before s s' (window_in b.pil b.year) h f

  pub matches_open : (s : ℕ) (l : Stamped) → matches s b l ≡ true → open_at s b ≡ true
  unfolding matches
  matches_open s l e = (both_true (stands s l && eqb l.cni b.cni && eqb l.pil b.pil) (open_at s b) e).1

  -- the seconds at which it is open are those of the calendar's window
  pub open_in_window : (s : ℕ) → open_at s b ≡ true → InWindow b.pil b.year s
  unfolding open_at
  open_in_window s e = go (window_in b.pil b.year) refl e
    where
      go : (a : Answer Window) → window_in b.pil b.year ≡ a → open_in s a ≡ true → InWindow b.pil b.year s
      go (refused n) w e = absurd (true≢false (sym e))
      go (given x) w e =
          let k = both_true (leb x.opens s) (ltb s x.closes) e in
          let z = (window_in_given b.pil b.year x w).3 in
          (rw (ap (λ y. y.opens) z) at (leb-true x.opens s k.0), rw (ap (λ y. y.closes) z) at (ltb-true s x.closes k.1))

-- ── when the clock records ─────────────────────────────────────────────────────────────────────────────────────────
module _ (b : Booking) (s : ℕ) (ls : List Stamped) where
  pub is_clocked : labels_fail s ls b.tuner ≡ true → in_length s b ≡ true → open_at s b ≡ true → clocked s ls b ≡ true
  unfolding clocked on_time
  is_clocked f l o = rw (f, l, o)
