-- What being recorded by the clock takes, and when it begins and ends.
use Prim.Native.Nat.{ℕ, zero, suc, ◌+◌, ◌*◌, ◌≤◌, ◌<◌}
use mathlib.Core.Path.{◌≡◌, refl, ap₂}
use mathlib.Core.Bool.{Bool, true, false, ◌&&◌, and-false}
use mathlib.Core.List.{List}
use native.Mathlib.Omega.{arith}
use borrow.Author.Tests.{le-leb, lt-leb, lt-ltb, le-ltb, eqb-false, leb-true}
use lib.Dec.{leb, ltb, eqb}
use Rattle.answer.specs.Answer.{Answer, refused, given}
use Rattle.answer.proofs.Cases.{both_true, both_false}
use Rattle.calendar.specs.Calendar.{opens_at, closes_at, announced_at, window_in}
use Rattle.calendar.specs.declared.Window.{Window}
use Rattle.calendar.proofs.Windows.{announced_within, window_in_real, window_in_given}
use Rattle.places.specs.Places.{labels_fail}
use Rattle.places.specs.declared.Stamped.{Stamped}
use Rattle.matching.specs.declared.Booking.{Booking}
use Rattle.matching.specs.Matching.{open_in, open_at, closed_in, ended_at}
use Rattle.clocked.specs.Clocked.{out_of_range, in_length, on_time, clocked}

ended_in : (s : ℕ) (a : Answer Window) → closed_in s a ≡ true → open_in s a ≡ false
ended_in s (refused n) e = refl
ended_in s (given w) e = rw (le-ltb s w.closes (leb-true w.closes s e), and-false)

-- a window that has ended is not open
pub ended_shut : (s : ℕ) (b : Booking) → ended_at s b ≡ true → open_at s b ≡ false
unfolding ended_at open_at
ended_shut s b e = ended_in s (window_in b.pil b.year) e

module _ (s : ℕ) (ls : List Stamped) (b : Booking) where
  pub clocked_parts : clocked s ls b ≡ true → (labels_fail s ls b.tuner ≡ true) × (in_length s b ≡ true) × (open_at s b ≡ true)
  unfolding clocked on_time
  clocked_parts e =
      let h = both_true (labels_fail s ls b.tuner) (on_time s b) e in
      let k = both_true (in_length s b) (open_at s b) h.1 in
      (h.0, k.0, k.1)

  pub clocked_labelled : labels_fail s ls b.tuner ≡ false → clocked s ls b ≡ false
  unfolding clocked
  clocked_labelled e = rw e

  pub clocked_shut : open_at s b ≡ false → clocked s ls b ≡ false
  unfolding clocked on_time
  clocked_shut e = rw (e, and-false, and-false)

-- ── when it begins and ends ────────────────────────────────────────────────────────────────────────────────────────
after_it : (n a : ℕ) → (n ≡ 0 → ⊥) → a < a + 60 * n
after_it zero a h = absurd (h refl)
after_it (suc n) a h = omega arith

pub begins : (b : Booking) (w : Window) → window_in b.pil b.year ≡ given w → out_of_range b ≡ false → on_time (announced_at b.pil b.year) b ≡ true
unfolding on_time in_length open_at out_of_range
begins b w e r =
    let a = announced_at b.pil b.year in
    let k = window_in_given b.pil b.year w e in
    let within = announced_within b.pil b.year k.2 in
    let some-length : b.length ≡ 0 → ⊥ =
    eqb-false b.length 0 (both_false (ltb 3 b.tuner) (eqb b.length 0) (both_false _ (ltb 1440 b.length) r).0).1 in
    let first : leb a a ≡ true = le-leb a a (omega arith) in
    let lasts : ltb a (a + 60 * b.length) ≡ true = lt-ltb a (a + 60 * b.length) (after_it b.length a some-length) in
    let opened : open_in a (window_in b.pil b.year) ≡ true =
    rw (
      window_in_real b.pil b.year k.0 k.1 k.2,
      le-leb (opens_at b.pil b.year) a within.0,
      lt-ltb a (closes_at b.pil b.year) within.1,
    )
    refl in
    ap₂ (λ (t u : Bool). t && u) (ap₂ (λ (t u : Bool). t && u) first lasts) opened

module _ (s : ℕ) (b : Booking) where
  pub not_before : s < announced_at b.pil b.year → on_time s b ≡ false
  unfolding on_time in_length
  not_before h = rw (lt-leb (announced_at b.pil b.year) s h)

  pub ends : announced_at b.pil b.year + 60 * b.length ≤ s → on_time s b ≡ false
  unfolding on_time in_length
  ends h = rw (le-ltb s (announced_at b.pil b.year + 60 * b.length) h, and-false)

  pub ends_at_close : ended_at s b ≡ true → on_time s b ≡ false
  unfolding on_time
  ends_at_close e = rw (ended_shut s b e, and-false)
