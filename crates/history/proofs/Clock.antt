-- When a timer is recorded by the clock, what takes it over, and what it ends.
use Prim.Native.Nat.{ℕ}
use mathlib.Core.Path.{◌≡◌, refl, sym, ◌∙◌}
use mathlib.Core.Bool.{true, false, true≢false}
use mathlib.Core.List.{List}
use Rattle.places.specs.Places.{labels_fail}
use Rattle.matching.specs.Matching.{open_at, sight_of}
use Rattle.clocked.specs.Clocked.{in_length, clocked}
use Rattle.clocked.proofs.Parts.{clocked_parts}
use Rattle.rule.specs.Rule.{recording_at, clock_or, from_prepared, held, next_copy, by_labels, is_live, live_timer}
use Rattle.places.specs.declared.Stamped.{Stamped}
use Rattle.matching.specs.declared.Booking.{Booking}
use Rattle.rule.specs.declared.Copy.{Copy}
use Rattle.rule.specs.declared.Copy.TheVariants.{Free, Waiting, Prepared, Recording, RunningOn, ByTheClock}
use Rattle.matching.specs.declared.Sight.{Sight}
use Rattle.matching.specs.declared.Sight.TheVariants.{Nothing, Prepare, Start}
use Rattle.rule.proofs.Steps.{next_by_clock, next_prepared}
use Rattle.desk.specs.declared.Desk.{Desk}
use Rattle.desk.specs.Calls.{timer_at}
use Rattle.desk.proofs.Settle.{Settled}
use Rattle.history.specs.Prepared.{NoPrf0}
use Rattle.history.specs.Clock.{ClockRecords}
use Rattle.history.proofs.Windows.{is_clocked}
use Rattle.history.proofs.Sees.{no_start}
use Rattle.history.proofs.Next.{Next, free, waits, by_clock, prepares, still, at_last, starts, stays, leaves, runs, next_clocked}
use Rattle.history.proofs.Keeps.{settled_copy}

-- ── one copy ───────────────────────────────────────────────────────────────────────────────────────────────────────
by_clock_alone : (c : Copy) → is_live c ≡ true → by_labels c ≡ false → c ≡ ByTheClock
by_clock_alone Free l n = absurd (true≢false (sym l))
by_clock_alone Waiting l n = absurd (true≢false (sym l))
by_clock_alone (Prepared v) l n = absurd (true≢false (sym l))
by_clock_alone (Recording p mi) l n = absurd (true≢false n)
by_clock_alone (RunningOn p v) l n = absurd (true≢false n)
by_clock_alone ByTheClock l n = refl

module _ (s : ℕ) (ls : List Stamped) (b : Booking) where
  -- where the clock records, what is held is live
  next_lives : {c n : Copy} → Next s ls b c n → clocked s ls b ≡ true → held c ≡ true → is_live n ≡ true
  unfolding recording_at
  next_lives (free e) t h = rw e at h
  next_lives (waits f k) t h = sym f ∙ t
  next_lives (by_clock f k n) t h = refl
  next_lives (prepares f g k i) t h = sym f ∙ t
  next_lives (still v f g e k) t h = sym f ∙ t
  next_lives (at_last q v e k m) t h = refl
  next_lives (starts q k m z) t h = refl
  next_lives (stays q mi e m) t h = refl
  next_lives (leaves p mi e o) t h = refl
  next_lives (runs p v e o r) t h = refl

  pub taken_over_lem : (q : ℕ) → sight_of s ls b ≡ Start q → next_copy s ls b ByTheClock ≡ recording_at ls q
  taken_over_lem q e = next_by_clock s ls b ∙ rw e

  module _ (v : ℕ) (none : NoPrf0 s ls b) (on : clocked s ls b ≡ true) where
    ends : (g : Sight) → sight_of s ls b ≡ g → from_prepared s ls b v g ≡ ByTheClock
    unfolding clock_or
    ends (Start q) e = absurd (no_start s ls b none q e)
    ends (Prepare q) e = rw on
    ends Nothing e = rw on

    pub clock_ends_prepared : next_copy s ls b (Prepared v) ≡ ByTheClock
    clock_ends_prepared = next_prepared s ls b v ∙ ends (sight_of s ls b) refl

-- ── a settled desk ─────────────────────────────────────────────────────────────────────────────────────────────────
module _ (d : Desk) (h : Settled d) (slot : ℕ) where
  pub no_gap : let t = timer_at d slot in let b = t.booking in
      held t.copy ≡ true → labels_fail d.clock d.places b.tuner ≡ true → in_length d.clock b ≡ true →
      open_at d.clock b ≡ true → live_timer t ≡ true
  no_gap k f l o = next_lives _ _ _ (settled_copy d slot h) (is_clocked (timer_at d slot).booking d.clock d.places f l o) k

  clock_is : (timer_at d slot).copy ≡ ByTheClock → ClockRecords d slot
  clock_is e =
      let k = next_clocked _ _ _ (settled_copy d slot h) e in
      let w = clocked_parts d.clock d.places (timer_at d slot).booking k.2 in
      record { is_held = k.0; neither = rw e; no_start = k.1; labels_fail_lem = w.0; in_length_lem = w.1; in_window = w.2 }

  is_clock : ClockRecords d slot → (timer_at d slot).copy ≡ ByTheClock
  is_clock r = by_clock_alone (timer_at d slot).copy (no_gap r.is_held r.labels_fail_lem r.in_length_lem r.in_window) r.neither

  pub by_the_clock : ((timer_at d slot).copy ≡ ByTheClock → ClockRecords d slot) × (ClockRecords d slot → (timer_at d slot).copy ≡ ByTheClock)
  by_the_clock = (clock_is, is_clock)
