-- Where the code may leave a test out: a timer that is not live sees nothing while its window is not open and is not by the clock, and a free
-- slot stays free.
use Prim.Native.Nat.{ℕ}
use mathlib.Core.Path.{◌≡◌, refl, sym, ap, ◌∙◌}
use mathlib.Core.Bool.{Bool, true, false, cond, not, true≢false}
use mathlib.Core.List.{List}
use lib.ListN.{get_or}
use Rattle.answer.proofs.Cases.{by_test, both_true}
use Rattle.places.specs.Places.{no_label}
use Rattle.matching.specs.Matching.{open_at, matches, sight_of}
use Rattle.rule.specs.Rule.{recording_at, clock_or, not_live, from_prepared, moves_or, from_recording, from_running_on, held, next_copy, next_timer, live_timer}
use Rattle.matching.specs.Look.{named}
use Rattle.places.specs.declared.Stamped.{Stamped}
use Rattle.matching.specs.declared.Booking.{Booking}
use Rattle.rule.specs.declared.Copy.{Copy}
use Rattle.rule.specs.declared.Copy.TheVariants.{Free, Waiting, Prepared, Recording, RunningOn, ByTheClock}
use Rattle.rule.specs.declared.Timer.{Timer}
use Rattle.matching.specs.declared.Sight.{Sight}
use Rattle.matching.specs.declared.Sight.TheVariants.{Nothing, Prepare, Start}
use Rattle.matching.proofs.Sights.{match_named, sight_shut}
use Rattle.clocked.proofs.Parts.{clocked_shut}

-- a label that matches has an open window
match_open : (s : ℕ) (b : Booking) (l : Stamped) → matches s b l ≡ true → open_at s b ≡ true
match_open s b l e = (both_true (named s b l) (open_at s b) (sym (match_named s b l) ∙ e)).1

-- what is not live moves to the lowest place with PRF 0 too
pub moves_not_live : (s : ℕ) (ls : List Stamped) (b : Booking) (seen : Sight) → moves_or ls seen (not_live s ls b seen) ≡ not_live s ls b seen
moves_not_live s ls b Nothing = refl
moves_not_live s ls b (Prepare q) = refl
moves_not_live s ls b (Start q) = refl

module _ (s : ℕ) (ls : List Stamped) (b : Booking) where
  shut_waits : open_at s b ≡ false → clock_or s ls b Waiting ≡ Waiting
  unfolding clock_or
  shut_waits e = rw (clocked_shut s ls b e)

  -- while the window is not open a timer that is not live waits, also by what it sees
  not_open_waits : (by-sight : Sight → Copy) → by-sight Nothing ≡ clock_or s ls b Waiting →
      cond (not (open_at s b)) Waiting (by-sight (sight_of s ls b)) ≡ by-sight (sight_of s ls b)
  not_open_waits f n = by_test (open_at s b) (λ e. rw e) (λ e. rw (e, sight_shut s ls b e) (sym (n ∙ shut_waits e)))

  pub next_waiting : next_copy s ls b Waiting ≡ not_live s ls b (sight_of s ls b)
  unfolding next_copy
  next_waiting = not_open_waits (not_live s ls b) refl

  pub next_by_clock : next_copy s ls b ByTheClock ≡ not_live s ls b (sight_of s ls b)
  unfolding next_copy
  next_by_clock = not_open_waits (not_live s ls b) refl

  pub next_prepared : (v : ℕ) → next_copy s ls b (Prepared v) ≡ from_prepared s ls b v (sight_of s ls b)
  unfolding next_copy
  next_prepared v = not_open_waits (from_prepared s ls b v) refl

  -- what is live, by the tests that lead to each case
  pub live_shut : (c : Copy) → held c ≡ true → open_at s b ≡ false → next_copy s ls b c ≡ Waiting
  unfolding next_copy
  live_shut c h e = rw (h, e)

  pub recording_stays : (p : ℕ) (mi : Bool) → matches s b (get_or ls p no_label) ≡ true → next_copy s ls b (Recording p mi) ≡ recording_at ls p
  unfolding next_copy from_recording
  recording_stays p mi m = rw (match_open s b (get_or ls p no_label) m, m)

  pub recording_leaves : (p : ℕ) (mi : Bool) → matches s b (get_or ls p no_label) ≡ false → open_at s b ≡ true →
      next_copy s ls b (Recording p mi) ≡ moves_or ls (sight_of s ls b) (cond mi (not_live s ls b (sight_of s ls b)) (RunningOn p s))
  unfolding next_copy from_recording
  recording_leaves p mi m e = rw (e, m)

  pub running_on : (p v : ℕ) → open_at s b ≡ true → next_copy s ls b (RunningOn p v) ≡ from_running_on s ls b p v
  unfolding next_copy
  running_on p v e = rw e

-- ── a free slot ────────────────────────────────────────────────────────────────────────────────────────────────────
pub not_held : (c : Copy) → held c ≡ false → c ≡ Free
not_held Free e = refl
not_held Waiting e = absurd (true≢false e)
not_held (Prepared v) e = absurd (true≢false e)
not_held (Recording p mi) e = absurd (true≢false e)
not_held (RunningOn p v) e = absurd (true≢false e)
not_held ByTheClock e = absurd (true≢false e)

pub free_copy : (s : ℕ) (ls : List Stamped) (b : Booking) (c : Copy) → held c ≡ false → next_copy s ls b c ≡ c
unfolding next_copy
free_copy s ls b c e = rw (not_held c e)

pub free_stays : (s : ℕ) (ls : List Stamped) (t : Timer) → held t.copy ≡ false → next_timer s ls t ≡ t
unfolding next_timer
free_stays s ls t e = ap (λ c. record { booking = t.booking; copy = c }) (free_copy s ls t.booking t.copy e)

pub free_not_live : (t : Timer) → held t.copy ≡ false → live_timer t ≡ false
free_not_live t e = rw (not_held t.copy e)
