-- Example 11 for every second, places and booking: what a timer sees where each match has PRF 1, and what it becomes.
use Prim.Native.Nat.{ℕ, ◌+◌, ◌-◌, ◌≤◌}
use mathlib.Core.Path.{◌≡◌, refl, ◌∙◌}
use mathlib.Core.Bool.{true, false}
use mathlib.Core.List.{List, [], ◌∷◌}
use native.Mathlib.Omega.{arith}
use borrow.Author.Tests.{le-ltb}
use Rattle.places.specs.Places.{labels_fail}
use Rattle.matching.specs.Matching.{open_at, sight_of}
use Rattle.clocked.proofs.Parts.{clocked_labelled}
use Rattle.rule.specs.Rule.{clock_or, not_live, prepare_for, moves_or, from_recording, run_for, from_running_on, next_copy, is_live}
use Rattle.places.specs.declared.Stamped.{Stamped}
use Rattle.matching.specs.declared.Booking.{Booking}
use Rattle.rule.specs.declared.Copy.{Copy}
use Rattle.rule.specs.declared.Copy.TheVariants.{Prepared}
use Rattle.matching.specs.declared.Sight.{Sight}
use Rattle.matching.specs.declared.Sight.TheVariants.{Nothing, Prepare, Start}
use Rattle.rule.proofs.Steps.{next_waiting, next_prepared, next_by_clock}
use Rattle.desk.specs.declared.Desk.{Desk}
use Rattle.desk.specs.Moments.{walk}
use Rattle.desk.specs.Calls.{timer_at}
use Rattle.desk.proofs.Settle.{next_copy_open}
use Rattle.history.proofs.Windows.{matches_open}
use Rattle.history.specs.Run.{Call, reached}
use Rattle.history.specs.Update.{AllSpare}
use Rattle.history.specs.Prepared.{moments_in, NoPrf0, OnlyPrf1, PreparedThenRecords}
use Rattle.history.specs.Laws.{Each}
use Rattle.history.proofs.Sees.{no_start, sees_prepare}
use Rattle.history.proofs.Proved as history
use Rattle.marked.specs.Marked.{NotLive, waits, by_clock, is_prepared, recorded, ran_on, Labelled, IsPrepared}

-- ── where no match has PRF 0 ───────────────────────────────────────────────────────────────────────────────────────
module _ (s : ℕ) (ls : List Stamped) (b : Booking) (none : NoPrf0 s ls b) where
  -- a copy moves nowhere
  pub moves_not : (next : Copy) → moves_or ls (sight_of s ls b) next ≡ next
  moves_not next = go (sight_of s ls b) refl
    where
      go : (g : Sight) → sight_of s ls b ≡ g → moves_or ls g next ≡ next
      go (Start q) e = absurd (no_start s ls b none q e)
      go (Prepare q) e = refl
      go Nothing e = refl

  -- and none starts, nor does the clock record it
  pub starts_not : labels_fail s ls b.tuner ≡ false → is_live (not_live s ls b (sight_of s ls b)) ≡ false
  unfolding clock_or
  starts_not h = go (sight_of s ls b) refl
    where
      go : (g : Sight) → sight_of s ls b ≡ g → is_live (not_live s ls b g) ≡ false
      go (Start q) e = absurd (no_start s ls b none q e)
      go (Prepare q) e = rw (clocked_labelled s ls b h)
      go Nothing e = rw (clocked_labelled s ls b h)

-- ── a match of PRF 1 only ──────────────────────────────────────────────────────────────────────────────────────────
module _ (s : ℕ) (ls : List Stamped) (b : Booking) (h : OnlyPrf1 s ls b) (labelled : labels_fail s ls b.tuner ≡ false) where
  opened : open_at s b ≡ true
  opened = matches_open b s _ h.matching

  -- the clock does not record it
  not_clocked : (next : Copy) → clock_or s ls b next ≡ next
  unfolding clock_or
  not_clocked next = rw (clocked_labelled s ls b labelled)

  pub prepares : {c : Copy} {v : ℕ} → NotLive s ls b c v → next_copy s ls b c ≡ Prepared v
  unfolding from_recording from_running_on
  prepares waits = next_waiting s ls b ∙ rw (sees_prepare s ls b h).1 (not_clocked (Prepared s))
  prepares by_clock = next_by_clock s ls b ∙ rw (sees_prepare s ls b h).1 (not_clocked (Prepared s))
  prepares (is_prepared v k) =
      next_prepared s ls b v ∙ rw ((sees_prepare s ls b h).1, le-ltb prepare_for (s - v) (omega arith)) (not_clocked (Prepared v))
  prepares (recorded p m) = next_copy_open s ls b opened _ ∙ rw (m, (sees_prepare s ls b h).1) (not_clocked (Prepared s))
  prepares (ran_on p v k) =
      next_copy_open s ls b opened _ ∙ rw (le-ltb (s - v) run_for (omega arith), (sees_prepare s ls b h).1) (not_clocked (Prepared s))

-- ── up to v+60 ─────────────────────────────────────────────────────────────────────────────────────────────────────
each_prepared : (slot v : ℕ) (b : Booking) (es : List Desk) → Each (λ e. (e.clock ≤ v + 60) × OnlyPrf1 e.clock e.places b × Labelled b e) es →
    PreparedThenRecords slot b v es → Each (IsPrepared slot v) es
each_prepared slot v b [] h k = tt
each_prepared slot v b (e ∷ es) h k =
    let now = (k h.0.1 (clocked_labelled e.clock e.places b h.0.2)).0 h.0.0 in ((rw now.0, rw now.0), each_prepared slot v b es h.1 now.1)

pub prepared_to_60 : (cs : List Call) (n slot v : ℕ) (later : List Call) → let d = walk n (reached cs) in
    (timer_at d slot).copy ≡ Prepared v → AllSpare slot later d →
    Each (λ e. (e.clock ≤ v + 60) × OnlyPrf1 e.clock e.places (timer_at d slot).booking × Labelled (timer_at d slot).booking e)
    (moments_in later d) →
    Each (IsPrepared slot v) (moments_in later d)
prepared_to_60 cs n slot v later e k h =
    let d = walk n (reached cs) in
    let b = (timer_at d slot).booking in
    each_prepared slot v b (moments_in later d) h ((history.laws).after_60 cs n slot v later e k)
