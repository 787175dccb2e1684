-- A copy that is prepared, from moment to moment: up to 60 seconds, and then recording; and that a break counts anew.
use Prim.Native.Nat.{ℕ, suc, ◌+◌, ◌-◌, ◌≤◌}
use mathlib.Core.Path.{◌≡◌, refl, ap, ◌∙◌}
use mathlib.Core.Bool.{Bool, true, false, cond}
use mathlib.Core.List.{List, [], ◌∷◌}
use mathlib.Core.Logic.{inl, inr}
use native.Mathlib.Omega.{arith}
use borrow.Author.Tests.{lt-ltb, le-ltb}
use lib.Dec.{ltb}
use Rattle.matching.specs.Matching.{ended_at}
use Rattle.clocked.specs.Clocked.{clocked}
use Rattle.rule.specs.Rule.{recording_at, clock_or, prepare_for, from_prepared, held, next_copy, next_timer}
use Rattle.places.specs.declared.Stamped.{Stamped}
use Rattle.matching.specs.declared.Booking.{Booking}
use Rattle.rule.specs.declared.Copy.{Copy}
use Rattle.rule.specs.declared.Copy.TheVariants.{Free, Waiting, Prepared, Recording, RunningOn, ByTheClock}
use Rattle.rule.specs.declared.Timer.{Timer}
use Rattle.rule.proofs.Steps.{next_prepared, recording_stays}
use Rattle.sixteen.specs.Sixteen.{no_timer}
use Rattle.desk.specs.declared.Desk.{Desk}
use Rattle.desk.specs.Moments.{moment, clocked_at, next_second, pass_to}
use Rattle.desk.specs.Calls.{with_label, with_timer, timer_at}
use Rattle.desk.proofs.Settle.{Settled, prepare_matches, walk_keeps}
use Rattle.history.specs.Run.{Call, outcome, left}
use Rattle.history.specs.Update.{AllSpare}
use Rattle.history.specs.Prepared.{moments_in, OnlyPrf1, RecordsFrom, PreparedThenRecords, prepared_since}
use Rattle.history.specs.Laws.{Each, Sound}
use Rattle.history.proofs.Lists.{get_d_set}
use Rattle.history.proofs.Windows.{open_not_ended, matches_open}
use Rattle.history.proofs.Next.{next_is, next_prepared_since}
use Rattle.history.proofs.Sees.{sees_prepare, prepare_only}
use Rattle.history.proofs.Steps.{Step, same, hears, waits, passes, adds, cancels, updates, Put, freed, moved, step}
use Rattle.history.proofs.Keeps.{copy_moment, settled_copy}
use Rattle.history.proofs.Chain.{GoesOn, Chain, AllTouch, chain_calls, each_second}

-- ── what is prepared ───────────────────────────────────────────────────────────────────────────────────────────────
pub since : (s v : ℕ) (ls : List Stamped) (b : Booking) (c : Copy) → next_copy s ls b c ≡ Prepared v → v ≡ prepared_since s c
since s v ls b c e = (next_prepared_since s ls b (next_is s ls b c) v e).0

pub prepares : (s v : ℕ) (ls : List Stamped) (b : Booking) (c : Copy) → next_copy s ls b c ≡ Prepared v →
    OnlyPrf1 s ls b × (clocked s ls b ≡ false)
prepares s v ls b c e =
    let k = next_prepared_since s ls b (next_is s ls b c) v e in
    (prepare_only s ls b k.2.0 k.2.1, k.1)

-- ── up to 60 seconds, and then ─────────────────────────────────────────────────────────────────────────────────────
module _ (slot : ℕ) (b : Booking) where
  -- this slot's timer has booking b and copy c, and has not ended
  pub record Has (c : Copy) (d : Desk) : Type 0 where
    pub timer : timer_at d slot ≡ record { booking = b; copy = c }
    pub lasts : ended_at d.clock b ≡ false
    pub held_now : held c ≡ true

  -- where the slot is not cancelled, it goes on
  pub goes_to : {c n : Copy} (d e : Desk) → Has c d → GoesOn slot ⊥ d e → next_copy e.clock e.places b c ≡ n →
      timer_at e slot ≡ record { booking = b; copy = n }
  unfolding next_timer
  goes_to d e h g k = elim g.before [
    | inl w ↦ g.timer ∙ rw (w, h.timer, k)
    | inr w ↦ absurd (w.1 (rw (h.timer, h.held_now, h.lasts)))
  ]

  records_from : (q : ℕ) (es : List Desk) (d : Desk) (mi : Bool) → Has (Recording q mi) d → Chain slot ⊥ d es → RecordsFrom slot b q es
  unfolding recording_at
  records_from q [] d mi h c = tt
  records_from q (e ∷ es) d mi h c = λ m.
      let t = goes_to d e h c.0 (recording_stays e.clock e.places b q mi m) in
      let lasts = open_not_ended b e.clock (matches_open b e.clock _ m) in
      (t, records_from q es e _ (record { timer = t; lasts = lasts; held_now = refl }) c.1)

  module _ (v : ℕ) where
    prepared_then : (es : List Desk) (d : Desk) → Has (Prepared v) d → d.clock ≤ v + 60 → Chain slot ⊥ d es → PreparedThenRecords slot b v es
    unfolding recording_at clock_or
    prepared_then [] d h k c = tt
    prepared_then (e ∷ es) d h k c = λ only off.
        let s = e.clock in
        let not_clocked : clocked s e.places b ≡ false = off in
        let seen = sees_prepare s e.places b only in
        let next : next_copy s e.places b (Prepared v) ≡ cond (ltb prepare_for (s - v)) (recording_at e.places seen.0) (Prepared v) =
        next_prepared s e.places b v ∙ ap (from_prepared s e.places b v) seen.1 ∙ rw not_clocked in
        let lasts = open_not_ended b s (matches_open b s _ only.matching) in (
          λ l. let t = goes_to d e h c.0 (rw (le-ltb prepare_for (s - v) (omega arith)) at next) in
              (t, prepared_then es e (record { timer = t; lasts = lasts; held_now = refl }) l c.1),
          λ l. let t = goes_to d e h c.0 (rw (lt-ltb prepare_for (s - v) (omega arith)) at next) in
              (omega (arith, c.0.next_clock), (seen.0, seen.2, λ m. (t, records_from seen.0 es e _ (record { timer = t; lasts = lasts; held_now = refl }) c.1))),
        )

-- a prepared copy of a settled desk has not ended
prepared_lasts : (d : Desk) → Settled d → (slot v : ℕ) → (timer_at d slot).copy ≡ Prepared v → ended_at d.clock (timer_at d slot).booking ≡ false
prepared_lasts d h slot v e =
    let b = (timer_at d slot).booking in
    let seen = (next_prepared_since _ _ _ (settled_copy d slot h) v e).2 in
    open_not_ended b d.clock (matches_open b d.clock _ (prepare_matches d.clock d.places b seen.0 seen.1))

pub all_touch : (slot : ℕ) (cs : List Call) (d : Desk) → AllSpare slot cs d → AllTouch slot ⊥ cs d
all_touch slot [] d n = tt
all_touch slot (c ∷ cs) d n = (n.0, all_touch slot cs (left d (outcome c d)) n.1)

pub after_60 : (d : Desk) → Sound d → (slot v : ℕ) (later : List Call) → (timer_at d slot).copy ≡ Prepared v →
    AllSpare slot later d → PreparedThenRecords slot (timer_at d slot).booking v (moments_in later d)
after_60 d h slot v later e n =
    let b = (timer_at d slot).booking in
    prepared_then slot b v (moments_in later d) d
    (record { timer = ap (λ c. record { booking = b; copy = c }) e; lasts = prepared_lasts d h.settled slot v e; held_now = refl })
    (rw e at (h.prepared slot)) (chain_calls slot ⊥ later d h.settled (all_touch slot later d n))

-- ── a break ────────────────────────────────────────────────────────────────────────────────────────────────────────
module _ (u slot : ℕ) where
  -- this slot's copy is not prepared since before u
  abbrev Anew : Copy → Type 0
  Anew c = (v : ℕ) → c ≡ Prepared v → u ≤ v

  record NotBefore (d : Desk) : Type 0 where
    pub clock : u ≤ d.clock
    pub anew : Anew (timer_at d slot).copy

  since_anew : (s : ℕ) → u ≤ s → (c : Copy) → Anew c → u ≤ prepared_since s c
  since_anew s h Free a = h
  since_anew s h Waiting a = h
  since_anew s h (Prepared v) a = a v refl
  since_anew s h (Recording p mi) a = h
  since_anew s h (RunningOn p v) a = h
  since_anew s h ByTheClock a = h

  anew_moment : (d : Desk) → NotBefore d → NotBefore (moment d)
  unfolding moment
  anew_moment d h = record {
    clock = h.clock;
    anew = λ v e. rw (next_prepared_since _ _ _ (copy_moment d slot) v e).0 (since_anew d.clock h.clock (timer_at d slot).copy h.anew);
  }

  anew_second : (d : Desk) → NotBefore d → NotBefore (next_second d)
  unfolding next_second
  anew_second d h = anew_moment (clocked_at (suc d.clock) d) (record { clock = omega (arith, h.clock); anew = h.anew })

  anew_pass : (t : ℕ) (d : Desk) → NotBefore d → NotBefore (pass_to t d)
  unfolding pass_to
  anew_pass t d h = walk_keeps NotBefore anew_second (t - d.clock) d h

  anew_timer : (i : ℕ) (t : Timer) (d : Desk) → Anew t.copy → NotBefore d → NotBefore (with_timer i t d)
  anew_timer i t d a h = record {
    clock = h.clock;
    anew = elim (get_d_set no_timer t d.timers i slot) [ inl e ↦ rw e.1 a | inr e ↦ rw e h.anew ];
  }

  waiting_anew : Anew Waiting
  waiting_anew v e = absurd (let z : ◌≡◌ {A = ℕ} 0 1 = cc in omega arith)

  free_anew : Anew Free
  free_anew v e = absurd (let z : ◌≡◌ {A = ℕ} 0 1 = cc in omega arith)

  -- an updated timer keeps its copy
  anew_put : {t : Timer} (i : ℕ) (b : Booking) (d : Desk) → NotBefore d → Put i b d t → NotBefore (with_timer i t d)
  anew_put i b d h (freed e) = anew_timer i no_timer d free_anew h
  anew_put i b d h (moved e) = record {
    clock = h.clock;
    anew = elim (get_d_set no_timer (record { booking = b; copy = (timer_at d i).copy }) d.timers i slot) [
      | inl k ↦ rw (k.1, ← k.0) h.anew
      | inr k ↦ rw k h.anew
    ];
  }

  anew_step : {c : Call} (d : Desk) {e : Desk} → NotBefore d → Step d c e → NotBefore e
  anew_step d h same = h
  anew_step d h (hears tuner t l r k m) =
      let x = anew_pass t d h in anew_moment (with_label tuner l (pass_to t d)) (record { clock = x.clock; anew = x.anew })
  anew_step d h (waits t k m) = anew_moment (pass_to t d) (anew_pass t d h)
  anew_step d h (passes k) = anew_second d h
  anew_step d h (adds b w i e range alone room) = anew_moment (with_timer i _ d) (anew_timer i _ d waiting_anew h)
  anew_step d h (cancels i e) = anew_moment (with_timer i no_timer d) (anew_timer i no_timer d free_anew h)
  anew_step d h (updates i b a p) =
      let x = pass_to a.t d in
      let k = anew_pass a.t d h in
      anew_moment (with_timer i _ x) (anew_put i b x k p)

  abbrev AllAnew : List Desk → Type 0
  AllAnew es = Each (λ e. Anew (timer_at e slot).copy) es

  anew_calls : (cs : List Call) (d : Desk) → NotBefore d → AllAnew (moments_in cs d)
  unfolding moments_in
  anew_calls [] d h = tt
  anew_calls (c ∷ cs) d h =
      let e = left d (outcome c d) in
      let x = anew_step d h (step d c) in
      each_second (λ y. Anew (timer_at y slot).copy) (e.clock - d.clock) d (e ∷ moments_in cs e)
      (λ n. (walk_keeps NotBefore anew_second n d h).anew) (x.anew, anew_calls cs e x)

pub break : (d : Desk) (slot : ℕ) (later : List Call) → ((u : ℕ) → (timer_at d slot).copy ≡ Prepared u → ⊥) →
    Each (λ e. (v : ℕ) → (timer_at e slot).copy ≡ Prepared v → d.clock ≤ v) (moments_in later d)
break d slot later n = anew_calls d.clock slot later d (record { clock = omega arith; anew = λ v e. absurd (n v e) })
