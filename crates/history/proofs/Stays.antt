-- A recording stays with its place while its label stands there, and what starts or moves a copy.
use Prim.Native.Nat.{ℕ, zero, suc, ◌+◌, ◌-◌, ◌≤◌}
use mathlib.Core.Path.{◌≡◌, refl, sym, ap, ◌∙◌}
use mathlib.Core.Bool.{Bool, true, false, ◌&&◌}
use mathlib.Core.List.{List, [], ◌∷◌}
use mathlib.Core.Logic.{◌⊎◌, inl, inr}
use native.Mathlib.Omega.{arith}
use borrow.Author.Tests.{leb-true, le-leb, lt-ltb, eq-eqb}
use lib.Dec.{leb, eqb}
use lib.ListN.{get_or}
use Rattle.answer.proofs.Cases.{both_true}
use Rattle.places.specs.Places.{no_label, stand_for, stands, at}
use Rattle.matching.specs.Matching.{open_at, matches}
use Rattle.rule.specs.Rule.{recording_at, prepare_for, from_recording, next_copy, next_timer}
use Rattle.places.specs.declared.Stamped.{Stamped}
use Rattle.matching.specs.declared.Booking.{Booking}
use Rattle.rule.specs.declared.Copy.{Copy}
use Rattle.rule.specs.declared.Copy.TheVariants.{Recording}
use Rattle.rule.specs.declared.Timer.{Timer}
use Rattle.desk.specs.declared.Desk.{Desk}
use Rattle.sixteen.specs.Sixteen.{no_timer}
use Rattle.desk.specs.Moments.{moment, clocked_at, next_second, walk, pass_to}
use Rattle.desk.specs.Calls.{room_in, with_label, with_timer, timer_at}
use Rattle.desk.proofs.Settle.{next_copy_open}
use Rattle.desk.proofs.Jump.{timer_at_moment, walk_clock}
use Rattle.history.specs.Run.{Call, cancel, desk_after}
use Rattle.history.specs.Update.{Spares}
use Rattle.history.specs.Laws.{Sound, records_at, long_prepared}
use Rattle.history.proofs.Windows.{open_not_ended, open_later, not_ended_before, matches_open}
use Rattle.history.proofs.Next as next
use Rattle.history.proofs.Next.{Next, next_is}
use Rattle.history.proofs.Steps.{Step, same, hears, waits, passes, adds, cancels, updates, step, other_slot, room_apart}
use Rattle.history.proofs.OneCopy.{live_active}

-- ── what starts a copy ─────────────────────────────────────────────────────────────────────────────────────────────
module _ (s q : ℕ) (ls : List Stamped) (b : Booking) (c : Copy) (mi : Bool) where
  abbrev Started : Type 0
  Started = (matches s b (get_or ls q no_label) ≡ true) × (((get_or ls q no_label).prf ≡ false) ⊎ (records_at q c ≡ true) ⊎ (long_prepared s c ≡ true))

  next_starts : {n : Copy} → Next s ls b c n → n ≡ Recording q mi → Started
  unfolding recording_at
  next_starts (next.free e) k = (cc, inl (cc))
  next_starts (next.waits f h) k = (cc, inl (cc))
  next_starts (next.by_clock f h n) k = (cc, inl (cc))
  next_starts (next.prepares f g h i) k = (cc, inl (cc))
  next_starts (next.still v f g e l) k = (cc, inl (cc))
  next_starts (next.at_last r v e l m) k = let z : r ≡ q = cc in (rw (← z) m, inr (inr (rw e (lt-ltb prepare_for (s - v) l))))
  next_starts (next.starts r h m f) k = let z : r ≡ q = cc in rw (← z) (m, inl f)
  next_starts (next.stays r i e m) k = let z : r ≡ q = cc in (rw (← z) m, inr (inl (rw e (eq-eqb r q z))))
  next_starts (next.leaves p i e o) k = (cc, inl (cc))
  next_starts (next.runs p v e o r) k = (cc, inl (cc))

  pub starts : next_copy s ls b c ≡ Recording q mi → Started
  starts e = next_starts (next_is s ls b c) e

-- ── a match holds between ──────────────────────────────────────────────────────────────────────────────────────────
stands_before : (s s' : ℕ) (l : Stamped) → s ≤ s' → stands s' l ≡ true → stands s l ≡ true
unfolding stands
stands_before s s' l h e =
    let k = both_true l.heard (leb (s' - l.stamp) stand_for) e in
    rw k.0 (le-leb (s - l.stamp) stand_for (omega (arith, leb-true (s' - l.stamp) stand_for k.1)))

-- from a second at which the window is open to one at which the label matches
matches_between : (b : Booking) (l : Stamped) (o s s' : ℕ) → o ≤ s → s ≤ s' → open_at o b ≡ true → matches s' b l ≡ true → matches s b l ≡ true
unfolding matches
matches_between b l o s s' h k e m =
    let x = both_true (stands s' l && eqb l.cni b.cni && eqb l.pil b.pil) (open_at s' b) m in
    let y = both_true (stands s' l && eqb l.cni b.cni) (eqb l.pil b.pil) x.0 in
    let z = both_true (stands s' l) (eqb l.cni b.cni) y.0 in
    rw (stands_before s s' l k z.0, z.1, y.1)
    (open_later b o s h e (not_ended_before b s s' k (open_not_ended b s' x.1)))

-- ── a recording, in a slot and at a place ──────────────────────────────────────────────────────────────────────────
module _ (slot place : ℕ) (b : Booking) where
  abbrev Records : Desk → Type 0
  Records d = (mi : Bool) × (timer_at d slot ≡ record { booking = b; copy = Recording place mi })

  abbrev MatchesAt : ℕ → Desk → Type 0
  MatchesAt s d = matches s b (get_or d.places place no_label) ≡ true

  -- with the MI of the label there
  abbrev RecordsOn : Desk → Type 0
  RecordsOn d = timer_at d slot ≡ record { booking = b; copy = recording_at d.places place }

  moment_records : (d : Desk) → Records d → MatchesAt d.clock d → RecordsOn (moment d)
  unfolding moment next_timer from_recording
  moment_records d r m =
      timer_at_moment d slot
      ∙ rw (r.1, next_copy_open d.clock d.places b (matches_open b d.clock _ m) (Recording place r.0), m)

  walk_records : (n : ℕ) (d : Desk) → Records d → ((s : ℕ) → d.clock ≤ s → s ≤ d.clock + n → MatchesAt s d) → Records (walk n d)
  unfolding walk next_second moment recording_at
  walk_records zero d r m = r
  walk_records (suc n) d r m =
      let s = suc d.clock in
      walk_records n (next_second d) (_, moment_records (clocked_at s d) r (m s (omega arith) (omega arith))) (λ u h k. m u (omega arith) (omega arith))

  pass_records : (t : ℕ) (d : Desk) → Records d → open_at d.clock b ≡ true → MatchesAt (pass_to t d).clock d → Records (pass_to t d)
  unfolding pass_to
  pass_records t d r o m =
      let n = t - d.clock in
      walk_records n d r λ s h k. matches_between b _ d.clock s (walk n d).clock h (omega (arith, walk_clock n d)) o m

  -- the slot that adding uses holds no live copy
  room_other : (i : ℕ) (d : Desk) → Sound d → Records d → room_in d ≡ at i → slot ≡ i → ⊥
  room_other i d h r e = room_apart slot i d e (live_active d h slot (rw r.1))

  -- another slot takes a timer
  other_records : (i : ℕ) (t : Timer) (d : Desk) → (slot ≡ i → ⊥) → Records d → Records (with_timer i t d)
  other_records i t d n r = (r.0, other_slot slot i t d n ∙ r.1)

  records_open : (d : Desk) → Sound d → Records d → open_at d.clock b ≡ true
  records_open d h r = (rw r.1 at (h.open_window slot)) refl

  step_records : {c : Call} (d : Desk) {e : Desk} → Sound d → Records d → Spares slot c d → Step d c e →
      MatchesAt e.clock d → MatchesAt e.clock e → RecordsOn e
  unfolding moment next_second
  step_records d h r n same m l = ap (λ x. timer_at x slot) (sym h.settled) ∙ moment_records d r m
  step_records d h r n (hears tuner t x y k z) m l = moment_records (with_label tuner x (pass_to t d)) (pass_records t d r (records_open d h r) m) l
  step_records d h r n (waits t k z) m l = moment_records (pass_to t d) (pass_records t d r (records_open d h r) m) l
  step_records d h r n (passes k) m l = moment_records (clocked_at (suc d.clock) d) r l
  step_records d h r n (adds x w i e range alone room) m l = moment_records (with_timer i _ d) (other_records i _ d (room_other i d h r room) r) l
  step_records d h r n (cancels i e) m l = moment_records (with_timer i no_timer d) (other_records i no_timer d (λ k. n.0 (e ∙ ap cancel (sym k))) r) l
  step_records d h r n (updates i x a p) m l =
      let y = pass_to a.t d in
      moment_records (with_timer i _ y)
      (other_records i _ y (λ k. n.1 x (rw k a)) (pass_records a.t d r (records_open d h r) m)) l

pub stays : (d : Desk) → Sound d → (c : Call) (slot place : ℕ) (mi : Bool) → Spares slot c d →
    let e = desk_after (c ∷ []) d in let b = (timer_at d slot).booking in
    (timer_at d slot).copy ≡ Recording place mi → matches e.clock b (get_or d.places place no_label) ≡ true →
    matches e.clock b (get_or e.places place no_label) ≡ true →
    timer_at e slot ≡ record { booking = b; copy = recording_at e.places place }
unfolding desk_after
stays d h c slot place mi n r =
    let b = (timer_at d slot).booking in
    step_records slot place b d h (mi, ap (λ x. record { booking = b; copy = x }) r) n (step d c)
