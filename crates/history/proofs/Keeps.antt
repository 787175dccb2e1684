-- What every reachable desk keeps, after every call and at every second inside a wait.
use Prim.Native.Nat.{ℕ, suc, ◌-◌, ◌≤◌, ◌<◌}
use mathlib.Core.Path.{◌≡◌, refl, sym, ap, ◌∙◌}
use mathlib.Core.Bool.{Bool, true, false, cond, not, ◌&&◌, true≢false}
use mathlib.Core.List.{List, [], ◌∷◌}
use mathlib.Core.Logic.{inl, inr}
use native.Mathlib.Omega.{arith}
use borrow.Author.Tests.{eqb-true, eqb-false, eq-eqb, ne_eqb, not-true}
use lib.Dec.{eqb}
use lib.ListN.{length, get_or, length-map, length-set}
use Rattle.answer.specs.Answer.{given}
use Rattle.label.specs.declared.Label.{Label}
use Rattle.label.specs.Pil.{service_of}
use Rattle.calendar.specs.declared.Window.{Window}
use Rattle.calendar.specs.Calendar.{window_in, clock_end}
use Rattle.answer.proofs.Cases.{both_true}
use Rattle.answer.specs.Lists.{some}
use Rattle.places.specs.Places.{no_label, stands, stamped, renewed, is_continuation, heard_at}
use Rattle.matching.specs.Matching.{ended_at}
use Rattle.clocked.specs.Clocked.{out_of_range, in_length}
use Rattle.clocked.proofs.Parts.{clocked_parts}
use Rattle.rule.specs.Rule.{held, next_copy, next_timer}
use Rattle.places.specs.declared.Stamped.{Stamped}
use Rattle.matching.specs.declared.Booking.{Booking}
use Rattle.rule.specs.declared.Copy.TheVariants.{Waiting, ByTheClock}
use Rattle.rule.specs.declared.Timer.{Timer}
use Rattle.desk.specs.declared.Desk.{Desk}
use Rattle.sixteen.specs.Sixteen.{no_timer, active, same_booking}
use Rattle.moving.specs.Moving.{moves, moved_to}
use Rattle.moving.proofs.Update.{meant_matches, moved_by}
use Rattle.desk.specs.Moments.{fresh, moment, clocked_at, next_second, walk, pass_to}
use Rattle.desk.specs.Calls.{place_of, with_label, with_timer, timer_at}
use Rattle.desk.proofs.Settle.{Settled, moment_settled, walk_keeps}
use Rattle.desk.proofs.Jump.{none_at, timer_at_moment}
use Rattle.history.specs.Run.{Call, outcome, left, desk_after, reached}
use Rattle.history.specs.Update.{standing_at, Asks}
use Rattle.history.specs.Laws.{SinceBy, Sound}
use Rattle.history.proofs.Lists.{get_d_set, get_d_same}
use Rattle.history.proofs.Windows.{not_ended_before}
use Rattle.history.proofs.Waits.{pass_to_clock}
use Rattle.history.proofs.Next.{Next, next_is, next_held, next_live, next_since, next_within, next_clocked, since_later}
use Rattle.history.proofs.Steps.{Step, same, hears, waits, passes, adds, cancels, updates, Put, freed, moved, step, other_slot}

untrue : {P : Type 0} → false ≡ true → P
untrue e = absurd (true≢false (sym e))

-- its PIL is real in its year
abbrev Real : Booking → Type 0
Real b = (w : Window) × (window_in b.pil b.year ≡ given w)

-- what holds before a moment: as Sound, but that a live copy's window may not be open now, and a prepared copy's 60 seconds may be over
record Pre (d : Desk) : Type 0 where
  pub sixteen : (length d.places ≡ 16) × (length d.timers ≡ 16)
  pub stamps : (p : ℕ) → (get_or d.places p no_label).stamp ≤ d.clock
  pub seconds : (slot : ℕ) → SinceBy d.clock (timer_at d slot).copy
  pub no_twins : (i j : ℕ) → i < j → active d.clock (timer_at d i) ≡ true → active d.clock (timer_at d j) ≡ true →
      same_booking (timer_at d i).booking (timer_at d j).booking ≡ false
  pub real : (slot : ℕ) → held (timer_at d slot).copy ≡ true → Real (timer_at d slot).booking
  pub in_range : (slot : ℕ) → held (timer_at d slot).copy ≡ true → out_of_range (timer_at d slot).booking ≡ false

-- ── a moment ───────────────────────────────────────────────────────────────────────────────────────────────────────
module _ (d : Desk) (slot : ℕ) where
  booking_moment : (timer_at (moment d) slot).booking ≡ (timer_at d slot).booking
  unfolding next_timer
  booking_moment = ap (λ t. t.booking) (timer_at_moment d slot)

  pub copy_moment : Next d.clock d.places (timer_at d slot).booking (timer_at d slot).copy (timer_at (moment d) slot).copy
  unfolding next_timer
  copy_moment = rw (timer_at_moment d slot) (next_is d.clock d.places (timer_at d slot).booking (timer_at d slot).copy)

  -- a copy of a settled desk goes on as it is
  pub settled_copy : Settled d → Next d.clock d.places (timer_at d slot).booking (timer_at d slot).copy (timer_at d slot).copy
  settled_copy h = rw h at copy_moment

  held_moment : held (timer_at (moment d) slot).copy ≡ held (timer_at d slot).copy
  held_moment = next_held _ _ _ copy_moment

  length_moment : (timer_at (moment d) slot).copy ≡ ByTheClock → in_length d.clock (timer_at d slot).booking ≡ true
  length_moment e = (clocked_parts d.clock d.places (timer_at d slot).booking (next_clocked _ _ _ copy_moment e).2).1

  active_moment : active d.clock (timer_at (moment d) slot) ≡ active d.clock (timer_at d slot)
  active_moment = rw (held_moment, booking_moment)

sound_moment : (d : Desk) → Pre d → Sound (moment d)
unfolding moment
sound_moment d h = record {
  sixteen = (h.sixteen.0, length-map d.timers (next_timer d.clock d.places) ∙ h.sixteen.1);
  stamps = h.stamps;
  seconds = λ slot. next_since _ _ _ (copy_moment d slot) (h.seconds slot);
  prepared = λ slot. next_within _ _ _ (copy_moment d slot);
  open_window = λ slot e. rw (booking_moment d slot) (next_live _ _ _ (copy_moment d slot) e);
  in_length_lem = λ slot e. rw (booking_moment d slot) (length_moment d slot e);
  no_twins = λ i j l a b. rw (booking_moment d i, booking_moment d j) (h.no_twins i j l (sym (active_moment d i) ∙ a) (sym (active_moment d j) ∙ b));
  real = λ slot e. rw (booking_moment d slot) (h.real slot (sym (held_moment d slot) ∙ e));
  in_range = λ slot e. rw (booking_moment d slot) (h.in_range slot (sym (held_moment d slot) ∙ e));
  settled = moment_settled d;
}

-- ── seconds ────────────────────────────────────────────────────────────────────────────────────────────────────────
-- what is held and not ended at a later second is so before
pub active_before : (s s' : ℕ) → s ≤ s' → (t : Timer) → active s' t ≡ true → active s t ≡ true
active_before s s' k t a =
    let h = both_true (held t.copy) (not (ended_at s' t.booking)) a in
    rw (h.0, not_ended_before t.booking s s' k (not-true (ended_at s' t.booking) h.1))

pre_at : (s : ℕ) (d : Desk) → Sound d → d.clock ≤ s → Pre (clocked_at s d)
pre_at s d h k = record {
  sixteen = h.sixteen;
  stamps = λ p. omega (arith, h.stamps p);
  seconds = λ slot. since_later d.clock s k (timer_at d slot).copy (h.seconds slot);
  no_twins = λ i j m a b. h.no_twins i j m (active_before d.clock s k (timer_at d i) a) (active_before d.clock s k (timer_at d j) b);
  real = h.real;
  in_range = h.in_range;
}

pre_now : (d : Desk) → Sound d → Pre d
pre_now d h = pre_at d.clock d h (omega arith)

sound_second : (d : Desk) → Sound d → Sound (next_second d)
unfolding next_second
sound_second d h = sound_moment (clocked_at (suc d.clock) d) (pre_at (suc d.clock) d h (omega arith))

pub sound_walk : (n : ℕ) (d : Desk) → Sound d → Sound (walk n d)
sound_walk = walk_keeps Sound sound_second

sound_pass : (t : ℕ) (d : Desk) → Sound d → Sound (pass_to t d)
unfolding pass_to
sound_pass t d h = sound_walk (t - d.clock) d h

-- ── calls ──────────────────────────────────────────────────────────────────────────────────────────────────────────
cond_stamp : (s : ℕ) (b : Bool) (x y : Stamped) → x.stamp ≤ s → y.stamp ≤ s → (cond b x y).stamp ≤ s
cond_stamp s true x y h k = h
cond_stamp s false x y h k = k

heard_at_stamp : (s : ℕ) (l : Label) (old : Stamped) → old.stamp ≤ s → (heard_at s l old).stamp ≤ s
unfolding heard_at
heard_at_stamp s l old h =
    cond_stamp s (is_continuation (service_of l.pil)) (renewed s old) (stamped s l) (cond_stamp s (stands s old) _ old (omega arith) h) (omega arith)

pre_label : (tuner : ℕ) (l : Label) (d : Desk) → Pre d → Pre (with_label tuner l d)
pre_label tuner l d h =
    let p = place_of tuner l in
    let v = heard_at d.clock l (get_or d.places p no_label) in
    record {
      sixteen = (length-set d.places p v ∙ h.sixteen.0, h.sixteen.1);
      stamps = λ q. elim (get_d_set no_label v d.places p q) [
        | inl e ↦ rw e.1 (heard_at_stamp d.clock l (get_or d.places p no_label) (h.stamps p))
        | inr e ↦ rw e (h.stamps q)
      ];
      seconds = h.seconds;
      no_twins = h.no_twins;
      real = h.real;
      in_range = h.in_range;
    }

eqb_sym : (a b : ℕ) → eqb a b ≡ eqb b a
eqb_sym a b = go (eqb a b) refl
  where
    go : (t : Bool) → eqb a b ≡ t → t ≡ eqb b a
    go true e = sym (eq-eqb b a (sym (eqb-true a b e)))
    go false e = sym (ne_eqb b a (λ k. eqb-false a b e (sym k)))

same_booking_sym : (a b : Booking) → same_booking a b ≡ same_booking b a
same_booking_sym a b = rw (eqb_sym a.cni b.cni, eqb_sym a.pil b.pil, eqb_sym a.year b.year)

-- a timer that no other slot holds, in a slot
module _ (d : Desk) (slot : ℕ) (t : Timer) (h : Pre d) (since : SinceBy d.clock t.copy)
    (apart : active d.clock t ≡ true → (i : ℕ) → (i ≡ slot → ⊥) → active d.clock (timer_at d i) ≡ true →
    same_booking t.booking (timer_at d i).booking ≡ false)
    (t-real : held t.copy ≡ true → Real t.booking) (t-in-range : held t.copy ≡ true → out_of_range t.booking ≡ false) where
  pre_timer : Pre (with_timer slot t d)
  pre_timer =
      let at_slot = get_d_set no_timer t d.timers slot in
      record {
        sixteen = (h.sixteen.0, length-set d.timers slot t ∙ h.sixteen.1);
        stamps = h.stamps;
        seconds = λ i. elim (at_slot i) [ inl e ↦ rw e.1 since | inr e ↦ rw e (h.seconds i) ];
        no_twins = λ i j l. elim (at_slot i) [
          | inl e ↦ elim (at_slot j) [ inl f ↦ absurd (omega (arith, e.0, f.0)) | inr f ↦ rw (e.1, f) (λ a b. apart a j (λ k. omega (arith, e.0)) b) ]
          | inr e ↦ elim (at_slot j) [
            | inl f ↦ rw (e, f.1) (λ a b. same_booking_sym (timer_at d i).booking t.booking ∙ apart b i (λ k. omega (arith, f.0)) a)
            | inr f ↦ rw (e, f) (h.no_twins i j l)
          ]
        ];
        real = λ i. elim (at_slot i) [ inl e ↦ rw e.1 t-real | inr e ↦ rw e (h.real i) ];
        in_range = λ i. elim (at_slot i) [ inl e ↦ rw e.1 t-in-range | inr e ↦ rw e (h.in_range i) ];
      }

-- the test of refusal 13, and of an update's new label
unlike : (d : Desk) (b : Booking) → some (λ t. active d.clock t && same_booking b t.booking) d.timers ≡ false →
    (i : ℕ) → active d.clock (timer_at d i) ≡ true → same_booking b (timer_at d i).booking ≡ false
unlike d b e i a = rw a at (none_at (λ t. active d.clock t && same_booking b t.booking) no_timer refl d.timers e i)

module _ (d : Desk) (h : Sound d) where
  -- a home tuner and a length are kept
  moved_range : (slot : ℕ) (b : Booking) {c : Call} (a : Asks (moves slot b) c d) → out_of_range b ≡ false
  unfolding out_of_range moved_to
  moved_range slot b a =
      let old = standing_at a.tuner a.label d in
      let m = moved_by a.t old a.label d.timers slot b a.asks in
      ap out_of_range m.becomes ∙ h.in_range slot (meant_matches a.t old d.timers slot m.found).0

  pre_put : (slot : ℕ) (b : Booking) {c : Call} (a : Asks (moves slot b) c d) {t : Timer} → let x = pass_to a.t d in Put slot b x t → Pre (with_timer slot t x)
  pre_put slot b a (freed e) =
      let x = pass_to a.t d in
      pre_timer x slot no_timer (pre_now x (sound_pass a.t d h)) tt untrue untrue untrue
  pre_put slot b a (moved e) =
      let x = pass_to a.t d in
      let s = sound_pass a.t d h in
      let m = moved_by a.t (standing_at a.tuner a.label d) a.label d.timers slot b a.asks in
      pre_timer x slot _ (pre_now x s) (s.seconds slot)
      (λ k i n. rw (other_slot i slot no_timer x n) at (unlike (with_timer slot no_timer x) b e i))
      (λ k. (m.window, m.real)) (λ k. moved_range slot b a)

  pub keeps : {c : Call} {e : Desk} → Step d c e → Sound e
  keeps same = h
  keeps (hears tuner t l r k m) = sound_moment _ (pre_label tuner l (pass_to t d) (pre_now (pass_to t d) (sound_pass t d h)))
  keeps (waits t k m) = sound_moment (pass_to t d) (pre_now (pass_to t d) (sound_pass t d h))
  keeps (passes k) = sound_second d h
  keeps (adds b w slot e range alone room) =
      let t : Timer = record { booking = b; copy = Waiting } in
      sound_moment _ (pre_timer d slot t (pre_now d h) tt (λ a i n. unlike d b alone i) (λ k. (w, e)) (λ k. range))
  keeps (cancels slot e) =
      sound_moment _ (pre_timer d slot no_timer (pre_now d h) tt untrue untrue untrue)
  keeps (updates slot b a p) = sound_moment _ (pre_put slot b a p)

-- no call passes the clock's end
within : (d : Desk) → d.clock ≤ clock_end → {c : Call} {e : Desk} → Step d c e → e.clock ≤ clock_end
unfolding moment next_second
within d h same = h
within d h (hears tuner t l r k m) = rw (pass_to_clock d t k) m
within d h (waits t k m) = rw (pass_to_clock d t k) m
within d h (passes k) = k
within d h (adds b w slot e range alone room) = h
within d h (cancels slot e) = h
within d h (updates slot b a p) = rw (pass_to_clock d a.t a.from) a.to

-- what each call keeps, all of them keep
kept : (P : Desk → Type 0) → ((d : Desk) (c : Call) → P d → P (left d (outcome c d))) → (cs : List Call) (d : Desk) → P d → P (desk_after cs d)
unfolding desk_after
kept P h [] d p = p
kept P h (c ∷ cs) d p = kept P h cs (left d (outcome c d)) (h d c p)

sound_fresh : Sound fresh
unfolding moment next_timer next_copy
sound_fresh =
    let free = get_d_same no_timer 16 in
    record {
      sixteen = (refl, refl);
      stamps = λ p. rw (get_d_same no_label 16 p) (omega arith);
      seconds = λ slot. rw (free slot) tt;
      prepared = λ slot. rw (free slot) tt;
      open_window = λ slot. rw (free slot) untrue;
      no_twins = λ i j l. rw (free i, free j) untrue;
      in_length_lem = λ slot. rw (free slot) (λ k. cc);
      real = λ slot. rw (free slot) untrue;
      in_range = λ slot. rw (free slot) untrue;
      settled = refl;
    }

pub sound_reached : (cs : List Call) → Sound (reached cs)
sound_reached cs = kept Sound (λ d c h. keeps d h (step d c)) cs fresh sound_fresh

pub clock_within : (cs : List Call) → (reached cs).clock ≤ clock_end
clock_within cs = kept (λ d. d.clock ≤ clock_end) (λ d c h. within d h (step d c)) cs fresh (omega arith)
