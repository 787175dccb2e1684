-- What an accepted packet with LUF 1 leaves.
use Prim.Native.Nat.{ℕ, zero, suc, ◌≤◌, ◌<◌}
use mathlib.Core.Path.{◌≡◌, refl, sym, ap, ◌∙◌}
use mathlib.Core.Bool.{Bool, true, false, cond, not, ◌&&◌, true≢false}
use mathlib.Core.List.{List, [], ◌∷◌}
use native.Mathlib.Decide.{dec_lt}
use native.Mathlib.Omega.{arith}
use borrow.Author.Tests.{eqb-true, eq-eqb, le-ltb, ltb-false}
use lib.Dec.{eqb}
use lib.ListN.{get_or, set}
use Rattle.answer.specs.Answer.{Answer, refused, given, first_of, and_then}
use Rattle.answer.specs.Lists.{some}
use Rattle.answer.proofs.Cases.{by_test, both_true}
use Rattle.answer.proofs.Every.{accepted}
use Rattle.label.specs.declared.Label.{Label}
use Rattle.label.specs.Packet.{reading_of}
use Rattle.calendar.specs.Calendar.{clock_end}
use Rattle.places.specs.declared.Stamped.{Stamped}
use Rattle.places.specs.Places.{no_label, flag, stands}
use Rattle.matching.specs.declared.Booking.{Booking}
use Rattle.matching.specs.Matching.{open_at, ended_at, matches, sight_of}
use Rattle.rule.specs.declared.Copy.TheVariants.{Waiting, Recording, RunningOn}
use Rattle.rule.specs.declared.Timer.{Timer}
use Rattle.rule.specs.Rule.{not_live, moves_or, held, next_copy, next_timer}
use Rattle.rule.proofs.Steps.{live_shut, recording_leaves, free_stays}
use Rattle.sixteen.specs.Sixteen.{no_timer, active, same_booking}
use Rattle.moving.specs.Moving.{Update, repeats, moves, is_repeat, year_for, moved_to, update_for, moved_in}
use Rattle.moving.proofs.Update.{Moved, meant_matches, moved_by}
use Rattle.desk.specs.declared.Desk.{Desk}
use Rattle.desk.specs.Moments.{moment, pass_to}
use Rattle.desk.specs.Calls.{tuner_rows, with_timer, timer_at, updating_at, updating, obeying, packet_of, wait_of}
use Rattle.desk.proofs.Settle.{Settled}
use Rattle.desk.proofs.Jump.{none_at, timer_at_moment}
use Rattle.history.specs.Run.{Call, packet, wait, only_desk, outcome, left, desk_after}
use Rattle.history.specs.Update.{standing_at, Asks, OtherHolds}
use Rattle.history.specs.Laws.{Sound}
use Rattle.history.proofs.Windows.{open_not_ended, matches_open}
use Rattle.history.proofs.Alike.{key_pass}
use Rattle.history.proofs.Waits.{pass_to_clock, pass_to_settled}
use Rattle.history.proofs.Steps.{other_slot}
use Rattle.history.proofs.Keeps.{active_before}
use Rattle.history.proofs.OneCopy.{same_open}
use Rattle.history.proofs.Stays.{starts}

-- ── the call ───────────────────────────────────────────────────────────────────────────────────────────────────────
pub refused_leaves : (c : Call) (d : Desk) (n : ℕ) → outcome c d ≡ refused n → desk_after (c ∷ []) d ≡ d
unfolding desk_after
refused_leaves c d n e = ap (left d) e

module _ (u : Update) (c : Call) (d : Desk) (a : Asks u c d) where
  not_barred : first_of (tuner_rows d a.tuner a.t) a.bytes ≡ given a.bytes
  not_barred = rw (le-ltb 3 a.tuner a.four, le-ltb a.t d.clock a.from, le-ltb clock_end a.t a.to)

  packet_given : packet_of a.tuner a.t a.bytes d ≡ given (updating_at a.t u d)
  unfolding packet_of obeying updating
  packet_given = rw (not_barred, a.read, a.luf, a.asks)

  pub update_does : outcome c d ≡ given (record { tells = []; desk = updating_at a.t u d })
  unfolding outcome
  update_does = ap (λ x. outcome x d) a.call ∙ ap only_desk packet_given

  after_update : desk_after (c ∷ []) d ≡ updating_at a.t u d
  unfolding desk_after
  after_update = ap (left d) update_does

pub then_given : {A B : Type 0} (x : Answer A) (next : A → Answer B) (c : B) → and_then x next ≡ given c → (a : A) × (x ≡ given a) × (next a ≡ given c)
then_given (refused n) next c e = absurd (let z : ◌≡◌ {A = ℕ} 0 1 = cc in omega arith)
then_given (given a) next c e = (a, refl, e)

-- what is accepted was read, was not barred, and is obeyed
pub packet_obeyed : (tuner t : ℕ) (bytes : List ℕ) (l : Label) (d e : Desk) → reading_of bytes ≡ given l → packet_of tuner t bytes d ≡ given e →
    ((tuner ≤ 3) × (d.clock ≤ t) × (t ≤ clock_end)) × (obeying tuner t l d ≡ given e)
unfolding packet_of
packet_obeyed tuner t bytes l d e r g =
    let x = then_given (first_of (tuner_rows d tuner t) bytes) _ e g in
    let gate = accepted bytes x.0 (tuner_rows d tuner t) x.1 in
    let y = then_given (reading_of x.0) _ e x.2 in
    let same : l ≡ y.0 = let z : reading_of x.0 ≡ given l = rw (← gate.1) r in cc in
    ((ltb-false 3 tuner gate.0.0, ltb-false t d.clock gate.0.1.0, ltb-false clock_end t gate.0.1.1.0), rw same y.2)

pub update_asks : (tuner t : ℕ) (bytes : List ℕ) (l : Label) (d e : Desk) → reading_of bytes ≡ given l → flag l.luf ≡ true →
    packet_of tuner t bytes d ≡ given e → (u : Update) × Asks u (packet tuner t bytes) d
unfolding obeying updating
update_asks tuner t bytes l d e r f g =
    let o = packet_obeyed tuner t bytes l d e r g in
    let u = then_given (update_for t (standing_at tuner l d) l d.timers) (λ v. given (updating_at t v d)) e (rw f at o.1) in (
      u.0,
      record {
        tuner = tuner;
        t = t;
        bytes = bytes;
        label = l;
        call = refl;
        four = o.0.0;
        from = o.0.1;
        to = o.0.2;
        read = r;
        luf = f;
        asks = u.1;
      },
    )

-- a wait to a second that is neither before the clock nor past its end
after_wait : (d : Desk) (t : ℕ) → d.clock ≤ t → t ≤ clock_end → desk_after (wait t ∷ []) d ≡ moment (pass_to t d)
unfolding desk_after outcome wait_of
after_wait d t from to = rw (le-ltb t d.clock from, le-ltb clock_end t to)

pub repeat_waits : (c : Call) (d : Desk) (a : Asks repeats c d) → desk_after (c ∷ []) d ≡ desk_after (wait a.t ∷ []) d
unfolding updating_at
repeat_waits c d a = after_update repeats c d a ∙ sym (after_wait d a.t a.from a.to)

-- a label that matches has the booking's CNI and PIL
matches_same : (s : ℕ) (b : Booking) (l : Stamped) → matches s b l ≡ true → (l.cni ≡ b.cni) × (l.pil ≡ b.pil)
unfolding matches
matches_same s b l m =
    let x = both_true (stands s l && eqb l.cni b.cni && eqb l.pil b.pil) (open_at s b) m in
    let y = both_true (stands s l && eqb l.cni b.cni) (eqb l.pil b.pil) x.0 in
    (eqb-true _ _ (both_true (stands s l) (eqb l.cni b.cni) y.0).1, eqb-true _ _ y.1)

-- ── an update ──────────────────────────────────────────────────────────────────────────────────────────────────────
-- what is stored where something else than the last resort was
set_same : {A : Type 0} (z v : A) (xs : List A) (i : ℕ) → (get_or xs i z ≡ z → ⊥) → get_or (set xs i v) i z ≡ v
set_same z v [] i h = absurd (h refl)
set_same z v (x ∷ xs) zero h = refl
set_same z v (x ∷ xs) (suc i) h = set_same z v xs i h

-- one that passes a test
some_at : {A : Type 0} (f : A → Bool) (z : A) (xs : List A) → some f xs ≡ true → (i : ℕ) × (f (get_or xs i z) ≡ true)
some_at f z [] e = absurd (true≢false (sym e))
some_at f z (x ∷ xs) e = by_test (f x) (λ k. (0, k)) (λ k. let i = some_at f z xs (rw k at e) in (suc i.0, i.1))

module _ (c : Call) (d : Desk) (slot : ℕ) (b : Booking) (a : Asks (moves slot b) c d) where
  abbrev x : Desk
  x = pass_to a.t d

  abbrev old : Stamped
  old = standing_at a.tuner a.label d

  means : Moved a.t old a.label d.timers slot b
  means = moved_by a.t old a.label d.timers slot b a.asks

  pub update_takes : let was = (timer_at d slot).booking in
      (b.cni ≡ a.label.cni) × (b.pil ≡ a.label.pil) × (b.year ≡ year_for was a.label.pil) × (b.tuner ≡ was.tuner) × (b.length ≡ was.length)
  unfolding moved_to
  update_takes =
      let e = means.becomes in
      (ap (λ y. y.cni) e, ap (λ y. y.pil) e, ap (λ y. y.year) e, ap (λ y. y.tuner) e, ap (λ y. y.length) e)

  -- the timer is held, and the standing label matches it
  meant_held : held (timer_at d slot).copy ≡ true
  meant_held = (meant_matches a.t old d.timers slot means.found).0

  meant_match : matches a.t (timer_at d slot).booking old ≡ true
  meant_match = (meant_matches a.t old d.timers slot means.found).1

  x_clock : x.clock ≡ a.t
  x_clock = pass_to_clock d a.t a.from

  -- the slot holds a timer when the seconds have passed, so that what is put there stands there
  x_held : timer_at x slot ≡ no_timer → ⊥
  x_held e = true≢false (sym meant_held ∙ sym (ap (λ k. k.0) (key_pass a.t d slot)) ∙ ap (λ t. held t.copy) e)

  put_there : (t : Timer) → timer_at (with_timer slot t x) slot ≡ t
  put_there t = set_same no_timer t x.timers slot x_held

  -- what is left, by whether another timer has the new label
  abbrev twin : Bool
  twin = some (λ t. active x.clock t && same_booking b t.booking) (with_timer slot no_timer x).timers

  abbrev put : Bool → Timer
  put true = no_timer
  put false = record { booking = b; copy = (timer_at x slot).copy }

  left_by : desk_after (c ∷ []) d ≡ moment (with_timer slot (put twin) x)
  unfolding updating_at moved_in
  left_by = after_update (moves slot b) c d a ∙ ap moment (by_twin twin)
    where
      by_twin : (t : Bool) → let moved = set x.timers slot (record { booking = b; copy = (timer_at x slot).copy }) in
          record { clock = x.clock; live = x.live; places = x.places; timers = cond t (set x.timers slot no_timer) moved } ≡ with_timer slot (put t) x
      by_twin true = refl
      by_twin false = refl

  waited : desk_after (wait a.t ∷ []) d ≡ moment x
  waited = after_wait d a.t a.from a.to

  there : timer_at (moment (with_timer slot (put twin) x)) slot ≡ next_timer x.clock x.places (put twin)
  there = timer_at_moment (with_timer slot (put twin) x) slot ∙ ap (next_timer x.clock x.places) (put_there (put twin))

  pub update_elsewhere : let e = desk_after (c ∷ []) d in let w = desk_after (wait a.t ∷ []) d in
      (e.clock ≡ w.clock) × (e.places ≡ w.places) × ((i : ℕ) → (i ≡ slot → ⊥) → timer_at e i ≡ timer_at w i)
  unfolding moment
  update_elsewhere =
      rw (left_by, waited)
      (refl, refl, λ i n. timer_at_moment (with_timer slot (put twin) x) i ∙ ap (next_timer x.clock x.places) (other_slot i slot (put twin) x n) ∙ sym (timer_at_moment x i))

  -- ── another timer with the new label ─────────────────────────────────────────────────────────────────────────────
  abbrev holds_it : ℕ → Timer → Bool
  holds_it s t = active s t && same_booking b t.booking

  -- it is looked for when the seconds have passed, which change nothing of it
  holds_passed : (i : ℕ) → holds_it x.clock (timer_at x i) ≡ holds_it a.t (timer_at d i)
  holds_passed i =
      ap (λ s. holds_it s (timer_at x i)) x_clock
      ∙ ap (λ k. k.0 && not (ended_at a.t k.1) && same_booking b k.1) (key_pass a.t d i)

  twin_is : OtherHolds slot b a.t d → twin ≡ true
  twin_is o =
      by_test twin (λ e. e) (λ e.
      let i = o.other in
      let none : holds_it x.clock (timer_at x i) ≡ false =
      rw (other_slot i slot no_timer x o.apart) at (none_at (holds_it x.clock) no_timer refl (with_timer slot no_timer x).timers e i) in
      absurd (true≢false (sym o.holds ∙ sym (holds_passed i) ∙ none)))

  is_twin : twin ≡ true → OtherHolds slot b a.t d
  is_twin e =
      let f = some_at (holds_it x.clock) no_timer (with_timer slot no_timer x).timers e in
      let i = f.0 in
      let gone : i ≡ slot → timer_at (with_timer slot no_timer x) i ≡ no_timer = λ k. rw k (put_there no_timer) in
      let apart : i ≡ slot → ⊥ = λ k. true≢false (sym f.1 ∙ ap (holds_it x.clock) (gone k)) in
      record {
        other = i;
        apart = apart;
        holds = sym (holds_passed i) ∙ rw (other_slot i slot no_timer x apart) at f.1;
      }

  pub update_twin : OtherHolds slot b a.t d → timer_at (desk_after (c ∷ []) d) slot ≡ no_timer
  update_twin o = rw left_by (there ∙ rw (twin_is o) (free_stays x.clock x.places no_timer refl))

  module _ (h : Settled d) (n : OtherHolds slot b a.t d → ⊥) where
    alone : twin ≡ false
    alone = by_test twin (λ e. absurd (n (is_twin e))) (λ e. e)

    waits_there : desk_after (wait a.t ∷ []) d ≡ x
    waits_there = waited ∙ pass_to_settled d a.t a.from h

    pub update_moves : let e = desk_after (c ∷ []) d in let w = desk_after (wait a.t ∷ []) d in
        timer_at e slot ≡ next_timer a.t w.places (record { booking = b; copy = (timer_at w slot).copy })
    update_moves =
        rw (left_by, waits_there)
        (there ∙ ap (λ s. next_timer s x.places (put twin)) x_clock ∙ ap (λ t. next_timer a.t x.places (put t)) alone)

    -- ── a recording ────────────────────────────────────────────────────────────────────────────────────────────────
    module _ (place : ℕ) (mi : Bool) (r : (timer_at (desk_after (wait a.t ∷ []) d) slot).copy ≡ Recording place mi) where
      recorded : (timer_at x slot).copy ≡ Recording place mi
      recorded = sym (ap (λ (e : Desk). (timer_at e slot).copy) waits_there) ∙ r

      -- the label at its place matches the old booking, ..
      own : matches a.t (timer_at d slot).booking (get_or x.places place no_label) ≡ true
      unfolding next_timer
      own =
          let y = timer_at x slot in
          let same : next_copy x.clock x.places y.booking y.copy ≡ Recording place mi =
          sym (ap (λ t. t.copy) (timer_at_moment x slot)) ∙ ap (λ (e : Desk). (timer_at e slot).copy) (pass_to_settled d a.t a.from h) ∙ recorded in
          let m = (starts x.clock place x.places y.booking y.copy mi same).0 in
          sym (ap (λ s. matches s y.booking (get_or x.places place no_label)) x_clock
          ∙ ap (λ k. matches a.t k.1 (get_or x.places place no_label)) (key_pass a.t d slot))
          ∙ m

      -- .. and so not the new one, which is no repeat
      gone : matches a.t b (get_or x.places place no_label) ≡ false
      gone = by_test (matches a.t b (get_or x.places place no_label)) (λ m.
          let k = matches_same a.t b _ m in
          let l = matches_same a.t (timer_at d slot).booking _ own in
          let o = matches_same a.t (timer_at d slot).booking old meant_match in
          let cni : a.label.cni ≡ old.cni = sym update_takes.0 ∙ sym k.0 ∙ l.0 ∙ sym o.0 in
          let pil : a.label.pil ≡ old.pil = sym update_takes.1 ∙ sym k.1 ∙ l.1 ∙ sym o.1 in
          let repeat : is_repeat a.label old ≡ true = rw (eq-eqb _ _ cni, eq-eqb _ _ pil) in
          absurd (true≢false (sym repeat ∙ means.no_repeat))) (λ m. m)

      pub update_leaves : let e = desk_after (c ∷ []) d in let w = desk_after (wait a.t ∷ []) d in
          let seen = sight_of a.t w.places b in
          (timer_at e slot).copy
          ≡ cond (open_at a.t b) (moves_or w.places seen (cond mi (not_live a.t w.places b seen) (RunningOn place a.t))) Waiting
      unfolding next_timer
      update_leaves = ap (λ t. t.copy) update_moves ∙ rw (waits_there, recorded) (by_test (open_at a.t b)
          (λ o. rw o (recording_leaves a.t x.places b place mi gone o))
          (λ o. rw o (live_shut a.t x.places b (Recording place mi) refl o)))

-- ── whom an update means ───────────────────────────────────────────────────────────────────────────────────────────
pub update_only : (d : Desk) → Sound d → (c : Call) (slot : ℕ) (b : Booking) (a : Asks (moves slot b) c d) →
    (i : ℕ) → held (timer_at d i).copy ≡ true → matches a.t (timer_at d i).booking (standing_at a.tuner a.label d) ≡ true → i ≡ slot
update_only d h c slot b a i k m =
    elim (dec_lt i slot) [
      | yes l ↦ absurd (twins i slot l k (meant_held c d slot b a) m (meant_match c d slot b a))
      | no l ↦ elim (dec_lt slot i) [
        | yes g ↦ absurd (twins slot i g (meant_held c d slot b a) k (meant_match c d slot b a) m)
        | no g ↦ omega arith
      ]
    ]
  where
    label : Stamped
    label = standing_at a.tuner a.label d

    still : (j : ℕ) → held (timer_at d j).copy ≡ true → matches a.t (timer_at d j).booking label ≡ true → active d.clock (timer_at d j) ≡ true
    still j k m =
        let t = timer_at d j in
        active_before d.clock a.t a.from t (rw (k, open_not_ended t.booking a.t (matches_open t.booking a.t label m)))

    twins : (j l : ℕ) → j < l → held (timer_at d j).copy ≡ true → held (timer_at d l).copy ≡ true →
        matches a.t (timer_at d j).booking label ≡ true → matches a.t (timer_at d l).booking label ≡ true → ⊥
    twins j l n p q m o =
        let t = (timer_at d j).booking in
        let u = (timer_at d l).booking in
        let e = matches_same a.t t label m in
        let f = matches_same a.t u label o in
        let alike = same_open a.t t u (matches_open t a.t label m) (matches_open u a.t label o) (sym e.0 ∙ f.0) (sym e.1 ∙ f.1) in
        true≢false (sym alike ∙ h.no_twins j l n (still j p m) (still l q o))
