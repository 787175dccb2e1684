-- What a call leaves of the desk, by cases.
use Prim.Native.Nat.{ℕ, ◌≤◌, ◌<◌}
use mathlib.Core.Path.{◌≡◌, refl, sym, ◌∙◌}
use mathlib.Core.Bool.{Bool, true, false, cond, not, ◌&&◌, true≢false}
use mathlib.Core.List.{List, [], ◌∷◌}
use mathlib.Core.Logic.{inl, inr}
use native.Mathlib.Omega.{arith}
use borrow.Author.Tests.{leb-false, ltb-false, not-true}
use lib.Dec.{leb}
use Rattle.answer.specs.Answer.{Answer, refused, given, Row, first_of, and_then}
use Rattle.hamming.proofs.Bits.{bit_small}
use Rattle.label.specs.declared.Label.{Label}
use Rattle.label.specs.Packet.{value_at, reader_rows, label_in, reading_of}
use Rattle.calendar.specs.declared.Window.{Window}
use Rattle.calendar.specs.Calendar.{window_in, clock_end}
use Rattle.answer.specs.Lists.{some}
use Rattle.answer.proofs.Cases.{by_test}
use Rattle.places.specs.Places.{Found, nowhere, at, flag}
use Rattle.clocked.specs.Clocked.{out_of_range}
use Rattle.matching.specs.declared.Booking.{Booking}
use Rattle.rule.specs.declared.Copy.TheVariants.{Waiting}
use Rattle.rule.specs.declared.Timer.{Timer}
use Rattle.desk.specs.declared.Desk.{Desk}
use Rattle.sixteen.specs.Sixteen.{no_timer, active, same_booking, is_nowhere, slot_of}
use Rattle.moving.specs.Moving.{Update, repeats, moves, update_for, moved_in}
use Rattle.desk.specs.Moments.{moment, next_second, pass_to}
use Rattle.reply.specs.Numbers.{Says}
use Rattle.desk.specs.Calls.{Told, tuner_rows, time_rows, with_label, hearing_at, updated, updating_at, updating, obeying, packet_of, wait_of, second_of, room_in, with_timer, add_rows, add_of, slot_rows, cancel_of, ask_of, timer_at}
use Rattle.history.specs.Run.{Call, packet, wait, second, add, cancel, ask, live, only_desk, told_too, says_only, outcome, left}
use Rattle.history.specs.Update.{standing_at, Asks}
use Rattle.places.proofs.Search.{lowest_passes}
use Rattle.history.proofs.Lists.{get_d_set}

-- a call is a packet to a tuner at second t, which reads as a label of one of its four LCI
pub record Reads (c : Call) (tuner t : ℕ) (l : Label) : Type 0 where
  pub bytes : List ℕ
  pub call : c ≡ packet tuner t bytes
  pub lci : l.lci < 4

-- what an update leaves in its slot on desk x: nothing where another timer has the new label, or else the timer with its new booking
pub data Put (slot : ℕ) (b : Booking) (x : Desk) : Timer → Type 0 where
  freed : some (λ t. active x.clock t && same_booking b t.booking) (with_timer slot no_timer x).timers ≡ true → Put slot b x no_timer
  moved : some (λ t. active x.clock t && same_booking b t.booking) (with_timer slot no_timer x).timers ≡ false →
      Put slot b x (record { booking = b; copy = (timer_at x slot).copy })

pub data Step (d : Desk) (c : Call) : Desk → Type 0 where
  -- it is refused, or only asks
  same : Step d c d
  hears : (tuner t : ℕ) (l : Label) → Reads c tuner t l → d.clock ≤ t → t ≤ clock_end → Step d c (moment (with_label tuner l (pass_to t d)))
  waits : (t : ℕ) → d.clock ≤ t → t ≤ clock_end → Step d c (moment (pass_to t d))
  passes : d.clock < clock_end → Step d c (next_second d)
  -- no timer that is held and not ended has the booking, and the slot is not of such a timer
  adds : (b : Booking) (w : Window) (slot : ℕ) → window_in b.pil b.year ≡ given w → out_of_range b ≡ false →
      some (λ t. active d.clock t && same_booking b t.booking) d.timers ≡ false → room_in d ≡ at slot →
      Step d c (moment (with_timer slot (record { booking = b; copy = Waiting }) d))
  cancels : (slot : ℕ) → c ≡ cancel slot → Step d c (moment (with_timer slot no_timer d))
  updates : {t : Timer} (slot : ℕ) (b : Booking) (a : Asks (moves slot b) c d) → Put slot b (pass_to a.t d) t →
      Step d c (moment (with_timer slot t (pass_to a.t d)))

-- ── what is given, if it is ────────────────────────────────────────────────────────────────────────────────────────
abbrev Gives : {A : Type 0} → (A → Type 0) → Answer A → Type 0
Gives P (refused n) = Unit {0}
Gives P (given a) = P a

-- no row applies
abbrev Passed : List Row → Type 0
Passed [] = Unit {0}
Passed (row ∷ rows) = (row.0 ≡ false) × Passed rows

module _ {A : Type 0} (P : A → Type 0) where
  gives_first : (rows : List Row) (a : A) → (Passed rows → P a) → Gives P (first_of rows a)
  gives_first [] a h = h tt
  gives_first (row ∷ rows) a h = go row.0 refl (gives_first rows a)
    where
      go : (t : Bool) → row.0 ≡ t → ((Passed rows → P a) → Gives P (first_of rows a)) → Gives P (cond t (refused row.1) (first_of rows a))
      go true e ih = tt
      go false e ih = ih (λ k. h (e, k))

  gives_then : {B : Type 0} (Q : B → Type 0) (x : Answer B) (next : B → Answer A) → Gives Q x → ((y : B) → Q y → Gives P (next y)) →
      Gives P (and_then x next)
  gives_then Q (refused n) next g h = tt
  gives_then Q (given y) next g h = h y g

gives_self : {A : Type 0} (x : Answer A) → Gives (λ y. x ≡ given y) x
gives_self (refused n) = tt
gives_self (given y) = refl

-- a label that is read has an LCI of two bits
abbrev Label-of : List ℕ → Label → Type 0
Label-of p l = (reading_of p ≡ given l) × (l.lci < 4)

gives_label : (p : List ℕ) → Gives (Label-of p) (reading_of p)
unfolding reading_of
gives_label p = both (reading_of p) refl (gives_first (λ l. l.lci < 4) (reader_rows p) (label_in p) λ k. omega (arith, bit_small 1 (value_at p 9), bit_small 2 (value_at p 9)))
  where
    both : (a : Answer Label) → reading_of p ≡ a → Gives (λ l. l.lci < 4) a → Gives (Label-of p) a
    both (refused n) e k = tt
    both (given l) e k = (e, k)

-- neither before the clock nor past its end
in_time : (d : Desk) (t : ℕ) → Passed (time_rows d t) → (d.clock ≤ t) × (t ≤ clock_end)
in_time d t k = (ltb-false t d.clock k.0, ltb-false clock_end t k.1.0)

-- ── the calls ──────────────────────────────────────────────────────────────────────────────────────────────────────
room_at : (r : Found) → is_nowhere r ≡ false → r ≡ at (slot_of r)
room_at nowhere e = absurd (true≢false e)
room_at (at i) e = refl

module _ (d : Desk) (c : Call) where
  step_desk : (a : Answer Desk) → Gives (Step d c) a → Step d c (left d (only_desk a))
  step_desk (refused n) h = same
  step_desk (given e) h = h

  abbrev LeftBy : Told → Type 0
  LeftBy o = Step d c o.desk

  step_told : (a : Answer Told) → Gives LeftBy a → Step d c (left d (told_too a))
  step_told (refused n) h = same
  step_told (given o) h = h

  step_moves : (slot : ℕ) (b : Booking) (a : Asks (moves slot b) c d) → Step d c (moment (updated (moves slot b) (pass_to a.t d)))
  unfolding moved_in
  step_moves slot b a =
      let x = pass_to a.t d in
      by_test (some (λ t. active x.clock t && same_booking b t.booking) (with_timer slot no_timer x).timers)
      (λ e. rw e (updates slot b a (freed e)))
      (λ e. rw e (updates slot b a (moved e)))

  step_asks : (u : Update) (a : Asks u c d) → Step d c (updating_at a.t u d)
  unfolding updating_at
  step_asks repeats a = waits a.t a.from a.to
  step_asks (moves slot b) a = step_moves slot b a

  step_packet : (tuner t : ℕ) (bytes : List ℕ) → c ≡ packet tuner t bytes → Gives (Step d c) (packet_of tuner t bytes d)
  unfolding packet_of obeying updating hearing_at
  step_packet tuner t bytes e =
      let rows = tuner_rows d tuner t in
      gives_then (Step d c) (λ p. (p ≡ bytes) × Passed rows) (first_of rows bytes) _ (gives_first (λ p. (p ≡ bytes) × Passed rows) rows bytes (λ k. (refl, k)))
      λ p k. gives_then (Step d c) (Label-of p) (reading_of p) _ (gives_label p)
      λ l r.
      let i = in_time d t k.1.1 in
      by_test (flag l.luf)
      (λ f. let asked = update_for t (standing_at tuner l d) l d.timers in
      rw f (gives_then (Step d c) (λ u. asked ≡ given u) asked (λ u. given (updating_at t u d)) (gives_self asked)
      λ u g. step_asks u (record {
        tuner = tuner;
        t = t;
        bytes = bytes;
        label = l;
        call = e;
        four = ltb-false 3 tuner k.1.0;
        from = i.0;
        to = i.1;
        read = rw (← k.0) r.0;
        luf = f;
        asks = g;
      })))
      (λ f. rw f (hears tuner t l (record { bytes = bytes; call = e; lci = r.1 }) i.0 i.1))

  step_wait : (t : ℕ) → Gives LeftBy (wait_of t d)
  unfolding wait_of
  step_wait t = gives_first LeftBy (time_rows d t) _ λ k. let i = in_time d t k in waits t i.0 i.1

  step_second : Gives (Step d c) (second_of d)
  unfolding second_of
  step_second = gives_first (Step d c) ((leb clock_end d.clock, 10) ∷ []) (next_second d) λ k. passes (leb-false clock_end d.clock k.0)

  step_add : (b : Booking) → Gives LeftBy (add_of b d)
  unfolding add_of
  step_add b =
      let window = window_in b.pil b.year in
      gives_then LeftBy (λ w. window ≡ given w) window _ (gives_self window)
      λ w e. gives_first LeftBy (add_rows b d w) _ λ k. adds b w (slot_of (room_in d)) e k.0 k.1.1.0 (room_at (room_in d) k.1.1.1.0)

  step_cancel : (slot : ℕ) → c ≡ cancel slot → Gives (Step d c) (cancel_of slot d)
  unfolding cancel_of
  step_cancel slot e = gives_first (Step d c) (slot_rows slot d) (moment (with_timer slot no_timer d)) λ k. cancels slot e

  step_asked : (a : Answer Says) → Step d c (left d (says_only d a))
  step_asked (refused n) = same
  step_asked (given s) = same

pub step : (d : Desk) (c : Call) → Step d c (left d (outcome c d))
unfolding outcome
step d (packet tuner t bytes) = step_desk d _ (packet_of tuner t bytes d) (step_packet d _ tuner t bytes refl)
step d (wait t) = step_told d _ (wait_of t d) (step_wait d _ t)
step d second = step_desk d _ (second_of d) (step_second d _)
step d (add b) = step_told d _ (add_of b d) (step_add d _ b)
step d (cancel slot) = step_desk d _ (cancel_of slot d) (step_cancel d _ slot refl)
step d (ask slot) = step_asked d _ (ask_of slot d)
step d live = same

-- ── a slot that another timer is put beside ────────────────────────────────────────────────────────────────────────
module _ (slot i : ℕ) where
  pub other_slot : (t : Timer) (d : Desk) → (slot ≡ i → ⊥) → timer_at (with_timer i t d) slot ≡ timer_at d slot
  other_slot t d n = elim (get_d_set no_timer t d.timers i slot) [ inl e ↦ absurd (n e.0) | inr e ↦ e ]

  -- the slot that adding uses holds no timer that is held and not ended
  pub room_apart : (d : Desk) → room_in d ≡ at i → active d.clock (timer_at d slot) ≡ true → slot ≡ i → ⊥
  unfolding room_in
  room_apart d e a k =
      let free = not-true _ (lowest_passes (λ t. not (active d.clock t)) no_timer d.timers i e) in
      true≢false (sym a ∙ rw k free)

-- the slot that adding tells is the one that it uses
abbrev Room : Desk → Told → Type 0
Room d o = room_in d ≡ at o.says

gives_room : (b : Booking) (d : Desk) → Gives (Room d) (add_of b d)
unfolding add_of
gives_room b d =
    let window = window_in b.pil b.year in
    gives_then (Room d) (λ w. window ≡ given w) window _ (gives_self window)
    λ w e. gives_first (Room d) (add_rows b d w) _ λ k. room_at (room_in d) k.1.1.1.0

pub added_room : (b : Booking) (d : Desk) (o : Told) → add_of b d ≡ given o → room_in d ≡ at o.says
added_room b d o e = rw e at (gives_room b d)
