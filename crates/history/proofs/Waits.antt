-- A wait may be cut anywhere, and put before a packet.
use Prim.Native.Nat.{ℕ, ◌+◌, ◌-◌, ◌≤◌, ◌<◌}
use mathlib.Core.Path.{◌≡◌, refl, sym, ap, ◌∙◌}
use mathlib.Core.List.{List, [], ◌∷◌, ◌++◌, map}
use native.Mathlib.Decide.{dec_lt}
use native.Mathlib.Omega.{arith}
use borrow.Author.Tests.{lt-ltb, le-ltb}
use lib.Dec.{ltb}
use lib.ListN.{get_or}
use Rattle.answer.specs.Answer.{Answer, refused, given, first_of, and_then}
use Rattle.label.specs.declared.Label.{Label}
use Rattle.label.specs.Packet.{reading_of}
use Rattle.calendar.specs.Calendar.{clock_end}
use Rattle.places.specs.Places.{no_label}
use Rattle.moving.specs.Moving.{update_for}
use Rattle.moving.proofs.Update.{update_alike}
use Rattle.desk.specs.declared.Desk.{Desk}
use Rattle.desk.specs.Moments.{walk, pass_to, walked_in, walked_to}
use Rattle.desk.specs.Calls.{tuner_rows, place_of, hearing_at, updating_at, updating, obeying, packet_of, wait_of}
use Rattle.desk.proofs.Settle.{Settled, walk_settled}
use Rattle.desk.proofs.Jump.{walk_add, walk_clock, walk_places}
use Rattle.history.specs.Run.{Call, wait, Done, outcome, left, said, desk_after, answers_of}
use Rattle.history.specs.Laws.{Each, told, told_in_all}
use Rattle.history.proofs.Walked.{walked_in_add}
use Rattle.history.proofs.Alike.{keys_pass}

-- ── passing the seconds in two parts ───────────────────────────────────────────────────────────────────────────────
module _ (d : Desk) (u : ℕ) (from : d.clock ≤ u) where
  pub pass_to_clock : (pass_to u d).clock ≡ u
  unfolding pass_to
  pass_to_clock = walk_clock (u - d.clock) d ∙ omega arith

  pub pass_to_places : (pass_to u d).places ≡ d.places
  unfolding pass_to
  pass_to_places = walk_places (u - d.clock) d

  pub pass_to_settled : Settled d → Settled (pass_to u d)
  unfolding pass_to
  pass_to_settled s = walk_settled (u - d.clock) d s

module _ (d : Desk) (u t : ℕ) (from : d.clock ≤ u) (to : u ≤ t) where
  whole : (u - d.clock) + (t - u) ≡ t - d.clock
  whole = omega arith

  pass_to_cut : pass_to t (pass_to u d) ≡ pass_to t d
  unfolding pass_to
  pass_to_cut =
      ap (λ s. walk (t - s) (walk (u - d.clock) d)) (pass_to_clock d u from)
      ∙ sym (walk_add (u - d.clock) (t - u) d) ∙ ap (λ n. walk n d) whole

  walked_to_cut : walked_to u d + walked_to t (pass_to u d) ≡ walked_to t d
  unfolding pass_to walked_to
  walked_to_cut =
      ap (λ s. walked_in (u - d.clock) d + walked_in (t - s) (walk (u - d.clock) d)) (pass_to_clock d u from)
      ∙ sym (walked_in_add (u - d.clock) (t - u) d) ∙ ap (λ n. walked_in n d) whole

-- ── what a wait does ───────────────────────────────────────────────────────────────────────────────────────────────
-- it is refused, before the clock or past its end, and else passes the seconds
data Waits (t : ℕ) (d : Desk) : Answer Done → Type 0 where
  before : t < d.clock → Waits t d (refused 9)
  past : clock_end < t → Waits t d (refused 10)
  passes : d.clock ≤ t → t ≤ clock_end → Waits t d (given (record { tells = walked_to t d ∷ []; desk = pass_to t d }))

waits : (t : ℕ) (d : Desk) → Settled d → Waits t d (outcome (wait t) d)
unfolding outcome wait_of
waits t d s =
    elim (dec_lt t d.clock) [
      | yes l ↦ rw (lt-ltb t d.clock l) (before l)
      | no l ↦
          elim (dec_lt clock_end t) [
            | yes m ↦ rw (le-ltb t d.clock (omega arith), lt-ltb clock_end t m) (past m)
            | no m ↦
                rw (le-ltb t d.clock (omega arith), le-ltb clock_end t (omega arith), pass_to_settled d t (omega arith) s)
                (passes (omega arith) (omega arith))
          ]
    ]

-- ── cut waits ──────────────────────────────────────────────────────────────────────────────────────────────────────
abbrev parts : List ℕ → ℕ → List Call
parts us t = map wait us ++ wait t ∷ []

abbrev Whole : List Call → ℕ → Desk → Type 0
Whole cs t d = (desk_after cs d ≡ pass_to t d) × (told_in_all (answers_of cs d) ≡ walked_to t d)

pub parts_whole : (us : List ℕ) (t : ℕ) → Each (λ u. u ≤ t) us → t ≤ clock_end → (d : Desk) → Settled d → d.clock ≤ t → Whole (parts us t) t d
unfolding desk_after answers_of
parts_whole [] t h l d s f = go (waits t d s)
  where
    go : {o : Answer Done} → Waits t d o → (left d o ≡ pass_to t d) × (told (said o) + 0 ≡ walked_to t d)
    go (before k) = absurd (omega arith)
    go (past k) = absurd (omega arith)
    go (passes k m) = (refl, omega arith)
parts_whole (u ∷ us) t h l d s f = go (waits u d s) (parts_whole us t h.1 l)
  where
    go : {o : Answer Done} → Waits u d o → ((e : Desk) → Settled e → e.clock ≤ t → Whole (parts us t) t e) →
        (desk_after (parts us t) (left d o) ≡ pass_to t d) × (told (said o) + told_in_all (answers_of (parts us t) (left d o)) ≡ walked_to t d)
    go (before k) ih = let w = ih d s f in (w.0, omega (arith, w.1))
    go (past k) ih = absurd (omega (arith, h.0))
    go (passes k m) ih =
        let w = ih (pass_to u d) (pass_to_settled d u k s) (omega (arith, pass_to_clock d u k, h.0)) in
        (w.0 ∙ pass_to_cut d u t k h.0, omega (arith, w.1, walked_to_cut d u t k h.0))

module _ (us : List ℕ) (t : ℕ) (each : Each (λ u. u ≤ t) us) (end : t ≤ clock_end) (d : Desk) (s : Settled d) (from : d.clock ≤ t) where
  pub cut_desk : desk_after (parts us t) d ≡ desk_after (wait t ∷ []) d
  cut_desk = (parts_whole us t each end d s from).0 ∙ sym (parts_whole [] t tt end d s from).0

  pub cut : (later : List Call) → (desk_after (parts us t) d ≡ desk_after (wait t ∷ []) d)
      × (answers_of later (desk_after (parts us t) d) ≡ answers_of later (desk_after (wait t ∷ []) d))
      × (told_in_all (answers_of (parts us t) d) ≡ walked_to t d)
  cut later = (cut_desk, ap (answers_of later) cut_desk, (parts_whole us t each end d s from).1)

-- ── a wait before a packet ─────────────────────────────────────────────────────────────────────────────────────────
then_alike : {A B : Type 0} (x : Answer A) {f g : A → Answer B} → ((a : A) → f a ≡ g a) → and_then x f ≡ and_then x g
then_alike (refused n) h = refl
then_alike (given a) h = h a

module _ (d : Desk) (u t : ℕ) (from : d.clock ≤ u) (to : u ≤ t) where
  -- what stands, and whom an update means, are as before the wait
  update_cut : (tuner : ℕ) (l : Label) →
      update_for t (get_or (pass_to u d).places (place_of tuner l) no_label) l (pass_to u d).timers ≡ update_for t (get_or d.places (place_of tuner l) no_label) l d.timers
  update_cut tuner l =
      ap (λ ls. update_for t (get_or ls (place_of tuner l) no_label) l (pass_to u d).timers) (pass_to_places d u from)
      ∙ update_alike t (get_or d.places (place_of tuner l) no_label) (pass_to u d).timers d.timers (keys_pass u d) l

  obeying_cut : (tuner : ℕ) (l : Label) → obeying tuner t l (pass_to u d) ≡ obeying tuner t l d
  unfolding obeying updating updating_at hearing_at
  obeying_cut tuner l = rw (update_cut tuner l, pass_to_cut d u t from to)

  rows_cut : (tuner : ℕ) → tuner_rows (pass_to u d) tuner t ≡ tuner_rows d tuner t
  rows_cut tuner =
      let now : ltb t (pass_to u d).clock ≡ ltb t d.clock =
      le-ltb t (pass_to u d).clock (omega (arith, pass_to_clock d u from)) ∙ sym (le-ltb t d.clock (omega arith)) in
      rw now

  packet_cut : (tuner : ℕ) (bytes : List ℕ) → packet_of tuner t bytes (pass_to u d) ≡ packet_of tuner t bytes d
  unfolding packet_of
  packet_cut tuner bytes =
      ap (λ rows. and_then (first_of rows bytes) (λ p. and_then (reading_of p) (λ l. obeying tuner t l (pass_to u d)))) (rows_cut tuner)
      ∙ then_alike (first_of (tuner_rows d tuner t) bytes) (λ p. then_alike (reading_of p) (obeying_cut tuner))

pub wait_before : (u tuner t : ℕ) (bytes : List ℕ) (d : Desk) → Settled d → u ≤ t →
    packet_of tuner t bytes (desk_after (wait u ∷ []) d) ≡ packet_of tuner t bytes d
unfolding desk_after
wait_before u tuner t bytes d s h = go (waits u d s)
  where
    go : {o : Answer Done} → Waits u d o → packet_of tuner t bytes (left d o) ≡ packet_of tuner t bytes d
    go (before k) = refl
    go (past k) = refl
    go (passes k m) = packet_cut d u t k h tuner bytes
