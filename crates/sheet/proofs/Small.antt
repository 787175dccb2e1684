-- No number that a sheet prints is above 17, and the count is that of all slots.
use Prim.Native.Nat.{ℕ, zero, suc, ◌+◌, ◌-◌, ◌≤◌, ◌<◌}
use mathlib.Core.Path.{◌≡◌, refl, ◌∙◌}
use mathlib.Core.Bool.{Bool, true, false, cond, not, ◌&&◌, ◌||◌, true≢false}
use mathlib.Core.List.{List, [], ◌∷◌}
use native.Mathlib.Omega.{arith}
use lib.Dec.{ltb}
use lib.ListN.{length, take, drop, get_or, length-map, length-set}
use Rattle.answer.specs.Answer.{Answer, refused, given, first_of, and_then, number, after}
use Rattle.answer.proofs.Counts.{count_length}
use Rattle.answer.specs.Lists.{some}
use Rattle.answer.proofs.Cases.{by_test}
use Rattle.answer.proofs.Every.{first_holds}
use Rattle.label.specs.declared.Label.{Label}
use Rattle.label.specs.Packet.{reader_rows, reading_of, label_in}
use Rattle.label.specs.Pil.{twenty_bits}
use Rattle.calendar.specs.Calendar.{real_in, window_at, window_in}
use Rattle.calendar.specs.declared.Window.{Window}
use Rattle.places.specs.Places.{no_label, flag, Found, nowhere, at, lowest_from}
use Rattle.rule.specs.Rule.{next_timer, live_timer}
use Rattle.matching.specs.declared.Booking.{Booking}
use Rattle.rule.specs.declared.Copy.TheVariants.{Waiting}
use Rattle.rule.specs.declared.Timer.{Timer}
use Rattle.desk.specs.declared.Desk.{Desk}
use Rattle.sixteen.specs.Sixteen.{no_timer, active, same_booking, is_nowhere, slot_of}
use Rattle.moving.specs.Moving.{Update, repeats, moves, moved_in}
use Rattle.moving.proofs.Update.{update_holds}
use Rattle.desk.specs.Calls.{Told, tuner_rows, place_of, timer_at, hearing_at, updated, updating_at, updating, obeying, packet_of, room_in, with_label, with_timer, add_rows, add_of}
use Rattle.desk.specs.Moments.{fresh, moment, clocked_at, next_second, walk, pass_to, live_count}
use Rattle.desk.specs.Numbers.{left_by}
use Rattle.desk.proofs.Settle.{Counted, moment_counted}
use Rattle.items.specs.Items.{Item, timer, packet}
use Rattle.answer.specs.Bytes.{number_of}
use Rattle.sheet.specs.Sheet.{booking_in, timer_left, packet_left, item_left, desk_left}

-- ── slots ──────────────────────────────────────────────────────────────────────────────────────────────────────────
-- what is found is in the list
abbrev Below : ℕ → Found → Type 0
Below n nowhere = Unit {0}
Below n (at q) = q < n

found_below : {A : Type 0} (f : A → Bool) (i n : ℕ) (xs : List A) → i + length xs ≡ n → Below n (lowest_from f i xs)
found_below f i n [] e = tt
found_below f i n (x ∷ xs) e = go (f x) (found_below f (suc i) n xs (omega arith))
  where
    go : (b : Bool) → Below n (lowest_from f (suc i) xs) → Below n (cond b (at i) (lowest_from f (suc i) xs))
    go true h = omega arith
    go false h = h

slot_below : (r : Found) (n : ℕ) → Below n r → is_nowhere r ≡ false → slot_of r < n
slot_below nowhere n h e = absurd (true≢false e)
slot_below (at q) n h e = h

-- a slot, if one is told, is below n
abbrev Slot : ℕ → Answer Told → Type 0
Slot n (refused k) = Unit {0}
Slot n (given t) = t.says < n

add_slot : (b : Booking) (d : Desk) → Slot (length d.timers) (add_of b d)
unfolding add_of room_in
add_slot b d = go (window_in b.pil b.year) _ refl
  where
    n : ℕ
    n = length d.timers

    go : (w : Answer Window) (a : Told) → a.says ≡ slot_of (room_in d) → Slot n (and_then w (λ v. first_of (add_rows b d v) a))
    go (refused k) a e = tt
    go (given w) a e =
        first_holds (Slot n) a (add_rows b d w) (tt, (tt, (tt, (tt, tt))))
        (λ none. rw e (slot_below (room_in d) n (found_below _ 0 n d.timers (omega arith)) none.1.1.1.0))

-- a slot that is told is one of the desk's
pub slot_inside : (b : Booking) (d : Desk) (t : Told) → add_of b d ≡ given t → t.says < length d.timers
slot_inside b d t e = rw e at (add_slot b d)

-- ── refusals of a timer ────────────────────────────────────────────────────────────────────────────────────────────
pub small_refusal : (b : Booking) (d : Desk) → number (add_of b d) ≤ 17
unfolding add_of window_in
small_refusal b d =
    first_holds (λ x. number (and_then x booked) ≤ 17) (window_at b.pil b.year)
    ((ltb 99 b.year || not (twenty_bits b.pil) || not (real_in b.pil b.year), 11) ∷ []) (omega arith) (λ none. small_booked (window_at b.pil b.year))
  where
    booked : Window → Answer Told
    booked w =
        first_of (add_rows b d w) (record {
          says = slot_of (room_in d);
          desk = moment (with_timer (slot_of (room_in d)) (record { booking = b; copy = Waiting }) d);
        })

    small_booked : (w : Window) → number (booked w) ≤ 17
    small_booked w = first_holds (λ x. number x ≤ 17) _ (add_rows b d w) (omega arith) (omega arith)

-- ── answers ────────────────────────────────────────────────────────────────────────────────────────────────────────
pub small_answer : (tuner t : ℕ) (bytes : List ℕ) (d : Desk) → number (packet_of tuner t bytes d) ≤ 16
unfolding packet_of reading_of obeying updating
small_answer tuner t bytes d =
    first_holds (λ x. number (and_then x (λ p. and_then (reading_of p) heard)) ≤ 16) bytes (tuner_rows d tuner t) (omega arith) (λ none. small_read)
  where
    heard : Label → Answer Desk
    heard l = obeying tuner t l d

    small_heard : (l : Label) → number (heard l) ≤ 16
    small_heard l =
        by_test (flag l.luf)
        (λ e. rw e (update_holds (λ a. number (and_then a (λ u. given (updating_at t u d))) ≤ 16) (omega arith) (omega arith) (omega arith) (λ u. omega arith)
        t (get_or d.places (place_of tuner l) no_label) l d.timers))
        (λ e. rw e (omega arith))

    small_read : number (and_then (reading_of bytes) heard) ≤ 16
    small_read =
        first_holds (λ x. number (and_then x heard) ≤ 16) (label_in bytes) (reader_rows bytes) (omega arith) (λ none. small_heard (label_in bytes))

-- ── counts ─────────────────────────────────────────────────────────────────────────────────────────────────────────
pub live_inside : (d : Desk) → live_count d ≤ length d.timers
unfolding live_count
live_inside d = count_length live_timer d.timers

-- ── what an item keeps ─────────────────────────────────────────────────────────────────────────────────────────────
-- what holds of the desk before, and of the desk that a call leaves where it is accepted, holds afterwards
module _ (P : Desk → Type 0) (d : Desk) (p : P d) where
  add_kept : (b : Booking) → P (moment (with_timer (slot_of (room_in d)) (record { booking = b; copy = Waiting }) d)) → P (left_by d (add_of b d))
  unfolding add_of
  add_kept b q = go (window_in b.pil b.year)
    where
      added : Told
      added = record { says = slot_of (room_in d); desk = moment (with_timer (slot_of (room_in d)) (record { booking = b; copy = Waiting }) d) }

      go : (w : Answer Window) → P (left_by d (and_then w (λ v. first_of (add_rows b d v) added)))
      go (refused k) = p
      go (given w) = first_holds (λ a. P (left_by d a)) added (add_rows b d w) (p, (p, (p, (p, tt)))) (λ none. q)

  packet_kept : (tuner s : ℕ) (bytes : List ℕ) → ((l : Label) → P (hearing_at tuner s l d)) → ((u : Update) → P (updating_at s u d)) →
      P (after d (packet_of tuner s bytes d))
  unfolding packet_of obeying updating
  packet_kept tuner s bytes q r =
      first_holds (λ x. P (after d (and_then x (λ y. and_then (reading_of y) heard)))) bytes (tuner_rows d tuner s) (p, (p, (p, tt)))
      (λ none. read (reading_of bytes))
    where
      heard : Label → Answer Desk
      heard l = obeying tuner s l d

      read : (a : Answer Label) → P (after d (and_then a heard))
      read (refused k) = p
      read (given l) =
          by_test (flag l.luf)
          (λ e. rw e (update_holds (λ a. P (after d (and_then a (λ u. given (updating_at s u d))))) p p p r s (get_or d.places (place_of tuner l) no_label) l d.timers))
          (λ e. rw e (q l))

-- ── the desk keeps its sixteen timers ──────────────────────────────────────────────────────────────────────────────
moment_kept : (d : Desk) → length (moment d).timers ≡ length d.timers
unfolding moment
moment_kept d = length-map d.timers (next_timer d.clock d.places)

walk_kept : (n : ℕ) (d : Desk) → length (walk n d).timers ≡ length d.timers
unfolding walk next_second
walk_kept zero d = refl
walk_kept (suc n) d = walk_kept n (next_second d) ∙ moment_kept (clocked_at (suc d.clock) d)

updated_kept : (u : Update) (d : Desk) → length (updated u d).timers ≡ length d.timers
unfolding moved_in
updated_kept repeats d = refl
updated_kept (moves slot b) d =
    by_test (some (λ t. active d.clock t && same_booking b t.booking) (with_timer slot no_timer d).timers)
    (λ e. rw e (length-set d.timers slot no_timer))
    (λ e. rw e (length-set d.timers slot (record { booking = b; copy = (timer_at d slot).copy })))

pub timers_kept : (item : List ℕ) (d : Desk) → (length (timer_left item d).timers ≡ length d.timers) × (length (packet_left item d).timers ≡ length d.timers)
unfolding timer_left packet_left hearing_at updating_at pass_to
timers_kept item d =
    let b = booking_in item in
    let slot = slot_of (room_in d) in
    let t : Timer = record { booking = b; copy = Waiting } in
    let tuner = get_or item 4 0 in
    let s = number_of (take 4 item) in
    let P : Desk → Type 0 = λ e. length e.timers ≡ length d.timers in (
      add_kept P d refl b (moment_kept (with_timer slot t d) ∙ length-set d.timers slot t),
      packet_kept P d refl tuner s (drop 5 item) (λ l. moment_kept (with_label tuner l (pass_to s d)) ∙ walk_kept (s - d.clock) d)
          (λ u. moment_kept (updated u (pass_to s d)) ∙ updated_kept u (pass_to s d) ∙ walk_kept (s - d.clock) d),
    )

-- ── and its count of those that are live ───────────────────────────────────────────────────────────────────────────
item_counted : (i : Item) (d : Desk) → Counted d → Counted (item_left i d)
unfolding timer_left packet_left hearing_at updating_at
item_counted (timer i) d p = add_kept Counted d p (booking_in i) (moment_counted _)
item_counted (packet i) d p = packet_kept Counted d p (get_or i 4 0) (number_of (take 4 i)) (drop 5 i) (λ l. moment_counted _) (λ u. moment_counted _)

items_counted : (is : List Item) (d : Desk) → Counted d → Counted (desk_left is d)
unfolding desk_left
items_counted [] d p = p
items_counted (i ∷ is) d p = items_counted is (item_left i d) (item_counted i d p)

pub full_count : (is : List Item) → Counted (desk_left is fresh)
unfolding live_count
full_count is = items_counted is fresh refl
