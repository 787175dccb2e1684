-- What an update is judged by: the timer that it means has an open window, so that its year is one of the clock's.
use Prim.Native.Nat.{ℕ, suc, ◌≤◌, ◌<◌}
use mathlib.Core.Path.{◌≡◌, refl, sym, ap, ◌∙◌}
use mathlib.Core.Bool.{Bool, true, false, cond, not, ◌&&◌, ◌||◌, true≢false}
use mathlib.Core.List.{List, [], ◌∷◌, map}
use native.Mathlib.Omega.{arith}
use borrow.Author.Tests.{leb-false, eqb-true}
use lib.Dec.{leb, ltb, eqb}
use lib.ListN.{get_or, get_or-map}
use Rattle.std.specs.Prelude.{Option, position}
use Rattle.answer.specs.Answer.{Answer, refused, given, first_of, and_then}
use Rattle.answer.proofs.Cases.{by_test, both_true}
use Rattle.answer.proofs.Every.{first_holds}
use Rattle.label.specs.declared.Label.{Label}
use Rattle.label.specs.declared.pil.Service.TheVariants.{Programme}
use Rattle.label.specs.Pil.{twenty_bits, service_of}
use Rattle.calendar.specs.declared.Window.{Window}
use Rattle.calendar.specs.Calendar.{real_in, window_at, window_in}
use Rattle.calendar.proofs.Windows.{accepted, window_in_given}
use Rattle.places.specs.declared.Stamped.{Stamped}
use Rattle.places.specs.Places.{Found, nowhere, at, lowest_from, lowest, stands}
use Rattle.places.proofs.Search.{by_position, lowest_passes}
use Rattle.matching.specs.declared.Booking.{Booking}
use Rattle.matching.specs.Matching.{open_in, open_at, matches}
use Rattle.matching.proofs.Codes.{real_programme, codes_match_nothing}
use Rattle.rule.specs.declared.Timer.{Timer}
use Rattle.rule.specs.Rule.{held}
use Rattle.sixteen.specs.Sixteen.{no_timer, is_nowhere, slot_of}
use Rattle.moving.specs.Moving.{Update, repeats, moves, meant, match_rows, is_repeat, moved_to, window_rows, moving_to, update_for}

-- the library's search finds the same slot
pub meant_is : (s : ℕ) (old : Stamped) (timers : List Timer) {r : Option ℕ} → r ≡ position (λ t. held t.copy && matches s t.booking old) timers →
    r ≡ meant s old timers
unfolding meant
meant_is s old timers e = by_position (λ t. held t.copy && matches s t.booking old) timers e

open_year : (s : ℕ) (b : Booking) → open_at s b ≡ true → b.year ≤ 99
unfolding open_at
open_year s b e = go (window_in b.pil b.year) refl e
  where
    go : (a : Answer Window) → window_in b.pil b.year ≡ a → open_in s a ≡ true → b.year ≤ 99
    go (refused n) w e = absurd (true≢false (sym e))
    go (given x) w e = (window_in_given b.pil b.year x w).0

module _ (s : ℕ) (old : Stamped) (timers : List Timer) (slot : ℕ) (e : meant s old timers ≡ at slot) where
  -- it is held, and the standing label matches it
  pub meant_matches : let t = get_or timers slot no_timer in (held t.copy ≡ true) × (matches s t.booking old ≡ true)
  unfolding meant
  meant_matches =
      let t = get_or timers slot no_timer in
      both_true (held t.copy) (matches s t.booking old) (lowest_passes (λ x. held x.copy && matches s x.booking old) no_timer timers slot e)

  pub meant_year : (get_or timers slot no_timer).booking.year ≤ 99
  unfolding matches
  meant_year =
      let b = (get_or timers slot no_timer).booking in
      open_year s b (both_true (stands s old && eqb old.cni b.cni && eqb old.pil b.pil) (open_at s b) meant_matches.1).1

-- ── what is accepted ───────────────────────────────────────────────────────────────────────────────────────────────
module _ (s : ℕ) (old : Stamped) (l : Label) (timers : List Timer) (slot : ℕ) (b : Booking) where
  -- the timer of a slot is to become b
  pub record Moved : Type 0 where
    pub found : meant s old timers ≡ at slot
    pub no_repeat : is_repeat l old ≡ false
    pub becomes : b ≡ moved_to l (get_or timers slot no_timer).booking
    pub window : Window
    pub real : window_in b.pil b.year ≡ given window
    pub lasts : s < window.closes

  in_window : (i : ℕ) (x : Booking) → meant s old timers ≡ at i → is_repeat l old ≡ false → x ≡ moved_to l (get_or timers i no_timer).booking →
      (a : Answer Window) → window_in x.pil x.year ≡ a → and_then a (λ w. first_of (window_rows s w) (moves i x)) ≡ given (moves slot b) → Moved
  in_window i x f n e (refused m) w k = absurd (let z : ◌≡◌ {A = ℕ} 0 1 = cc in omega arith)
  in_window i x f n e (given y) w k =
      by_test (leb y.closes s)
      (λ t. absurd (let h = rw t at k in let z : ◌≡◌ {A = ℕ} 0 1 = cc in omega arith))
      (λ t. let h = rw t at k in
      let q : i ≡ slot = cc in
      let r : x ≡ b = cc in
      record {
        found = f ∙ ap at q;
        no_repeat = n;
        becomes = sym r ∙ e ∙ ap (λ j. moved_to l (get_or timers j no_timer).booking) q;
        window = y;
        real = rw (← r) w;
        lasts = leb-false y.closes s t;
      })

  pub moved_by : update_for s old l timers ≡ given (moves slot b) → Moved
  unfolding update_for
  moved_by k = go (meant s old timers) refl k
    where
      go : (f : Found) → meant s old timers ≡ f →
          and_then (first_of (match_rows f) old)
          (λ x. cond (is_repeat l x) (given repeats) (moving_to s (slot_of f) (moved_to l (get_or timers (slot_of f) no_timer).booking))) ≡ given (moves slot b) → Moved
      go nowhere f k = absurd (let z : ◌≡◌ {A = ℕ} 0 1 = cc in omega arith)
      go (at i) f k =
          by_test (is_repeat l old)
          (λ t. absurd (let h = rw t at k in let z : ◌≡◌ {A = ℕ} 0 1 = cc in omega arith))
          (λ t. in_window i _ f t refl (window_in _ _) refl (rw t at k))

-- ── timers that go on ──────────────────────────────────────────────────────────────────────────────────────────────
-- what an update is judged by: whether a slot is held, and its booking
abbrev pub key_of : Timer → Bool × Booking
key_of t = (held t.copy, t.booking)

lowest_map : {A B : Type 0} (f : B → Bool) (g : A → B) (i : ℕ) (xs : List A) → lowest_from (λ x. f (g x)) i xs ≡ lowest_from f i (map g xs)
lowest_map f g i [] = refl
lowest_map f g i (x ∷ xs) = by_test (f (g x)) (λ e. rw e) (λ e. rw e (lowest_map f g (suc i) xs))

module _ (s : ℕ) (old : Stamped) where
  meant_by : List (Bool × Booking) → Found
  meant_by keys = lowest (λ k. k.0 && matches s k.1 old) keys

  meant_keys : (ts : List Timer) → meant s old ts ≡ meant_by (map key_of ts)
  unfolding meant meant_by
  meant_keys ts = lowest_map (λ k. k.0 && matches s k.1 old) key_of 0 ts

  booking_keys : (ts : List Timer) (slot : ℕ) → (get_or ts slot no_timer).booking ≡ (get_or (map key_of ts) slot (key_of no_timer)).1
  booking_keys ts slot = ap (λ k. k.1) (sym (get_or-map key_of ts slot no_timer))

  module _ (ts us : List Timer) (e : map key_of ts ≡ map key_of us) where
    pub meant_alike : meant s old ts ≡ meant s old us
    meant_alike = meant_keys ts ∙ ap meant_by e ∙ sym (meant_keys us)

    booking_alike : (slot : ℕ) → (get_or ts slot no_timer).booking ≡ (get_or us slot no_timer).booking
    booking_alike slot = booking_keys ts slot ∙ ap (λ ks. (get_or ks slot (key_of no_timer)).1) e ∙ sym (booking_keys us slot)

    pub update_alike : (l : Label) → update_for s old l ts ≡ update_for s old l us
    unfolding update_for
    update_alike l = rw (meant_alike, booking_alike)

-- ── what an update is answered ─────────────────────────────────────────────────────────────────────────────────────
-- what holds of the refusals 7, 11 and 12, and of whatever is asked for, holds of the answer
module _ (P : Answer Update → Type 0) (seven : P (refused 7)) (eleven : P (refused 11)) (twelve : P (refused 12)) (asked : (u : Update) → P (given u)) where
  moving_holds : (s slot : ℕ) (b : Booking) → P (moving_to s slot b)
  unfolding window_in
  moving_holds s slot b =
      first_holds (λ a. P (and_then a (λ w. first_of (window_rows s w) (moves slot b)))) (window_at b.pil b.year)
      ((ltb 99 b.year || not (twenty_bits b.pil) || not (real_in b.pil b.year), 11) ∷ []) (eleven, tt)
      (λ none. first_holds P (moves slot b) (window_rows s (window_at b.pil b.year)) (twelve, tt) (λ lasts. asked (moves slot b)))

  pub update_holds : (s : ℕ) (old : Stamped) (l : Label) (timers : List Timer) → P (update_for s old l timers)
  unfolding update_for
  update_holds s old l timers =
      let slot = slot_of (meant s old timers) in
      let b = moved_to l (get_or timers slot no_timer).booking in
      first_holds (λ a. P (and_then a (λ x. cond (is_repeat l x) (given repeats) (moving_to s slot b)))) old (match_rows (meant s old timers)) (seven, tt)
      (λ none. by_test (is_repeat l old) (λ e. rw e (asked repeats)) (λ e. rw e (moving_holds s slot b)))

-- ── a service code ─────────────────────────────────────────────────────────────────────────────────────────────────
module _ (s : ℕ) (old : Stamped) (l : Label) (timers : List Timer) (code : service_of l.pil ≡ Programme → ⊥) where
  -- it is no repeat of a label that matches, ..
  code_new : (i : ℕ) → meant s old timers ≡ at i → is_repeat l old ≡ false
  code_new i f = by_test (is_repeat l old) (λ e.
      let same : l.pil ≡ old.pil = eqb-true l.pil old.pil (both_true (eqb l.cni old.cni) (eqb l.pil old.pil) e).1 in
      let none = codes_match_nothing s (get_or timers i no_timer).booking old (rw same at code) in
      absurd (true≢false (sym (meant_matches s old timers i f).1 ∙ none))) (λ e. e)

  -- .. and real in no year
  code_unreal : (slot year tuner length : ℕ) →
      moving_to s slot (record { cni = l.cni; pil = l.pil; year = year; tuner = tuner; length = length }) ≡ refused 11
  unfolding window_in
  code_unreal slot year tuner length =
      by_test (ltb 99 year || not (twenty_bits l.pil) || not (real_in l.pil year))
      (λ e. rw e)
      (λ e. absurd (code (real_programme l.pil year (accepted l.pil year e).2)))

  pub codes_refused : update_for s old l timers ≡ refused (cond (is_nowhere (meant s old timers)) 7 11)
  unfolding update_for moved_to
  codes_refused = go (meant s old timers) refl
    where
      go : (f : Found) → meant s old timers ≡ f →
          and_then (first_of (match_rows f) old)
          (λ x. cond (is_repeat l x) (given repeats) (moving_to s (slot_of f) (moved_to l (get_or timers (slot_of f) no_timer).booking)))
          ≡ refused (cond (is_nowhere f) 7 11)
      go nowhere f = refl
      go (at i) f = rw (code_new i f) (code_unreal i _ _ _)
