-- The entries of a page's timers, one after the other.
use Prim.Native.Nat.{ℕ, suc, ◌+◌, ◌*◌, ◌≤◌, ◌<◌, min}
use mathlib.Core.Path.{◌≡◌, refl, sym, ap, ◌∙◌}
use mathlib.Core.List.{List, [], ◌∷◌, ◌++◌, append-nil, append_assoc}
use native.Mathlib.Numerals.{add-one}
use native.Mathlib.Omega.{arith}
use native.Mathlib.Decide.{dec_lt}
use lib.ListN.{length, get_or, take, set, replicate, length-append}
use lib.Seq.{sets, take-suc, take_all, length-take-le, take-take, take-append_seam}
use Rattle.std.proofs.Common.{Option, None, Some, Result}
use Rattle.answer.specs.Answer.{Answer, refused, given}
use Rattle.answer.specs.Lists.{filled}
use Rattle.answer.proofs.Filled.{filled_more}
use Rattle.preview.specs.declared.Programme.{Programme}
use Rattle.preview.specs.declared.Page.{Page}
use Rattle.preview.specs.declared.Refusal.{Refusal}
use Rattle.preview.specs.Page.{Answers}
use Rattle.preview.specs.Taken.{blank, reading_answer, paged, ReadAs}
use Rattle.collected.proofs.Readings.{Sound, sound, first_places}
use Rattle.booked.specs.declared.Booked.{Booked}
use Rattle.booked.specs.Timer.{timer_of}
use Rattle.table.specs.Table.{most}
use Rattle.section.specs.declared.Entries.{Entries}
use Rattle.section.specs.Section.{entry_of, onto_timers, timers_of, entries_of, section_of, written, longest, held_as, section_by, text_of}
use Rattle.section.specs.Taken.{entered, after_timer, counted, section_read}

pub nine : (tuner : ℕ) (b : Booked) → length (entry_of tuner b) ≡ 9
unfolding entry_of
nine tuner b = refl

pub entries_length : (bs : List Booked) (tuner : ℕ) → length (entries_of tuner bs) ≡ 9 * length bs
unfolding entries_of
entries_length [] tuner = refl
entries_length (b ∷ bs) tuner = omega (arith, length-append (entry_of tuner b) (entries_of tuner bs), nine tuner b, entries_length bs tuner)

entries_more : (bs : List Booked) (tuner : ℕ) (b : Booked) → entries_of tuner (bs ++ (b ∷ [])) ≡ entries_of tuner bs ++ entry_of tuner b
unfolding entries_of
entries_more [] tuner b = append-nil (entry_of tuner b)
entries_more (x ∷ bs) tuner b = rw (entries_more bs tuner b) (sym (append_assoc (entry_of tuner x) (entries_of tuner bs) (entry_of tuner b)))

-- elements after others, where both are filled up
filled_append : {A : Type 0} (z : A) (n : ℕ) (ys xs : List A) → filled n z (xs ++ ys) ≡ sets (filled n z xs) (length xs) ys
filled_append z n [] xs = ap (λ (l : List _). filled n z l) (append-nil xs)
filled_append z n (y ∷ ys) xs =
    let e : filled n z (xs ++ (y ∷ ys)) ≡ filled n z ((xs ++ (y ∷ [])) ++ ys) = rw (append_assoc xs (y ∷ []) ys) refl in
    let l : length (xs ++ (y ∷ [])) ≡ suc (length xs) = omega (arith, length-append xs (y ∷ [])) in
    e ∙ filled_append z n ys (xs ++ (y ∷ [])) ∙ rw (l, filled_more z n xs y) refl

-- none yet, and one more
pub entered_none : (tuner : ℕ) (qs : List Programme) → record { count = 0; bytes = replicate longest 0 } ≡ entered tuner (timers_of (take 0 qs))
unfolding entered entries_of timers_of
entered_none tuner qs = refl

entered_timed : (bs : List Booked) (tuner : ℕ) (b : Booked) → entered tuner (bs ++ (b ∷ [])) ≡ after_timer tuner (entered tuner bs) (Some b)
unfolding entered after_timer
entered_timed bs tuner b =
    let n : length (bs ++ (b ∷ [])) ≡ length bs + 1 = length-append bs (b ∷ []) in
    let at : 1 + 9 * length bs ≡ length (0 ∷ entries_of tuner bs) = omega (arith, entries_length bs tuner) in
    rw (n, entries_more bs tuner b, at, filled_append 0 longest (entry_of tuner b) (0 ∷ entries_of tuner bs)) refl

entered_more : (bs : List Booked) (tuner : ℕ) (t : Option Booked) → entered tuner (bs ++ onto_timers t []) ≡ after_timer tuner (entered tuner bs) t
unfolding after_timer
entered_more bs tuner None =
    let none : bs ++ onto_timers None [] ≡ bs = append-nil bs in
    rw none refl
entered_more bs tuner (Some b) = entered_timed bs tuner b

timers_more : (qs : List Programme) (q : Programme) → timers_of (qs ++ (q ∷ [])) ≡ timers_of qs ++ onto_timers (timer_of q) []
unfolding timers_of
timers_more [] q = refl
timers_more (p ∷ qs) q = rw (timers_more qs q) (sym (onto_append (timer_of p) (timers_of qs) (onto_timers (timer_of q) [])))
  where
    onto_append : (t : Option Booked) (bs cs : List Booked) → onto_timers t bs ++ cs ≡ onto_timers t (bs ++ cs)
    onto_append None bs cs = refl
    onto_append (Some b) bs cs = refl

-- one programme more
pub entered_further : (qs : List Programme) (tuner i : ℕ) → i < length qs →
    entered tuner (timers_of (take (i + 1) qs)) ≡ after_timer tuner (entered tuner (timers_of (take i qs))) (timer_of (get_or qs i blank))
entered_further qs tuner i h =
    rw (add-one, take-suc qs i blank h, timers_more) (entered_more (timers_of (take i qs)) tuner (timer_of (get_or qs i blank)))

-- no more timers than programmes
pub few_timers : (qs : List Programme) → length (timers_of qs) ≤ length qs
unfolding timers_of
few_timers [] = omega arith
few_timers (q ∷ qs) = omega (arith, few_timers qs, one (timer_of q) (timers_of qs))
  where
    one : (t : Option Booked) (bs : List Booked) → length (onto_timers t bs) ≤ length bs + 1
    one None bs = omega arith
    one (Some b) bs = omega arith

section_length : (tuner : ℕ) (bs : List Booked) → length (section_of tuner bs) ≡ 1 + 9 * length bs
unfolding section_of
section_length tuner bs = omega (arith, entries_length bs tuner)

first_place : (tuner : ℕ) (bs : List Booked) → filled longest 0 (section_of tuner bs) ≡ set (filled longest 0 (0 ∷ entries_of tuner bs)) 0 (length bs)
unfolding section_of
first_place tuner bs = refl

pub few_entered : (qs : List Programme) (tuner i : ℕ) (had : Entries) → i ≤ length qs → had ≡ entered tuner (timers_of (take i qs)) → had.count ≤ i
unfolding entered
few_entered qs tuner i had h e =
    omega (arith, ap (λ (x : Entries). x.count) e, few_timers (take i qs), length-take-le i qs h)

-- those of a page, where no more are counted than it has room for
pub all_shown : (qs : List Programme) (count : ℕ) → length qs ≡ most → take (min count most) qs ≡ take count qs
all_shown qs count e =
    elim (dec_lt count most) [
      | yes h ↦ let same : min count most ≡ count = omega arith in rw same refl
      | no h ↦ take_all (min count most) qs (omega arith) ∙ sym (take_all count qs (omega arith))
    ]

-- all of them, with their count
pub all_counted : (tuner : ℕ) (qs : List Programme) → counted (entered tuner (timers_of qs)) ≡ held_as (written tuner (given qs))
unfolding counted entered section_of
all_counted tuner qs =
    let text : written tuner (given qs) ≡ length (timers_of qs) ∷ entries_of tuner (timers_of qs) = refl in
    rw (section_length tuner (timers_of qs), first_place tuner (timers_of qs)) refl

-- they find room
pub few_bytes : (tuner : ℕ) (a : Answer (List Programme)) → Sound a → length (written tuner a) ≤ longest
few_bytes tuner (refused n) s =
    let none : length (written tuner (refused n)) ≡ 0 = refl in
    omega (arith, none)
few_bytes tuner (given qs) s = omega (arith, section_length tuner (timers_of qs), few_timers qs)

-- what is held of it is the whole text
pub text_whole : (tuner : ℕ) (a : Answer (List Programme)) → Sound a → text_of (section_by tuner a) ≡ written tuner a
text_whole tuner (refused n) s = refl
text_whole tuner (given qs) s =
    let text = written tuner (given qs) in
    take-take (length text) longest (text ++ replicate longest 0) (few_bytes tuner (given qs) s) ∙ take-append_seam text (replicate longest 0)

-- a page as the reader gives it
same_section : (tuner : ℕ) (a : Answer (List Programme)) → Sound a → section_read tuner (paged a) ≡ section_by tuner a
unfolding section_read
same_section tuner (refused n) s = refl
same_section tuner (given qs) s = rw (first_places qs s) refl

pub read_section : (tuner : ℕ) (p : List ℕ) (r : Result Page Refusal) → ReadAs p r →
    (a : Answer (List Programme)) × Answers p a × (section_read tuner (reading_answer r) ≡ section_by tuner a)
read_section tuner p r (a, w, e) = (a, w, ap (section_read tuner) e ∙ same_section tuner a (sound p a w))
