-- A page's timers, as the sheet adds them.
use Prim.Native.Nat.{ℕ, ◌<◌}
use mathlib.Core.Path.{◌≡◌, refl, sym, ap, ◌∙◌}
use mathlib.Core.List.{List, [], ◌∷◌, ◌++◌, map, append_assoc}
use native.Mathlib.Omega.{arith}
use Rattle.std.proofs.Common.{Option, None, Some}
use Rattle.answer.specs.Answer.{given, first_of, number, Row}
use Rattle.answer.proofs.Cases.{by_test}
use Rattle.preview.specs.declared.Programme.{Programme}
use Rattle.preview.specs.Page.{Answers}
use Rattle.booked.specs.declared.Booked.{Booked}
use Rattle.booked.specs.Timer.{timer_of}
use Rattle.booked.specs.Laws.{Member, here, later}
use Rattle.booked.proofs.Proved as booked
use Rattle.section.specs.Section.{entry_of, onto_timers, timers_of, section_of}
use Rattle.section.proofs.Proved as section
use Rattle.calendar.specs.declared.Window.{Window}
use Rattle.calendar.specs.Calendar.{window_in}
use Rattle.desk.specs.declared.Desk.{Desk}
use Rattle.desk.specs.Moments.{fresh}
use Rattle.desk.specs.Calls.{add_rows, add_of}
use Rattle.desk.specs.Numbers.{left_by}
use Rattle.items.specs.Items.{Item, timer, next, on_packet_count}
use Rattle.sheet.specs.Sheet.{booking_in, timer_told, timer_left, lines_of, desk_left, last_line, sheet_of}
use Rattle.sheet.proofs.Machine.{desk_more, lines_more}
use Rattle.recording.specs.Recording.{booking_of, adds_told, adds_left, Recording}

-- ── an entry is taken for what it was made of ──────────────────────────────────────────────────────────────────────
-- its numbers find room in their bytes
pub record Fits (b : Booked) : Type 0 where
  pub cni : b.cni < 65536
  pub pil : b.pil < 16777216
  pub length : b.length < 65536

abbrev AllFit : List Booked → Type 0
AllFit [] = Unit {0}
AllFit (b ∷ bs) = Fits b × AllFit bs

taken_back : (tuner : ℕ) (b : Booked) → Fits b → booking_in (entry_of tuner b) ≡ booking_of tuner b
taken_back tuner b f =
    let (c, p, y, t, l) = (section.laws).fields tuner b f.cni f.pil f.length in
    rw (c, p, y, t, l) refl

-- those of a page do
module _ (page : List ℕ) (qs : List Programme) (w : Answers page (given qs)) where
  one_fits : (q : Programme) (b : Booked) → Member q qs → timer_of q ≡ Some b → Fits b
  one_fits q b m e = record {
    cni = omega (arith, (booked.laws).cni_below page qs q b w m e);
    pil = omega (arith, (booked.laws).pil_below page qs q b w m e);
    length = omega (arith, (booked.laws).length_below page qs q b w m e);
  }

  onto_fits : (q : Programme) (bs : List Booked) → Member q qs → AllFit bs → AllFit (onto_timers (timer_of q) bs)
  onto_fits q bs m f = go (timer_of q) refl
    where
      go : (t : Option Booked) → timer_of q ≡ t → AllFit (onto_timers t bs)
      go None e = f
      go (Some b) e = (one_fits q b m e, f)

  timers_fit : (ps : List Programme) → ((q : Programme) → Member q ps → Member q qs) → AllFit (timers_of ps)
  unfolding timers_of
  timers_fit [] h = Prim.tt {0}
  timers_fit (p ∷ ps) h = onto_fits p (timers_of ps) (h p here) (timers_fit ps (λ q m. h q (later m)))

-- ── a sheet ────────────────────────────────────────────────────────────────────────────────────────────────────────
abbrev items_by : ℕ → List Booked → List Item
items_by tuner bs = map (λ b. timer (entry_of tuner b)) bs

adds_told_lem : (bs : List Booked) (tuner : ℕ) (d : Desk) → AllFit bs → lines_of (items_by tuner bs) d ≡ adds_told tuner bs d
unfolding lines_of adds_told timer_told timer_left
adds_told_lem [] tuner d f = refl
adds_told_lem (b ∷ bs) tuner d (f, g) = rw (taken_back tuner b f, adds_told_lem bs tuner _ g) refl

adds_left_lem : (bs : List Booked) (tuner : ℕ) (d : Desk) → AllFit bs → desk_left (items_by tuner bs) d ≡ adds_left tuner bs d
unfolding desk_left adds_left timer_left
adds_left_lem [] tuner d f = refl
adds_left_lem (b ∷ bs) tuner d (f, g) =
    let one : timer_left (entry_of tuner b) d ≡ left_by d (add_of (booking_of tuner b) d) = rw (taken_back tuner b f) refl in
    ap (desk_left (items_by tuner bs)) one ∙ adds_left_lem bs tuner (left_by d (add_of (booking_of tuner b) d)) g

of_items : (bs : List Booked) (tuner : ℕ) (rest : List ℕ) → AllFit bs →
    let d = adds_left tuner bs fresh in
    let c = on_packet_count (next 2 rest) in
    sheet_of (section_of tuner bs ++ rest) ≡ adds_told tuner bs fresh ++ (lines_of c.items d ++ last_line c.whole (desk_left c.items d))
unfolding sheet_of
of_items bs tuner rest f =
    let is = items_by tuner bs in
    let c = on_packet_count (next 2 rest) in
    rw ((section.laws).timers tuner bs rest, lines_more is c.items fresh, desk_more is c.items fresh, adds_told_lem bs tuner fresh f, adds_left_lem bs tuner fresh f)
    (append_assoc (adds_told tuner bs fresh) (lines_of c.items (adds_left tuner bs fresh)) _)

-- ── a real PIL ─────────────────────────────────────────────────────────────────────────────────────────────────────
-- of rows none of which is 11 none is answered
abbrev NoneIs : ℕ → List Row → Type 0
NoneIs n [] = n ≡ 0 → ⊥
NoneIs n (row ∷ rows) = (row.1 ≡ n → ⊥) × NoneIs n rows

not_told : {A : Type 0} (rows : List Row) (a : A) (n : ℕ) → NoneIs n rows → number (first_of rows a) ≡ n → ⊥
not_told [] a n h e = h (sym e)
not_told (row ∷ rows) a n h e =
    by_test row.0 (λ r. h.0 (rw r at e)) (λ r. not_told rows a n h.1 (rw r at e))

never : (b : Booked) (tuner : ℕ) (d : Desk) (w : Window) → window_in b.pil b.year ≡ given w → number (add_of (booking_of tuner b) d) ≡ 11 → ⊥
unfolding add_of
never b tuner d w e n =
    not_told (add_rows (booking_of tuner b) d w) _ 11 (λ r. omega arith, (λ r. omega arith, (λ r. omega arith, (λ r. omega arith, λ r. omega arith)))) (rw e at n)

pub recording : Recording
recording = record {
  played = λ page qs tuner rest w. of_items (timers_of qs) tuner rest (timers_fit page qs w qs (λ q m. m));
  never_11 = λ page qs q b tuner d w m e n. let (window, real) = (booked.laws).real page qs q b w m e in never b tuner d window real n;
}
