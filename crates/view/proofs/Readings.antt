-- A page as the reader gives it prints what its answer by the grammar does.
use Prim.Native.Nat.{ℕ, ◌≤◌}
use mathlib.Core.Path.{◌≡◌, refl, sym, ap, ◌∙◌}
use mathlib.Core.List.{List}
use native.Mathlib.Omega.{arith}
use lib.ListN.{length, length-append}
use Rattle.std.proofs.Common.{Result}
use Rattle.answer.specs.Answer.{Answer, refused, given, Unique}
use Rattle.answer.specs.Lists.{joined}
use Rattle.preview.specs.declared.Programme.{Programme}
use Rattle.preview.specs.declared.Page.{Page}
use Rattle.preview.specs.declared.Refusal.{Refusal}
use Rattle.preview.specs.Page.{Answers}
use Rattle.preview.specs.Taken.{answer_of, page_of, reading_answer, paged, ReadAs}
use Rattle.preview.proofs.Readings.{answer_is, answered}
use Rattle.preview.proofs.Proved as preview
use Rattle.collected.specs.declared.Collected.{Collected}
use Rattle.collected.specs.Collected.{blank as nothing, held}
use Rattle.collected.specs.Laws.{after_pieces}
use Rattle.collected.proofs.Readings.{Sound, sound, first_places}
use Rattle.collected.proofs.Proved as collected
use Rattle.view.specs.View.{programme_lines, count_line, viewed, view_of}
use Rattle.view.specs.Reported.{end_told, longest, reported_by, out_after, ReportedAs, read_lines}
use Rattle.view.proofs.Rooms.{lines_short, count_short, refusal_short}

pub told : (p : List ℕ) (a : Answer (List Programme)) → Answers p a → view_of p ≡ viewed a
unfolding view_of
told p a w = ap (λ x. viewed x) (sym (answer_is p a w))

-- what is held is answered as all that arrived
pub pieces : (ps : List (List ℕ)) → end_told (after_pieces ps nothing) ≡ view_of (joined ps)
unfolding end_told view_of
pieces ps = ap (λ x. viewed x) (sym (answer_is _ (answer_of (joined ps)) ((collected.laws).pieces ps _ (answered (joined ps)))))

same_lines : (a : Answer (List Programme)) → Sound a → read_lines (paged a) ≡ viewed a
unfolding read_lines page_of
same_lines (refused n) s = refl
same_lines (given qs) s = rw (first_places qs s) refl

pub read_lines_lem : (p : List ℕ) (r : Result Page Refusal) → ReadAs p r →
    (a : Answer (List Programme)) × Answers p a × (read_lines (reading_answer r) ≡ viewed a)
read_lines_lem p r (a, w, e) = (a, w, ap read_lines e ∙ same_lines a (sound p a w))

short : (a : Answer (List Programme)) → Sound a → length (viewed a) ≤ longest
short (refused n) s = omega (arith, refusal_short n)
short (given qs) s = omega (arith, lines_short qs, count_short (length qs), length-append (programme_lines qs) (count_line (length qs)))

pub room : (p : List ℕ) → length (view_of p) ≤ longest
unfolding view_of
room p = short (answer_of p) (sound p (answer_of p) (answered p))

-- what is printed of a reading finds it
pub read_room : (p : List ℕ) (r : Result Page Refusal) → ReadAs p r → length (read_lines (reading_answer r)) ≤ longest
read_room p r w = let (a, v, e) = read_lines_lem p r w in omega (arith, ap (λ (x : List ℕ). length x) e, short a (sound p a v))

-- the grammar has one answer for the bytes held, and it is stored in one way
pub report_once : (c : Collected) (out : List ℕ) → Unique {A = ℕ × List ℕ} (λ o. ReportedAs out c o.0 o.1)
report_once c out r s (a, v, e, f) (b, w, g, h) =
    let same : a ≡ b = (preview.laws).one_answer (held c) a b v w in
    let lengths : r.0 ≡ s.0 = e ∙ ap (λ x. reported_by out (viewed x)) same ∙ sym g in
    let stored : r.1 ≡ s.1 = f ∙ ap (λ x. out_after out (viewed x)) same ∙ sym h in
    λ i. (lengths i, stored i)
