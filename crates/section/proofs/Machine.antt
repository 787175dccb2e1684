-- What is asked for piece by piece is what the whole input asks for.
use Prim.Native.Nat.{ℕ}
use mathlib.Core.Path.{◌≡◌, refl, sym, ap, subst, ◌∙◌}
use mathlib.Core.Bool.{true, false}
use mathlib.Core.List.{List, [], ◌∷◌}
use Rattle.std.proofs.Common.{Option, None, Some, Result, is_some, unwrap_or}
use Rattle.answer.specs.Answer.{Answer, Unique}
use Rattle.answer.specs.Lists.{joined}
use Rattle.answer.proofs.Cases.{both_true}
use Rattle.preview.specs.declared.Programme.{Programme}
use Rattle.preview.specs.Page.{Answers}
use Rattle.preview.specs.declared.Refusal.{Refusal}
use Rattle.preview.specs.Taken.{answer_of, reading_answer}
use Rattle.preview.proofs.Readings.{answer_is, answered}
use Rattle.preview.proofs.Proved as preview
use Rattle.collected.specs.Collected as page
use Rattle.collected.specs.Laws.{after_pieces as pageAfter}
use Rattle.collected.proofs.Proved as collected
use Rattle.section.specs.declared.Section.{Section}
use Rattle.section.specs.declared.Asked.{Asked}
use Rattle.section.specs.Section.{section_by}
use Rattle.section.specs.Asked.{tuner_in, page_in, section_in, nothing, on_page, after_piece, is_full, tuner_of, SectionAs}
use Rattle.section.specs.Laws.{after_pieces}

pub told : (input : List ℕ) (a : Answer (List Programme)) → Answers (page_in input) a → section_in input ≡ section_by (tuner_in input) a
unfolding section_in
told input a w = ap (λ x. section_by (tuner_in input) x) (sym (answer_is (page_in input) a w))

-- once the tuner is known, pieces are the page's
after : (ps : List (List ℕ)) {k l : Asked} → k ≡ l → after_pieces ps k ≡ after_pieces ps l
after ps e = ap (λ (x : Asked). after_pieces ps x) e

more : (p : List ℕ) (k : Asked) (tuner : ℕ) → k.tuner ≡ Some tuner → after_piece p k ≡ on_page tuner p k
unfolding after_piece
more p k tuner e = rw e refl

on_page_lem : (ps : List (List ℕ)) (k : Asked) (tuner : ℕ) → k.tuner ≡ Some tuner →
    ((after_pieces ps k).tuner ≡ Some tuner) × ((after_pieces ps k).page ≡ pageAfter ps k.page)
on_page_lem [] k tuner e = (e, refl)
on_page_lem (p ∷ ps) k tuner e =
    let same = after ps (more p k tuner e) in
    let (t, c) = on_page_lem ps (on_page tuner p k) tuner refl in
    (ap (λ (x : Asked). x.tuner) same ∙ t, ap (λ (x : Asked). x.page) same ∙ c)

-- what pieces make of nothing: the tuner, and what is held of the page
none_yet : after_piece [] nothing ≡ nothing
unfolding after_piece nothing
none_yet = refl

first_byte : (tuner : ℕ) (p : List ℕ) → after_piece (tuner ∷ p) nothing ≡ on_page tuner p nothing
unfolding after_piece nothing
first_byte tuner p = refl

blank_page : nothing.page ≡ page.blank
unfolding nothing
blank_page = refl

first_tuner : tuner_of nothing ≡ 0
unfolding nothing
first_tuner = refl

-- an answer for what is asked for, with its tuner
abbrev Asks : ℕ → Answer (List Programme) → Asked → Type 0
Asks tuner a k = (tuner_of k ≡ tuner) × Answers (page.held k.page) a

from_nothing : (ps : List (List ℕ)) (a : Answer (List Programme)) → Answers (page_in (joined ps)) a → Asks (tuner_in (joined ps)) a (after_pieces ps nothing)
from_nothing [] a w = (first_tuner, rw blank_page ((collected.laws).pieces [] a w))
from_nothing ([] ∷ ps) a w = subst (Asks (tuner_in (joined ps)) a) (sym (after ps none_yet)) (from_nothing ps a w)
from_nothing ((tuner ∷ p) ∷ ps) a w =
    let (t, c) = on_page_lem ps (on_page tuner p nothing) tuner refl in
    subst (Asks tuner a) (sym (after ps (first_byte tuner p))) (ap (λ o. unwrap_or o 0) t, rw (c, blank_page) ((collected.laws).pieces (p ∷ ps) a w))

pub pieces : (ps : List (List ℕ)) → SectionAs (after_pieces ps nothing) (section_in (joined ps))
unfolding section_in
pieces ps =
    let a = answer_of (page_in (joined ps)) in
    let (t, w) = from_nothing ps a (answered (page_in (joined ps))) in
    (a, w, rw t refl)

pub settled : (ps : List (List ℕ)) (k : Asked) (r : Answer Section) → is_full k ≡ true → SectionAs k r → SectionAs (after_pieces ps k) r
settled ps k r f s = go k.tuner refl
  where
    go : (t : Option ℕ) → k.tuner ≡ t → SectionAs (after_pieces ps k) r
    go None n = absurd (let z : false ≡ true = rw n at f in cc)
    go (Some tuner) n =
        let (a, w, e) = s in
        let full : page.is_full k.page ≡ true = (both_true (is_some k.tuner) (page.is_full k.page) f).1 in
        let (t, c) = on_page_lem ps k tuner n in
        let same : tuner_of k ≡ tuner_of (after_pieces ps k) = ap (λ o. unwrap_or o 0) (n ∙ sym t) in
        (a, rw (c, (collected.laws).settled ps k.page full) w, rw (← same) e)

-- the grammar has one answer for the bytes held
pub section_once : (k : Asked) → Unique (λ (r : Result Section Refusal). SectionAs k (reading_answer r))
section_once k r s (a, v, e) (b, w, f) =
    let same : b ≡ a = (preview.laws).one_answer (page.held k.page) b a w v in
    preview.told_once (section_by (tuner_of k) a) r s e (f ∙ ap (λ x. section_by (tuner_of k) x) same)
