-- What is answered through lent bytes: a refusal where they are more or fewer, else the answer of the reader.
use Prim.Native.Nat.{ℕ, ◌≤◌}
use mathlib.Core.Path.{◌≡◌, refl, sym, ap, ◌∙◌}
use mathlib.Core.Bool.{not, true, false}
use mathlib.Core.List.{List, ◌∷◌}
use native.Mathlib.Omega.{arith}
use borrow.Author.Tests.{eq-eqb, ne_eqb}
use lib.Dec.{eqb}
use lib.ListN.{length}
use Rattle.std.proofs.Common.{Result, Ok}
use Rattle.answer.specs.Answer.{Answer, refused, given, number, after, and_then}
use Rattle.preview.specs.declared.Programme.{Programme}
use Rattle.preview.specs.declared.Page.{Page}
use Rattle.preview.specs.declared.Refusal.{Refusal}
use Rattle.preview.specs.Page.{Answers}
use Rattle.preview.specs.Taken.{answer_of, page_of, reading_answer, paged, ReadAs}
use Rattle.preview.proofs.Readings.{answered}
use Rattle.preview.proofs.Most.{at_most_24}
use Rattle.viewed.specs.Viewed.{wrong_room, bytes_of, page_bytes, page_into, ReadInto}

-- an answer that is another, as its number and as what it leaves of a buffer
as_both : (was : List ℕ) {a b : Answer (List ℕ)} → a ≡ b → (number a ≡ number b) × (after was a ≡ after was b)
as_both was e = (ap number e, ap (after was) e)

abbrev in_bytes : Answer (List Programme) → Answer (List ℕ)
in_bytes a = and_then a (λ qs. given (page_bytes qs))

through : (a : Answer (List Programme)) (out : List ℕ) → length out ≡ 385 → in_bytes a ≡ page_into a out
unfolding page_into
through a out h = let t : not (eqb (length out) 385) ≡ false = ap not (eq-eqb _ _ h) in rw t

stopped : (a : Answer (List Programme)) (out : List ℕ) → (length out ≡ 385 → ⊥) → refused wrong_room ≡ page_into a out
unfolding page_into
stopped a out h = let t : not (eqb (length out) 385) ≡ true = ap not (ne_eqb _ _ h) in rw t

-- ── a page read ────────────────────────────────────────────────────────────────────────────────────────────────────
pub read_stopped : (p out : List ℕ) → (length out ≡ 385 → ⊥) → ReadInto p out wrong_room out
read_stopped p out h =
    let t = as_both out (stopped (answer_of p) out h) in
    (answer_of p, answered p, t.0, t.1)

-- a page as the reader gives it, in bytes
abbrev pub told_bytes : Answer Page → Answer (List ℕ)
told_bytes (refused n) = refused n
told_bytes (given page) = given (page.count ∷ bytes_of page.programmes)

same_bytes : (a : Answer (List Programme)) → told_bytes (paged a) ≡ in_bytes a
unfolding page_of page_bytes
same_bytes (refused n) = refl
same_bytes (given qs) = refl

pub read_through : (p out : List ℕ) (r : Result Page Refusal) → ReadAs p r → length out ≡ 385 → {n : ℕ} {left : List ℕ} →
    n ≡ number (told_bytes (reading_answer r)) → left ≡ after out (told_bytes (reading_answer r)) → ReadInto p out n left
read_through p out r (a, v, e) h f g =
    let t = as_both out (ap told_bytes e ∙ same_bytes a ∙ through a out h) in
    (a, v, f ∙ t.0, g ∙ t.1)

-- a page has at most 24 programmes
abbrev count_in : Answer Page → ℕ
count_in (refused n) = 0
count_in (given page) = page.count

few : (p : List ℕ) (a : Answer (List Programme)) → Answers p a → count_in (paged a) ≤ 24
unfolding page_of
few p (refused n) v = omega arith
few p (given qs) v = at_most_24 p qs v

pub read_few : (p : List ℕ) {r : Result Page Refusal} {page : Page} → ReadAs p r → r ≡ Ok page → page.count ≤ 24
read_few p (a, v, e) k = omega (arith, few p a v, ap count_in (sym (ap reading_answer k) ∙ e))
