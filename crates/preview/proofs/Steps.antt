-- A row taken one code at a time: what is left of it makes the same, from what is held on, as the whole row from the start.
use Prim.Native.Nat.{ℕ, suc, ◌+◌, ◌*◌, ◌<◌}
use mathlib.Core.Path.{◌≡◌, refl, sym, ap, ◌∙◌}
use mathlib.Core.Bool.{Bool, true, false, not, ◌&&◌, ◌||◌, or-false}
use mathlib.Core.List.{List, [], ◌∷◌}
use native.Mathlib.Omega.{arith}
use borrow.Author.Tests.{not-false}
use lib.Dec.{ltb}
use lib.ListN.{length, get_or, drop}
use Rattle.answer.proofs.Cases.{by_test, both_false}
use Rattle.codes.specs.Codes.{is_mark}
use Rattle.formats.specs.Taken.{is_text}
use Rattle.figures.specs.declared.Found.{Found}
use Rattle.rows.specs.declared.Row.{Row}
use Rattle.rows.specs.Title.{is_opening, begins_pair}
use Rattle.rows.specs.Taken.{kind_here, found_here, titled_by, title_here, is_text_value, row_next, row_after, row_start}
use Rattle.rows.proofs.Values.{text_value}
use Rattle.table.specs.declared.Table.{Table}
use Rattle.table.specs.Table.{with_code}
use Rattle.preview.specs.Page.{row_of}
use Rattle.preview.specs.Rows.{with_given_out, with_end, taken_from, row_taken}
use Rattle.preview.proofs.Codes.{row_from, row_end}

-- ── the loop ───────────────────────────────────────────────────────────────────────────────────────────────────────
pub record Taking (page : List ℕ) (r : ℕ) (was held : Table) (x : Row) (p : ℕ) : Type 0 where
  pub column : x.column < 40
  pub rest : taken_from r held x p (drop p (row_of page r)) ≡ row_taken r was (row_of page r)

pub taking_none : (page : List ℕ) (r : ℕ) (was : Table) (x : Row) → x ≡ row_start → Taking page r was was x 0
unfolding row_taken
taking_none page r was x e = record { column = rw e (omega arith); rest = rw e refl }

-- what is given out at an end, as it is told
end_is : (r : ℕ) (held : Table) (x : Row) (end pair : Bool) (f : Found) (text titled : Bool) → f ≡ found_here x end → text ≡ is_text_value f.value → titled ≡ titled_by x pair text →
    with_given_out held r x.column titled text f ≡ with_end held r x end pair
unfolding with_end title_here
end_is r held x end pair f text titled e g t =
    let known : text ≡ is_text (kind_here x end) = g ∙ ap (λ (y : Found). is_text_value y.value) e ∙ text_value x end in
    rw (t, known, e) refl

next_row : (x : Row) (c p : ℕ) (pair : Bool) (f : Found) (text : Bool) → f ≡ found_here x (is_mark c) → text ≡ is_text_value f.value →
    row_next x c p pair text ≡ row_after x c p pair
unfolding row_after
next_row x c p pair f text e g =
    ap (row_next x c p pair) (g ∙ ap (λ (y : Found). is_text_value y.value) e ∙ text_value x (is_mark c))

column_within : (x : Row) (c p : ℕ) (pair text : Bool) → x.column < 40 → p < 40 → (row_next x c p pair text).column < 40
unfolding row_next
column_within x c p pair text h k = by_test (pair && is_opening x.colour c) (λ t. rw t k) (λ t. rw t h)

ap_less : {x y : Row} → x ≡ y → x.column < 40 → y.column < 40
ap_less e h = rw (sym e) h

-- what is given out is entered, and then the code; where nothing is given out and the code is one of the seven-bit codes the table stays as it is
pub entered : {given coded next : Table} (s : Table) (r column c : ℕ) (titled text : Bool) (f : Found) → given ≡ with_given_out s r column titled text f →
    coded ≡ with_code given c → next ≡ coded → next ≡ with_code (with_given_out s r column titled text f) c
entered s r column c titled text f e g h = h ∙ g ∙ ap (λ (t : Table). with_code t c) e

pub untouched : (s : Table) (r column c : ℕ) (titled text : Bool) (f : Found) → (titled || (not text || ltb 127 c)) ≡ false →
    s ≡ with_code (with_given_out s r column titled text f) c
unfolding with_given_out with_code
untouched s r column c titled text f e =
    let tests = both_false titled (not text || ltb 127 c) e in
    let others = both_false (not text) (ltb 127 c) tests.1 in
    rw (tests.0, not-false text others.0, others.1, or-false s.high) refl

pub taking_more : (page : List ℕ) (r p : ℕ) {was held : Table} {x : Row} → length page ≡ 960 → r < 24 → p < 40 → Taking page r was held x p →
    (c : ℕ) (pair text titled : Bool) (f : Found) (next : Table) (y : Row) → c ≡ get_or page (40 * r + p) 0 → pair ≡ begins_pair (drop p (row_of page r)) →
    f ≡ found_here x (is_mark c) → text ≡ is_text_value f.value → titled ≡ titled_by x pair text →
    next ≡ with_code (with_given_out held r x.column titled text f) c → y ≡ row_next x c p pair text → Taking page r was next y (p + 1)
unfolding taken_from
taking_more page r p {was} {held} {x} l h k s c pair text titled f next y ec ep ef et ed en ey =
    let others = drop (suc p) (row_of page r) in
    let codes : drop p (row_of page r) ≡ c ∷ others = row_from page r p l h k ∙ ap (λ (d : ℕ). d ∷ others) (sym ec) in
    let pairs : pair ≡ begins_pair (c ∷ others) = ep ∙ ap begins_pair codes in
    let given_out : with_given_out held r x.column titled text f ≡ with_end held r x (is_mark c) (begins_pair (c ∷ others))
    = end_is r held x (is_mark c) pair f text titled ef et ed ∙ ap (with_end held r x (is_mark c)) pairs in
    let table : next ≡ with_code (with_end held r x (is_mark c) (begins_pair (c ∷ others))) c = en ∙ ap (λ (t : Table). with_code t c) given_out in
    let row : y ≡ row_after x c p (begins_pair (c ∷ others)) = ey ∙ next_row x c p pair f text ef et ∙ ap (row_after x c p) pairs in
    let on : p + 1 ≡ suc p = omega arith in
    rw on
    record {
      column = ap_less (sym ey) (column_within x c p pair text s.column k);
      rest = rw (table, row) (ap (taken_from r held x p) (sym codes) ∙ s.rest);
    }

pub taking_end : (page : List ℕ) (r : ℕ) {was held : Table} {x : Row} → length page ≡ 960 → r < 24 → (p : ℕ) → p ≡ 40 → Taking page r was held x p →
    (text titled : Bool) (f : Found) (given : Table) → f ≡ found_here x true → text ≡ is_text_value f.value → titled ≡ titled_by x true text →
    given ≡ with_given_out held r x.column titled text f → given ≡ row_taken r was (row_of page r)
unfolding taken_from
taking_end page r {was} {held} {x} l h p e s text titled f given ef et ed eg =
    let none : drop p (row_of page r) ≡ [] = rw e (row_end page r l h) in
    eg ∙ end_is r held x true true f text titled ef et ed ∙ ap (taken_from r held x p) (sym none) ∙ s.rest
