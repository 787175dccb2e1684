-- What is held of a whole page, and what it answers.
use Prim.Native.Nat.{ℕ, zero, suc, ◌+◌, ◌*◌, min, ◌≤◌}
use mathlib.Core.Path.{◌≡◌, refl, sym, ap, subst, ◌∙◌}
use mathlib.Core.Bool.{Bool, true, false, not, ◌||◌}
use mathlib.Core.List.{List, [], ◌∷◌, ◌++◌}
use native.Mathlib.Omega.{arith}
use borrow.Author.Tests.{eqb-true, eqb-false, eq-eqb, ne_eqb, not-false}
use lib.Dec.{eqb}
use lib.ListN.{length, take}
use lib.Seq.{take-add, take_all}
use Rattle.std.proofs.lemmas.List.Folds.{list_any-append}
use Rattle.std.proofs.Common.{Result, Ok, Err}
use Rattle.answer.specs.Answer.{Answer, refused, given}
use Rattle.answer.specs.Lists.{some, filled}
use Rattle.answer.proofs.Cases.{by_test, both_true, both_false}
use Rattle.rows.specs.Row.{Content}
use Rattle.rows.specs.Taken.{row_start, row_given}
use Rattle.announced.specs.declared.Announcement.{Announcement}
use Rattle.announced.specs.declared.Stage.TheVariants.{First}
use Rattle.announced.specs.Times.{times_in}
use Rattle.announced.specs.Taken as times
use Rattle.announced.proofs.Read as announces
use Rattle.originals.specs.declared.Original.{Original}
use Rattle.originals.specs.Data.{data_in}
use Rattle.originals.specs.Taken as carried
use Rattle.table.specs.declared.Table.{Table}
use Rattle.table.specs.Table.{most, no_announcement, no_original, agreed, table_start}
use Rattle.preview.specs.declared.Programme.{Programme}
use Rattle.preview.specs.declared.Page.{Page}
use Rattle.preview.specs.declared.Refusal.{Refusal}
use Rattle.preview.specs.Page.{row_of, too_high, all_permitted, programmes_by, agrees, Answers}
use Rattle.preview.specs.Taken.{given_to, announced_in, originals_in, readable, answer_of, page_of, read_number, reading_answer, paged, ReadAs}
use Rattle.preview.specs.Rows.{row_taken, may_read, page_by}
use Rattle.preview.proofs.Readings.{rows_contain, whole, answered}
use Rattle.preview.proofs.Most.{marked_titles, announced_titled, rows_titled}
use Rattle.preview.proofs.Along.{is_high, table_of, row_taken_lem, start_is, words_agree}

-- ── the rows ───────────────────────────────────────────────────────────────────────────────────────────────────────
-- what is held after the first r rows
unfoldable pub held_after : List ℕ → ℕ → Table
held_after page r = table_of (some is_high (take (40 * r) page)) (given_to page r)

pub none_held : (page : List ℕ) → table_start ≡ held_after page 0
unfolding held_after given_to
none_held page = start_is

row_held : (page : List ℕ) (r : ℕ) → row_taken r (held_after page r) (row_of page r) ≡ held_after page (suc r)
unfolding held_after given_to row_taken row_given
row_held page r =
    let on : 40 * suc r ≡ 40 * r + 40 = omega arith in
    row_taken_lem (row_of page r) (some is_high (take (40 * r) page)) (given_to page r) r row_start 0
    ∙ rw (on, take-add (40 * r) 40 page, list_any-append is_high (take (40 * r) page) (row_of page r)) refl

pub row_more : (page : List ℕ) (r : ℕ) {t next : Table} → t ≡ held_after page r → next ≡ row_taken r t (row_of page r) → next ≡ held_after page (r + 1)
row_more page r e f =
    let on : r + 1 ≡ suc r = omega arith in
    f ∙ ap (λ (x : Table). row_taken r x (row_of page r)) e ∙ rw on (row_held page r)

pub last_held : (page : List ℕ) → length page ≡ 960 → held_after page 24 ≡ table_of (too_high page) (given_to page 24)
unfolding held_after too_high
last_held page l = let all : take 960 page ≡ page = take_all 960 page (omega (arith, l)) in rw all refl

-- ── it reads as programmes ─────────────────────────────────────────────────────────────────────────────────────────
same_count : (a b : ℕ) → a ≤ 24 → eqb (min 25 a) (min 25 b) ≡ eqb a b
same_count a b h =
    by_test (eqb a b)
    (λ e. let same : min 25 a ≡ min 25 b = ap (λ (n : ℕ). min 25 n) (eqb-true a b e) in eq-eqb (min 25 a) (min 25 b) same ∙ sym e)
    (λ e. ne_eqb (min 25 a) (min 25 b) (λ m. eqb-false a b e (omega (arith, h, m))) ∙ sym e)

twice_not : (t : Bool) → not (not t) ≡ t
twice_not true = refl
twice_not false = refl

-- each announcement has a title, and each row one
pub few : (page : List ℕ) → times.may_end (times.stage_from First (times_in (given_to page 24))) ≡ true → length (announced_in (given_to page 24)) ≤ 24
few page e =
    let read = announces.taken_read (times_in (given_to page 24)) e in
    let contained = rw (sym (whole page)) at (rows_contain page 24 0 refl) in
    omega (
      arith,
      announced_titled (times_in (given_to page 24)) (announced_in (given_to page 24)) read.1,
      marked_titles (given_to page 24),
      rows_titled 0 (given_to page 24) contained,
    )

pub may_read_lem : (page : List ℕ) (h : Bool) → may_read (table_of h (given_to page 24)) ≡ readable (given_to page 24)
unfolding may_read table_of readable
may_read_lem page h =
    let xs = given_to page 24 in
    by_test (times.may_end (times.stage_from First (times_in xs)))
    (λ e. rw (twice_not (all_permitted xs), e, same_count (length (announced_in xs)) (length (originals_in xs)) (few page e)) refl)
    (λ e. rw (twice_not (all_permitted xs), e) refl)

-- ── and its programmes ─────────────────────────────────────────────────────────────────────────────────────────────
take_first : {A : Type 0} (n : ℕ) (xs ys : List A) → length xs ≤ n → take (length xs) (take n (xs ++ ys)) ≡ xs
take_first n [] ys h = refl
take_first zero (x ∷ xs) ys h = absurd (omega (arith, h))
take_first {A} (suc n) (x ∷ xs) ys h = ap (λ (zs : List A). x ∷ zs) (take_first n xs ys (omega (arith, h)))

pub programmes_many : (xs : List Announcement) (os : List Original) → length xs ≡ length os → length (programmes_by xs os) ≡ length xs
programmes_many [] os e = refl
programmes_many (a ∷ xs) [] e = absurd (omega (arith, e))
programmes_many (a ∷ xs) (o ∷ os) e = ap suc (programmes_many xs os (omega (arith, e)))

pub page_given : (h : Bool) (xs : List Content) → length (announced_in xs) ≤ 24 → length (announced_in xs) ≡ length (originals_in xs) →
    page_by (table_of h xs) ≡ page_of (programmes_by (announced_in xs) (originals_in xs))
unfolding page_by table_of page_of
page_given h xs f e =
    let count : min 25 (length (announced_in xs)) ≡ length (announced_in xs) = omega (arith, f) in
    let all : take (length (announced_in xs)) (filled most no_announcement (announced_in xs)) ≡ announced_in xs = take_first 24 (announced_in xs) _ f in
    let them : take (length (announced_in xs)) (filled most no_original (originals_in xs)) ≡ originals_in xs
    = rw e (take_first 24 (originals_in xs) _ (omega (arith, e, f))) in
    rw (count, all, them, programmes_many (announced_in xs) (originals_in xs) e) refl

-- ── the answer ─────────────────────────────────────────────────────────────────────────────────────────────────────
-- a reader that gave the answer's number or programmes read it by the grammar
read_as : (page : List ℕ) (r : Result Page Refusal) (a : Answer (List Programme)) → answer_of page ≡ a → reading_answer r ≡ paged a → ReadAs page r
read_as page r a e v = (a, subst (Answers page) e (answered page), v)

pub answer_23 : (page : List ℕ) → (length page ≡ 960 → ⊥) → answer_of page ≡ refused 23
unfolding answer_of
answer_23 page n = rw (ne_eqb (length page) 960 n) refl

module _ (page : List ℕ) (l : length page ≡ 960) where
  abbrev held : Table
  held = held_after page 24

  pub answer_24 : (held.high || not (may_read held)) ≡ true → answer_of page ≡ refused 24
  unfolding answer_of table_of
  answer_24 e =
      let high : (too_high page || not (readable (given_to page 24))) ≡ true
      = ap (λ (t : Bool). too_high page || not t) (sym (may_read_lem page (too_high page))) ∙ ap (λ (x : Table). x.high || not (may_read x)) (sym (last_held page l)) ∙ e in
      rw (l, high) refl

  pub read_on : (held.high || not (may_read held)) ≡ false → (too_high page ≡ false) × (readable (given_to page 24) ≡ true)
  unfolding table_of
  read_on e =
      let both = both_false (too_high page) (not (readable (given_to page 24)))
      (ap (λ (t : Bool). too_high page || not t) (sym (may_read_lem page (too_high page))) ∙ ap (λ (x : Table). x.high || not (may_read x)) (sym (last_held page l)) ∙ e) in
      (both.0, not-false (readable (given_to page 24)) both.1)

  word_known : agreed held.words held.sum ≡ agrees (given_to page 24)
  unfolding table_of
  word_known = ap (λ (x : Table). agreed x.words x.sum) (last_held page l) ∙ words_agree (given_to page 24)

  pub answer_25 : (held.high || not (may_read held)) ≡ false → agreed held.words held.sum ≡ false → answer_of page ≡ refused 25
  unfolding answer_of
  answer_25 e w = let on = read_on e in rw (l, on.0, on.1, sym word_known ∙ w) refl

  pub answer_read : (held.high || not (may_read held)) ≡ false → agreed held.words held.sum ≡ true →
      answer_of page ≡ given (programmes_by (announced_in (given_to page 24)) (originals_in (given_to page 24)))
  unfolding answer_of
  answer_read e w = let on = read_on e in rw (l, on.0, on.1, sym word_known ∙ w) refl

  -- it has its programmes, and room for them
  counts : (held.high || not (may_read held)) ≡ false →
      (length (announced_in (given_to page 24)) ≤ 24) × (length (announced_in (given_to page 24)) ≡ length (originals_in (given_to page 24)))
  unfolding readable
  counts e =
      let xs = given_to page 24 in
      let a = both_true (all_permitted xs) _ (read_on e).1 in
      let b = both_true (times.may_end (times.stage_from First (times_in xs))) _ a.1 in
      let c = both_true (carried.may_end (carried.data_from carried.data_start (data_in xs))) (eqb (length (announced_in xs)) (length (originals_in xs))) b.1 in
      (few page b.0, eqb-true (length (announced_in xs)) (length (originals_in xs)) c.1)

  pub counted : (held.high || not (may_read held)) ≡ false → held.announcements.count ≤ 24
  unfolding table_of
  counted e =
      let n : held.announcements.count ≡ min 25 (length (announced_in (given_to page 24))) = ap (λ (x : Table). x.announcements.count) (last_held page l) in
      omega (arith, n, (counts e).0)

  pub page_read : (held.high || not (may_read held)) ≡ false →
      page_by held ≡ page_of (programmes_by (announced_in (given_to page 24)) (originals_in (given_to page 24)))
  page_read e = ap page_by (last_held page l) ∙ page_given (too_high page) (given_to page 24) (counts e).0 (counts e).1

-- ── the exits of the reader ────────────────────────────────────────────────────────────────────────────────────────
pub refused_as : (page : List ℕ) (r : Refusal) → answer_of page ≡ refused (read_number r) → ReadAs page (Err r)
refused_as page r e = read_as page (Err r) (refused (read_number r)) e refl

-- what the rows have left, and whether it reads as programmes, as it is told
pub record Rest (page : List ℕ) (t : Table) (told : Bool) : Type 0 where
  pub sized : length page ≡ 960
  pub held : t ≡ held_after page 24
  pub known : told ≡ may_read t

module _ {page : List ℕ} {t : Table} {told : Bool} (e : Rest page t told) where
  abbrev page_held : Table
  page_held = held_after page 24

  same_test : (page_held.high || not (may_read page_held)) ≡ (t.high || not told)
  same_test =
      ap (λ (x : Table). x.high || not (may_read x)) (sym e.held) ∙ ap (λ (b : Bool). t.high || not b) (sym e.known)

  pub unreadable : (t.high || not told) ≡ true → answer_of page ≡ refused 24
  unreadable u = answer_24 page e.sized (same_test ∙ u)

  pub disagreed : (t.high || not told) ≡ false → agreed t.words t.sum ≡ false → answer_of page ≡ refused 25
  disagreed u w = answer_25 page e.sized (same_test ∙ u) (ap (λ (x : Table). agreed x.words x.sum) (sym e.held) ∙ w)

  pub room : (t.high || not told) ≡ false → t.announcements.count ≤ 24
  room u = rw e.held (counted page e.sized (same_test ∙ u))

  pub read_whole : (t.high || not told) ≡ false → agreed t.words t.sum ≡ true → (told : Page) → told ≡ page_by t → ReadAs page (Ok told)
  read_whole u w told p =
      read_as page (Ok told) _ (answer_read page e.sized (same_test ∙ u) (ap (λ (x : Table). agreed x.words x.sum) (sym e.held) ∙ w))
      (ap (λ (x : Page). given x) (p ∙ ap page_by e.held ∙ page_read page e.sized (same_test ∙ u)))
