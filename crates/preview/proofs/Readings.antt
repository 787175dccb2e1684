-- What is taken of a page is its reading, and it has no other.
use Prim.Native.Nat.{ℕ, zero, suc, ◌+◌}
use mathlib.Core.Path.{◌≡◌, refl, sym, ap, subst, ◌∙◌}
use mathlib.Core.Bool.{true, false, true≢false}
use mathlib.Core.List.{List, [], ◌++◌, append-nil, append_assoc}
use native.Mathlib.Omega.{arith}
use borrow.Author.Tests.{eqb-true, eqb-false, eq-eqb, ne_eqb}
use lib.Dec.{eqb}
use lib.ListN.{length}
use Rattle.answer.specs.Answer.{Answer}
use Rattle.answer.proofs.Cases.{by_test, both_true}
use Rattle.rows.specs.Row.{Content}
use Rattle.rows.specs.Taken.{row_given}
use Rattle.rows.proofs.Proved as rows
use Rattle.announced.specs.declared.Announcement.{Announcement}
use Rattle.announced.specs.declared.Stage.TheVariants.{First}
use Rattle.announced.specs.Times.{times_in}
use Rattle.announced.specs.Taken as announced
use Rattle.announced.proofs.Read as announces
use Rattle.originals.specs.declared.Original.{Original}
use Rattle.originals.specs.Data.{data_in}
use Rattle.originals.specs.Taken as originals
use Rattle.originals.proofs.Read as gives
use Rattle.preview.specs.declared.Programme.{Programme}
use Rattle.preview.specs.Page.{row_of, too_high, RowsContain, end, row, all_permitted, Reading, Reads, agrees, Answers, wrong_length, no_reading, wrong_word, read}
use Rattle.preview.specs.Taken.{given_to, announced_in, originals_in, readable, answer_of}

-- ── the rows ───────────────────────────────────────────────────────────────────────────────────────────────────────
-- what is given out of n rows from row r on
unfoldable pub given_rows : List ℕ → ℕ → ℕ → List Content
given_rows page r zero = []
given_rows page r (suc n) = row_given r (row_of page r) ++ given_rows page (suc r) n

given_more : (page : List ℕ) (r n : ℕ) → given_to page (r + n) ≡ given_to page r ++ given_rows page r n
unfolding given_to given_rows
given_more page r zero = let same : r + 0 ≡ r = omega arith in rw same (sym (append-nil (given_to page r)))
given_more page r (suc n) =
    let on : r + suc n ≡ suc r + n = omega arith in
    ap (given_to page) on
    ∙ given_more page (suc r) n
    ∙ append_assoc (given_to page r) (row_given r (row_of page r)) (given_rows page (suc r) n)

pub rows_contain : (page : List ℕ) (n r : ℕ) → r + n ≡ 24 → RowsContain page r (given_rows page r n)
unfolding given_rows
rows_contain page zero r e = let last : r ≡ 24 = omega (arith, e) in rw last end
rows_contain page (suc n) r e =
    row {r = r} (omega (arith, e)) ((rows.laws).given_contained r (row_of page r)) (rows_contain page n (suc r) (omega (arith, e)))

contained_rows : (page : List ℕ) (n r : ℕ) (xs : List Content) → r + n ≡ 24 → RowsContain page r xs → xs ≡ given_rows page r n
unfolding given_rows
contained_rows page zero r xs e end = refl
contained_rows page (suc n) r xs e end = absurd (omega (arith, e))
contained_rows page zero r xs e (row h w v) = absurd (omega (arith, e, h))
contained_rows page (suc n) r xs e (row {xs = ys} {ys = zs} h w v) =
    rw ((rows.laws).contained_given r (row_of page r) ys w, contained_rows page n (suc r) zs (omega (arith, e)) v) refl

-- ── the reading ────────────────────────────────────────────────────────────────────────────────────────────────────
abbrev taken : List Content → Reading
taken xs = record { contents = xs; announced = announced_in xs; originals = originals_in xs }

alike : {c d : List Content} {a b : List Announcement} {o p : List Original} → c ≡ d → a ≡ b → o ≡ p →
    ◌≡◌ {A = Reading} (record { contents = c; announced = a; originals = o }) (record { contents = d; announced = b; originals = p })
alike x y z = rw (x, y, z) refl

module _ (page : List ℕ) where
  abbrev pub all : List Content
  all = given_to page 24

  pub whole : all ≡ given_rows page 0 24
  unfolding given_to
  whole = given_more page 0 24

  reading_is : (r : Reading) → Reads page r → r ≡ taken all
  reading_is r w =
      let contents : r.contents ≡ all = contained_rows page 24 0 r.contents refl w.contain ∙ sym whole in
      let announces : r.announced ≡ announced_in all =
      (announces.read_taken (times_in r.contents) w.next r.announced w.times).1 ∙ ap announced_in contents in
      let gives : r.originals ≡ originals_in all =
      (gives.read_taken (data_in r.contents) r.originals w.data_read).1 ∙ ap originals_in contents in
      alike contents announces gives

  reading_readable : (r : Reading) → Reads page r → readable all ≡ true
  unfolding readable
  reading_readable r w =
      let v : Reads page (taken all) = subst (Reads page) (reading_is r w) w in
      rw (
        v.figures,
        (announces.read_taken (times_in all) v.next (announced_in all) v.times).0,
        (gives.read_taken (data_in all) (originals_in all) v.data_read).0,
        eq-eqb (length (announced_in all)) (length (originals_in all)) v.as_many,
      ) refl

  readable_reading : too_high page ≡ false → readable all ≡ true → Reads page (taken all)
  unfolding readable
  readable_reading h e =
      let a = both_true (all_permitted all) _ e in
      let b = both_true (announced.may_end (announced.stage_from First (times_in all))) _ a.1 in
      let c = both_true (originals.may_end (originals.data_from originals.data_start (data_in all))) (eqb (length (announced_in all)) (length (originals_in all))) b.1 in
      let announces = announces.taken_read (times_in all) b.0 in
      record {
        codes = h;
        contain = rw whole (rows_contain page 24 0 refl);
        figures = a.0;
        next = (announces).0;
        times = (announces).1;
        data_read = gives.taken_read (data_in all) c.0;
        as_many = eqb-true (length (announced_in all)) (length (originals_in all)) c.1;
      }

pub one_reading : (page : List ℕ) (r s : Reading) → Reads page r → Reads page s → r ≡ s
one_reading page r s v w = reading_is page r v ∙ sym (reading_is page s w)

-- ── the answer ─────────────────────────────────────────────────────────────────────────────────────────────────────
pub answer_is : (page : List ℕ) (a : Answer (List Programme)) → Answers page a → a ≡ answer_of page
unfolding answer_of
answer_is page a (wrong_length n) = rw (ne_eqb (length page) 960 n) refl
answer_is page a (no_reading n w) =
    by_test (too_high page)
    (λ h. rw (n, h) refl)
    (λ h. by_test (readable (all page)) (λ e. absurd (w (taken (all page)) (readable_reading page h e))) (λ e. rw (n, h, e) refl))
answer_is page a (wrong_word r n w e) =
    let same = reading_is page r w in
    rw (n, w.codes, reading_readable page r w, ap (λ (x : Reading). agrees x.contents) (sym same) ∙ e) refl
answer_is page a (read r n w e) =
    let same = reading_is page r w in
    rw (n, w.codes, reading_readable page r w, ap (λ (x : Reading). agrees x.contents) (sym same) ∙ e, same) refl

pub one_answer : (page : List ℕ) (a b : Answer (List Programme)) → Answers page a → Answers page b → a ≡ b
one_answer page a b v w = answer_is page a v ∙ sym (answer_is page b w)

pub answered : (page : List ℕ) → Answers page (answer_of page)
unfolding answer_of
answered page = by_test (eqb (length page) 960) (λ n. sized n (eqb-true (length page) 960 n)) (λ n. rw n (wrong_length (eqb-false (length page) 960 n)))
  where
    worded : eqb (length page) 960 ≡ true → Reads page (taken (all page)) → readable (all page) ≡ true → Answers page (answer_of page)
    worded n w e =
        by_test (agrees (all page))
        (λ a. rw (n, w.codes, e, a) (read (taken (all page)) (eqb-true (length page) 960 n) w a))
        (λ a. rw (n, w.codes, e, a) (wrong_word (taken (all page)) (eqb-true (length page) 960 n) w a))

    sized : eqb (length page) 960 ≡ true → length page ≡ 960 → Answers page (answer_of page)
    sized n l =
        by_test (too_high page)
        (λ h. rw (n, h) (no_reading l (λ r w. true≢false (sym h ∙ w.codes))))
        (λ h.
        by_test (readable (all page))
        (λ e. worded n (readable_reading page h e) e)
        (λ e. rw (n, h, e) (no_reading l (λ r w. true≢false (sym (reading_readable page r w) ∙ e)))))
