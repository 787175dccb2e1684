-- What is given out of a row, one code at a time, is what is found by looking ahead. Open figures and a title being read are not yet
-- given out: what they become, with what is to come, stands before what the codes to come contain.
use Prim.Native.Nat.{ℕ, suc, ◌+◌, ◌≤◌, ◌<◌}
use mathlib.Core.Path.{◌≡◌, refl, sym, ap, ◌∙◌}
use mathlib.Core.Bool.{Bool, true, false, cond, not, ◌&&◌, ◌||◌, true≢false, or-false, or-true, and-false, and_assoc}
use mathlib.Core.List.{List, [], ◌∷◌, ◌++◌, append-nil, append_assoc}
use native.Mathlib.Omega.{arith}
use borrow.Author.Tests.{leb-true, leb-false, ltb-true, le-leb, lt-leb, lt-ltb}
use lib.Dec.{leb, ltb}
use lib.ListN.{length, take, set, length-append, length-set}
use lib.Seq.{length-take-le, take-suc-set}
use Rattle.answer.proofs.Cases.{by_test, both_true}
use Rattle.codes.specs.declared.Colour.{Colour}
use Rattle.codes.specs.declared.Colour.TheVariants as colour
use Rattle.codes.specs.Codes.{is_mark, colour_by}
use Rattle.formats.specs.declared.Kind.TheVariants as kind
use Rattle.formats.specs.declared.Start.{Start}
use Rattle.formats.specs.Formats.{start_of, pattern, figures_by}
use Rattle.formats.specs.Taken.{is_text, own_codes, kind_in, kind_from}
use Rattle.formats.proofs.Standing.{until, kind_at, fits_length, kind_fits, many_text, no_start, nothing_text}
use Rattle.rows.specs.declared.Reading.{Reading}
use Rattle.rows.specs.declared.Reading.TheVariants.{Nothing, Opened, Empty, Filled, Done}
use Rattle.rows.specs.declared.Row.{Row}
use Rattle.rows.specs.Title.{is_opening, is_forbidden, begins_pair}
use Rattle.rows.specs.Row.{Content, format, title}
use Rattle.rows.specs.Taken.{kind_here, is_filled, title_here, advanced, begun, is_done, kept, title_next, column_next, count_after, row_next, row_after, row_start, given_here, given_from, row_given}
use Rattle.rows.proofs.Ahead.{ends, title_at, contents}

-- ── the codes since a mark ─────────────────────────────────────────────────────────────────────────────────────────
-- n and the codes kept are those of a segment
pub data Holds (n : ℕ) (codes segment : List ℕ) : Type 0 where
  few : n ≤ 11 → length codes ≡ 11 → segment ≡ take n codes → Holds n codes segment
  many : 11 < n → length codes ≡ 11 → 11 < length segment → Holds n codes segment

held_kind : (s : Start) (n : ℕ) (codes segment : List ℕ) → Holds n codes segment → kind_from s n codes ≡ kind_in s segment
unfolding kind_from
held_kind s n codes segment (few h l e) = rw (le-leb n 11 h, e) refl
held_kind s n codes segment (many h l m) = rw (lt-leb n 11 h, many_text s segment m) refl

held_codes : (s : Start) (n : ℕ) (codes segment : List ℕ) → Holds n codes segment → is_text (kind_in s segment) ≡ false →
    own_codes (kind_in s segment) codes ≡ segment
held_codes s n codes segment (few h l e) f =
    let size : length segment ≡ n = ap length e ∙ length-take-le n codes (omega (arith, h, l)) in
    let whole : length (pattern (kind_in s segment)) ≡ n = sym (fits_length (pattern (kind_in s segment)) segment (kind_fits s segment f)) ∙ size in
    rw whole (sym e)
held_codes s n codes segment (many h l m) f = absurd (true≢false (rw (many_text s segment m) at f))

held_more : (n c : ℕ) (codes segment : List ℕ) → Holds n codes segment → Holds (count_after n) (set codes n c) (segment ++ (c ∷ []))
held_more n c codes segment (few h l e) =
    rw (lt-ltb n 12 (omega (arith, h)))
    (by_test (leb n 10)
    (λ t. few (omega (arith, leb-true n 10 t)) (length-set codes n c ∙ l)
    (ap (λ (xs : List ℕ). xs ++ (c ∷ [])) e ∙ sym (take-suc-set codes n c (omega (arith, l, leb-true n 10 t)))))
    (λ t. many (omega (arith, leb-false n 10 t)) (length-set codes n c ∙ l)
    (omega (arith, leb-false n 10 t, length-append segment (c ∷ []), ap length e, length-take-le n codes (omega (arith, h, l))))))
held_more n c codes segment (many h l m) =
    by_test (ltb n 12)
    (λ t. absurd (omega (arith, h, ltb-true n 12 t)))
    (λ t. rw t (many h (length-set codes n c ∙ l) (omega (arith, m, length-append segment (c ∷ [])))))

-- ── what is not yet given out ──────────────────────────────────────────────────────────────────────────────────────
-- of a text after a start, a title in whose column it ends or not, and whether the row has had one
abbrev pending_of : ℕ → Start → List ℕ → Bool → ℕ → List Content
pending_of row b text e column =
    cond (is_text (kind_in b text)) (cond e (title row (2 + column) ∷ []) []) (format (kind_in b text) (figures_by (pattern (kind_in b text)) text) ∷ [])

abbrev had_of : Start → List ℕ → Bool → Bool → Bool
had_of b text e done = done || (is_text (kind_in b text) && e)

-- what is to be given out of a row: what is pending, and what the codes to come contain
abbrev to_come : ℕ → Start → List ℕ → Reading → Colour → ℕ → ℕ → List ℕ → List Content
to_come row b segment t k column p cs =
    pending_of row b (segment ++ until cs) (ends t k cs) column
    ++ contents row (had_of b (segment ++ until cs) (ends t k cs) (is_done t)) k p cs

-- at an end
given_end : (row : ℕ) (s : Row) (segment : List ℕ) (pair : Bool) → Holds s.count s.codes segment →
    given_here row s true pair ≡ pending_of row s.start segment (pair && is_filled s.title) s.column
unfolding given_here title_here kind_here
given_end row s segment pair h =
    let k : kind_from s.start s.count s.codes ≡ kind_in s.start segment = held_kind s.start s.count s.codes segment h in
    by_test (is_text (kind_in s.start segment))
    (λ t. rw (k, t) refl)
    (λ t. rw (k, t, held_codes s.start s.count s.codes segment h t) refl)

-- ── titles ─────────────────────────────────────────────────────────────────────────────────────────────────────────
third_false : (a b c : Bool) → c ≡ false → (a && (b && c)) ≡ false
third_false true true c e = e
third_false true false c e = refl
third_false false b c e = refl

ends_nothing : (k : Colour) (cs : List ℕ) → ends Nothing k cs ≡ false
unfolding ends
ends_nothing k [] = refl
ends_nothing k (c ∷ cs) =
    by_test (begins_pair (c ∷ cs)) (λ t. rw t refl) (λ t. rw t (third_false (not (is_forbidden c)) (is_text (kind_at k (c ∷ cs))) _ (ends_nothing (colour_by k c) cs)))

ends_done : (k : Colour) (cs : List ℕ) → ends Done k cs ≡ false
unfolding ends
ends_done k [] = refl
ends_done k (c ∷ cs) =
    by_test (begins_pair (c ∷ cs)) (λ t. rw t refl) (λ t. rw t (third_false (not (is_forbidden c)) (is_text (kind_at k (c ∷ cs))) _ (ends_done (colour_by k c) cs)))

-- one that is dropped does not end as a title
kept_ends : (t : Reading) (f : Bool) (k : Colour) (cs : List ℕ) → ends (kept t f) k cs ≡ (not f && ends (advanced t) k cs)
kept_ends t false k cs = refl
kept_ends t true k cs = by_test (is_done t) (λ d. rw d (ends_done k cs)) (λ d. rw d (ends_nothing k cs))

kept_done : (t : Reading) (f : Bool) → is_done (kept t f) ≡ is_done t
kept_done Nothing true = refl
kept_done Nothing false = refl
kept_done Opened true = refl
kept_done Opened false = refl
kept_done Empty true = refl
kept_done Empty false = refl
kept_done Filled true = refl
kept_done Filled false = refl
kept_done Done true = refl
kept_done Done false = refl

-- after a mark nothing is pending but what it begins
fresh : (row : ℕ) (had opens : Bool) (k : Colour) (p c : ℕ) (cs : List ℕ) (column : ℕ) → (begins_pair (c ∷ cs) && is_opening k c) ≡ opens →
    (opens ≡ true → column ≡ p) →
    to_come row (start_of k c) [] (begun had opens) (colour_by k c) column (suc p) cs ≡ contents row had k p (c ∷ cs)
unfolding contents title_at
fresh row true opens k p c cs column o h =
    by_test (is_text (kind_at k (c ∷ cs)))
    (λ t. rw (t, ends_done (colour_by k c) cs) refl)
    (λ t. rw t refl)
fresh row false true k p c cs column o h =
    let b = both_true (begins_pair (c ∷ cs)) (is_opening k c) o in
    by_test (is_text (kind_at k (c ∷ cs)))
    (λ t. by_test (ends Opened (colour_by k c) cs)
    (λ e. rw (t, b.0, b.1, e, h refl) refl)
    (λ e. rw (t, b.0, b.1, e) refl))
    (λ t. rw t refl)
fresh row false false k p c cs column o h =
    by_test (is_text (kind_at k (c ∷ cs)))
    (λ t. rw (t, ends_nothing (colour_by k c) cs, sym (and_assoc (begins_pair (c ∷ cs)) (is_opening k c) (ends Opened (colour_by k c) cs)), o) refl)
    (λ t. rw t refl)

-- ── one code ───────────────────────────────────────────────────────────────────────────────────────────────────────
pub no_pair : (c : ℕ) (cs : List ℕ) → is_mark c ≡ false → begins_pair (c ∷ cs) ≡ false
no_pair c [] m = refl
no_pair c (d ∷ cs) m = rw m refl

no_kind : (k : Colour) (c : ℕ) (cs : List ℕ) → is_mark c ≡ false → kind_at k (c ∷ cs) ≡ kind.Text
no_kind k c cs m = rw (no_start k c m) (nothing_text (until cs))

-- where no title begins and no format does, a code contains nothing
passed : (row : ℕ) (had : Bool) (k : Colour) (p c : ℕ) (cs : List ℕ) → is_text (kind_at k (c ∷ cs)) ≡ true → begins_pair (c ∷ cs) ≡ false →
    contents row had k p (c ∷ cs) ≡ contents row had (colour_by k c) (suc p) cs
unfolding contents title_at
passed row had k p c cs t b = rw (t, b, and-false (not had)) refl

-- where a format begins, it comes first
format_first : (row : ℕ) (had : Bool) (k : Colour) (p c : ℕ) (cs : List ℕ) → is_text (kind_at k (c ∷ cs)) ≡ false →
    contents row had k p (c ∷ cs)
    ≡ format (kind_at k (c ∷ cs)) (figures_by (pattern (kind_at k (c ∷ cs))) (until cs)) ∷ contents row had (colour_by k c) (suc p) cs
unfolding contents
format_first row had k p c cs t = rw t refl

-- the row after a code that is no mark, and after a mark
abbrev after_plain : Row → ℕ → Row
after_plain s c = record {
  colour = colour_by s.colour c;
  start = s.start;
  count = count_after s.count;
  codes = set s.codes s.count c;
  title = kept s.title (is_forbidden c);
  column = s.column;
}

abbrev after_mark : Row → ℕ → Reading → ℕ → Row
after_mark s c t column = record {
  colour = colour_by s.colour c;
  start = start_of s.colour c;
  count = 0;
  codes = s.codes;
  title = t;
  column = column;
}

-- the title after a mark, by the format that it ends
abbrev title_by : Row → ℕ → Bool → Reading
title_by s c pair = title_next s c pair (is_text (kind_here s (is_mark c)))

plain_row : (s : Row) (c p : ℕ) → is_mark c ≡ false → row_after s c p false ≡ after_plain s c
unfolding row_after row_next kind_here
plain_row s c p m = rw (m, or-false (is_forbidden c)) refl

mark_row : (s : Row) (c p : ℕ) (pair : Bool) → is_mark c ≡ true → row_after s c p pair ≡ after_mark s c (title_by s c pair) (column_next s c pair p)
unfolding row_after row_next
mark_row s c p pair m = rw m refl

-- a title after a mark: where a format has just been given out, after a pair, and otherwise
module _ (s : Row) (c : ℕ) (segment : List ℕ) (m : is_mark c ≡ true) (h : Holds s.count s.codes segment) where
  kind_known : kind_here s (is_mark c) ≡ kind_in s.start segment
  unfolding kind_here
  kind_known = rw m (held_kind s.start s.count s.codes segment h)

  after_format_lem : (pair : Bool) → is_text (kind_in s.start segment) ≡ false → title_by s c pair ≡ begun (is_done s.title) (pair && is_opening s.colour c)
  after_format_lem true e = rw (kind_known, e, or-false (is_done s.title)) refl
  after_format_lem false e = rw (kind_known, e, or-true (is_forbidden c)) refl

  after_pair : is_text (kind_in s.start segment) ≡ true → title_by s c true ≡ begun (is_done s.title || is_filled s.title) (is_opening s.colour c)
  after_pair e = rw (kind_known, e) refl

  after_single_lem : is_text (kind_in s.start segment) ≡ true → title_by s c false ≡ kept s.title (is_forbidden c)
  after_single_lem e = rw (kind_known, e, or-false (is_forbidden c)) refl

-- the same text, end and title before it give the same
alike : (row : ℕ) (b : Start) (k : Colour) (column p : ℕ) (cs : List ℕ) {text other : List ℕ} {e f d g : Bool} → text ≡ other → e ≡ f → d ≡ g →
    pending_of row b text e column ++ contents row (had_of b text e d) k p cs
    ≡ pending_of row b other f column ++ contents row (had_of b other f g) k p cs
alike row b k column p cs x y z = rw (x, y, z) refl

module _ (row : ℕ) (s : Row) (segment : List ℕ) (p c : ℕ) (cs : List ℕ) where
  -- the rest of the row given, from a state and its segment
  abbrev Rest : Row → List ℕ → Type 0
  Rest x seg = given_from row x (suc p) cs ≡ to_come row x.start seg x.title x.colour x.column (suc p) cs

  abbrev Whole : Type 0
  Whole = given_from row s p (c ∷ cs) ≡ to_come row s.start segment s.title s.colour s.column p (c ∷ cs)

  plain_code : is_mark c ≡ false → Rest (after_plain s c) (segment ++ (c ∷ [])) → Whole
  unfolding given_from given_here title_here kind_here until ends
  plain_code m ih =
      let pair : begins_pair (c ∷ cs) ≡ false = no_pair c cs m in
      let none : kind_at s.colour (c ∷ cs) ≡ kind.Text = no_kind s.colour c cs m in
      let step : given_from row s p (c ∷ cs) ≡ given_from row (after_plain s c) (suc p) cs = rw (pair, m, plain_row s c p m) refl in
      let text : (segment ++ (c ∷ [])) ++ until cs ≡ segment ++ until (c ∷ cs) = rw m (append_assoc segment (c ∷ []) (until cs)) in
      let title-ends : ends (kept s.title (is_forbidden c)) (colour_by s.colour c) cs ≡ ends s.title s.colour (c ∷ cs) =
      rw (pair, none) (kept_ends s.title (is_forbidden c) (colour_by s.colour c) cs) in
      step
      ∙ ih
      ∙ alike row s.start (colour_by s.colour c) s.column (suc p) cs text title-ends (kept_done s.title (is_forbidden c))
      ∙ ap (λ (xs : List Content). pending_of row s.start (segment ++ until (c ∷ cs)) (ends s.title s.colour (c ∷ cs)) s.column ++ xs)
      (sym (passed row _ s.colour p c cs (ap is_text none) pair))

  -- after a mark where no pair begins, and no format ends
  single_mark : is_text (kind_in s.start segment) ≡ true → begins_pair (c ∷ cs) ≡ false →
      to_come row (start_of s.colour c) [] (kept s.title (is_forbidden c)) (colour_by s.colour c) s.column (suc p) cs
      ≡ pending_of row s.start segment (ends s.title s.colour (c ∷ cs)) s.column
      ++ contents row (had_of s.start segment (ends s.title s.colour (c ∷ cs)) (is_done s.title)) s.colour p (c ∷ cs)
  unfolding ends
  single_mark e pair =
      let done : is_done (kept s.title (is_forbidden c)) ≡ is_done s.title = kept_done s.title (is_forbidden c) in
      let title-ends : ends (kept s.title (is_forbidden c)) (colour_by s.colour c) cs
      ≡ (not (is_forbidden c) && ends (advanced s.title) (colour_by s.colour c) cs)
      = kept_ends s.title (is_forbidden c) (colour_by s.colour c) cs in
      by_test (is_text (kind_at s.colour (c ∷ cs)))
      (λ t. rw (e, pair, t, done, title-ends)
      (ap
      (λ (xs : List Content). cond (not (is_forbidden c) && ends (advanced s.title) (colour_by s.colour c) cs) (title row (2 + s.column) ∷ []) [] ++ xs)
      (sym (passed row (is_done s.title || (not (is_forbidden c) && ends (advanced s.title) (colour_by s.colour c) cs)) s.colour p c cs t pair))))
      (λ t. rw (e, pair, t, done, and-false (not (is_forbidden c)), or-false (is_done s.title)) (sym (format_first row _ s.colour p c cs t)))

  marked_code : is_mark c ≡ true → Holds s.count s.codes segment →
      ((t : Reading) (column : ℕ) → Rest (after_mark s c t column) []) → Whole
  unfolding given_from until ends
  marked_code m h ih = step ∙ by_test (is_text (kind_in s.start segment)) text format_ends ∙ last
    where
      pair : Bool
      pair = begins_pair (c ∷ cs)

      opens : Bool
      opens = pair && is_opening s.colour c

      at : ℕ
      at = column_next s c pair p

      before : List Content
      before = pending_of row s.start segment (pair && is_filled s.title) s.column

      after : Reading → ℕ → List Content
      after t column = to_come row (start_of s.colour c) [] t (colour_by s.colour c) column (suc p) cs

      given_out : given_here row s (is_mark c) pair ≡ before
      given_out = rw m (given_end row s segment pair h)

      others : given_from row (row_after s c p pair) (suc p) cs ≡ after (title_by s c pair) at
      others = rw (mark_row s c p pair m) (ih (title_by s c pair) at)

      step : given_from row s p (c ∷ cs) ≡ before ++ after (title_by s c pair) at
      step =
          ap (λ (xs : List Content). xs ++ given_from row (row_after s c p pair) (suc p) cs) given_out
          ∙ ap (λ (xs : List Content). before ++ xs) others

      final : List Content
      final =
          pending_of row s.start segment (ends s.title s.colour (c ∷ cs)) s.column
          ++ contents row (had_of s.start segment (ends s.title s.colour (c ∷ cs)) (is_done s.title)) s.colour p (c ∷ cs)

      last : final ≡ to_come row s.start segment s.title s.colour s.column p (c ∷ cs)
      last = alike row s.start s.colour s.column p (c ∷ cs) {e = ends s.title s.colour (c ∷ cs)} {d = is_done s.title} (rw m (sym (append-nil segment))) refl refl

      -- a title that the mark may begin, the row having had one or not
      begins : (had : Bool) → title_by s c pair ≡ begun had opens → before ++ after (title_by s c pair) at ≡ before ++ contents row had s.colour p (c ∷ cs)
      begins had e =
          ap (λ (t : Reading). before ++ after t at) e
          ∙ ap (λ (xs : List Content). before ++ xs) (fresh row had opens s.colour p c cs at refl (λ o. rw o refl))

      format_ends : is_text (kind_in s.start segment) ≡ false → before ++ after (title_by s c pair) at ≡ final
      format_ends t = begins (is_done s.title) (after_format_lem s c segment m h pair t) ∙ rw (t, or-false (is_done s.title)) refl

      text : is_text (kind_in s.start segment) ≡ true → before ++ after (title_by s c pair) at ≡ final
      text t =
          by_test pair
          (λ q. begins (is_done s.title || is_filled s.title) (rw q (after_pair s c segment m h t)) ∙ rw (t, q) refl)
          (λ q.
          let single : title_by s c pair ≡ kept s.title (is_forbidden c) = rw q (after_single_lem s c segment m h t) in
          let none : before ≡ [] = rw (t, q) refl in
          let same : at ≡ s.column = rw q refl in
          rw (single, none, same) (single_mark t q))

pub given_is : (cs : List ℕ) (row : ℕ) (s : Row) (p : ℕ) (segment : List ℕ) → Holds s.count s.codes segment →
    given_from row s p cs ≡ to_come row s.start segment s.title s.colour s.column p cs
unfolding given_from until ends contents
given_is [] row s p segment h = given_end row s segment true h ∙ rw (append-nil segment) (sym (append-nil _))
given_is (c ∷ cs) row s p segment h =
    by_test (is_mark c)
    (λ m. marked_code row s segment p c cs m h (λ t column. given_is cs row (after_mark s c t column) (suc p) [] (held_none s.codes (held_length h))))
    (λ m. plain_code row s segment p c cs m (given_is cs row (after_plain s c) (suc p) (segment ++ (c ∷ [])) (held_more s.count c s.codes segment h)))
  where
    held_length : {n : ℕ} {codes seg : List ℕ} → Holds n codes seg → length codes ≡ 11
    held_length (few a l e) = l
    held_length (many a l e) = l

    held_none : (codes : List ℕ) → length codes ≡ 11 → Holds 0 codes []
    held_none codes l = few (omega arith) l refl

-- ── the row ────────────────────────────────────────────────────────────────────────────────────────────────────────
pub row_given_lem : (row : ℕ) (codes : List ℕ) → row_given row codes ≡ contents row false colour.Plain 0 codes
unfolding row_given
row_given_lem row codes =
    given_is codes row row_start 0 [] (few (omega arith) refl refl)
    ∙ rw (nothing_text (until codes), ends_nothing colour.Plain codes) refl
