-- A page taken one code at a time holds what has been given out of it so far.
use Prim.Native.Nat.{ℕ, suc, ◌+◌, ◌%◌, min, ◌≤◌}
use mathlib.Core.Path.{◌≡◌, refl, sym, ap, ◌∙◌}
use mathlib.Core.Bool.{Bool, true, false, not, ◌&&◌, ◌||◌, or-false, or_assoc, and-true}
use mathlib.Core.List.{List, [], ◌∷◌, ◌++◌, append-nil, append_assoc}
use native.Mathlib.Omega.{arith}
use borrow.Author.Tests.{ltb-true, ltb-false, eqb-true, eqb-false}
use lib.Dec.{ltb, eqb}
use lib.ListN.{length, set, replicate, length-append, length-take}
use lib.Seq.{set_out}
use Rattle.answer.specs.Lists.{some, filled}
use Rattle.answer.proofs.Cases.{by_test}
use Rattle.answer.proofs.Filled.{filled_more}
use Rattle.codes.specs.Codes.{is_mark}
use Rattle.formats.specs.declared.Kind.{Kind}
use Rattle.formats.specs.declared.Kind.TheVariants as kind
use Rattle.formats.specs.Taken.{is_text}
use Rattle.sums.specs.Counted.{counted}
use Rattle.figures.specs.declared.Value.{Value}
use Rattle.figures.specs.declared.Value.TheVariants as value
use Rattle.figures.specs.declared.Found.{Found}
use Rattle.figures.specs.Permitted.{permitted, meant, value_of, words_of}
use Rattle.figures.specs.Taken.{found_by}
use Rattle.rows.specs.declared.Row.{Row}
use Rattle.rows.specs.Title.{begins_pair}
use Rattle.rows.specs.Row.{Content, format, title}
use Rattle.rows.specs.Taken.{kind_here, found_here, title_here, row_after, given_here, given_from}
use Rattle.announced.specs.declared.Time.{Time}
use Rattle.announced.specs.declared.Announcement.{Announcement}
use Rattle.announced.specs.declared.Stage.{Stage}
use Rattle.announced.specs.declared.Stage.TheVariants.{First, Single, Titled, Double, Ended, Wrong}
use Rattle.announced.specs.Times.{Mark, T, time, times_in, marks_of}
use Rattle.announced.specs.Taken.{stage_after, announced_by, by_time, by_title, stage_from, announced_from, told_of}
use Rattle.originals.specs.declared.Original.{Original}
use Rattle.originals.specs.declared.Data.{Data}
use Rattle.originals.specs.Data.{Datum, data_in, data_of}
use Rattle.originals.specs.Taken.{data_start, data_after, originals_by, data_from, originals_from, given_of}
use Rattle.table.specs.declared.Words.{Words}
use Rattle.table.specs.declared.Words.TheVariants.{Nothing, Same, Different}
use Rattle.table.specs.declared.Entries.{Entries}
use Rattle.table.specs.declared.Table.{Table}
use Rattle.preview.specs.Page.{all_permitted, sum_in, words_in, is_empty, agrees}
use Rattle.preview.specs.Taken.{announced_in, originals_in}
use Rattle.table.specs.Table.{most, one_more, entered, no_announcement, no_original, word_after, words_after, agreed, is_wrong, table_start, after_format, titled_at, with_code}
use Rattle.preview.specs.Rows.{with_given_out, with_end, taken_from}

-- ── one list after another ─────────────────────────────────────────────────────────────────────────────────────────
times_append : (xs ys : List Content) → times_in (xs ++ ys) ≡ times_in xs ++ times_in ys
unfolding times_in
times_append [] ys = refl
times_append (format a fs ∷ xs) ys = ap (λ (ms : List Mark). marks_of (value_of a fs) ++ ms) (times_append xs ys) ∙ sym (append_assoc (marks_of (value_of a fs)) (times_in xs) (times_in ys))
times_append (title r c ∷ xs) ys = ap (λ (ms : List Mark). T r c ∷ ms) (times_append xs ys)

data_append : (xs ys : List Content) → data_in (xs ++ ys) ≡ data_in xs ++ data_in ys
unfolding data_in
data_append [] ys = refl
data_append (format a fs ∷ xs) ys = ap (λ (ds : List Datum). data_of (value_of a fs) ++ ds) (data_append xs ys) ∙ sym (append_assoc (data_of (value_of a fs)) (data_in xs) (data_in ys))
data_append (title r c ∷ xs) ys = data_append xs ys

stage_append : (s : Stage) (ms ns : List Mark) → stage_from s (ms ++ ns) ≡ stage_from (stage_from s ms) ns
unfolding stage_from
stage_append s [] ns = refl
stage_append s (m ∷ ms) ns = stage_append (stage_after s m) ms ns

announced_append : (s : Stage) (ms ns : List Mark) → announced_from s (ms ++ ns) ≡ announced_from s ms ++ announced_from (stage_from s ms) ns
unfolding stage_from announced_from
announced_append s [] ns = refl
announced_append s (m ∷ ms) ns =
    ap (λ (xs : List Announcement). announced_by s m ++ xs) (announced_append (stage_after s m) ms ns)
    ∙ sym (append_assoc (announced_by s m) (announced_from (stage_after s m) ms) _)

carried_append : (s : Data) (ds es : List Datum) → data_from s (ds ++ es) ≡ data_from (data_from s ds) es
unfolding data_from
carried_append s [] es = refl
carried_append s (d ∷ ds) es = carried_append (data_after s d) ds es

originals_append : (s : Data) (ds es : List Datum) → originals_from s (ds ++ es) ≡ originals_from s ds ++ originals_from (data_from s ds) es
unfolding data_from originals_from
originals_append s [] es = refl
originals_append s (d ∷ ds) es =
    ap (λ (xs : List Original). originals_by s d ++ xs) (originals_append (data_after s d) ds es)
    ∙ sym (append_assoc (originals_by s d) (originals_from (data_after s d) ds) _)

sum_append : (xs ys : List Content) → sum_in (xs ++ ys) ≡ sum_in xs + sum_in ys
unfolding sum_in
sum_append [] ys = omega arith
sum_append (format a fs ∷ xs) ys = omega (arith, sum_append xs ys)
sum_append (title r c ∷ xs) ys = sum_append xs ys

words_append : (xs ys : List Content) → words_in (xs ++ ys) ≡ words_in xs ++ words_in ys
unfolding words_in
words_append [] ys = refl
words_append (format a fs ∷ xs) ys = ap (λ (ns : List ℕ). words_of (value_of a fs) ++ ns) (words_append xs ys) ∙ sym (append_assoc (words_of (value_of a fs)) (words_in xs) (words_in ys))
words_append (title r c ∷ xs) ys = words_append xs ys

word_append : (w : Words) (ms ns : List ℕ) → words_after w (ms ++ ns) ≡ words_after (words_after w ms) ns
word_append w [] ns = refl
word_append w (m ∷ ms) ns = word_append (word_after w m) ms ns

permitted_append : (xs ys : List Content) → all_permitted (xs ++ ys) ≡ (all_permitted xs && all_permitted ys)
unfolding all_permitted
permitted_append [] ys = refl
permitted_append (format a fs ∷ xs) ys = by_test (permitted a fs) (λ p. rw p (permitted_append xs ys)) (λ p. rw p refl)
permitted_append (title r c ∷ xs) ys = permitted_append xs ys

-- ── places ─────────────────────────────────────────────────────────────────────────────────────────────────────────
-- the places that a list fills, and how many they are
abbrev pub count_of : {A : Type 0} → List A → ℕ
count_of xs = min 25 (length xs)

module _ {A : Type 0} (z : A) where
  count_more : (xs : List A) (x : A) → one_more (count_of xs) ≡ count_of (xs ++ (x ∷ []))
  count_more xs x =
      by_test (ltb (count_of xs) 25)
      (λ t. rw t (omega (arith, ltb-true (count_of xs) 25 t, length-append xs (x ∷ []))))
      (λ t. rw t (omega (arith, ltb-false (count_of xs) 25 t, length-append xs (x ∷ []))))

  place_more : (xs : List A) (x : A) → set (filled 24 z xs) (count_of xs) x ≡ filled 24 z (xs ++ (x ∷ []))
  place_more xs x =
      let short : length (filled 24 z xs) ≤ 24 = omega (arith, length-take 24 (xs ++ replicate 24 z)) in
      by_test (ltb (length xs) 25)
      (λ t. let here : count_of xs ≡ length xs = omega (arith, ltb-true (length xs) 25 t) in rw here (sym (filled_more z 24 xs x)))
      (λ t.
      let past : 25 ≤ length xs = ltb-false (length xs) 25 t in
      set_out (filled 24 z xs) (count_of xs) x (omega (arith, short, past))
      ∙ sym (set_out (filled 24 z xs) (length xs) x (omega (arith, short, past)))
      ∙ sym (filled_more z 24 xs x))

abbrev entries_of : {A : Type 0} → A → List A → Entries A
entries_of z xs = record { count = count_of xs; places = filled most z xs }

-- at most one is told at a time
data AtMostOne {A : Type 0} : List A → Type 0 where
  none : AtMostOne []
  one : (x : A) → AtMostOne (x ∷ [])

told_more : (xs ys : List Announcement) → AtMostOne ys → entered (entries_of no_announcement xs) (told_of ys) ≡ entries_of no_announcement (xs ++ ys)
told_more xs ys none = ap (entries_of no_announcement) (sym (append-nil xs))
told_more xs ys (one x) = rw (count_more no_announcement xs x, place_more no_announcement xs x) refl

given_more : (xs ys : List Original) → AtMostOne ys → entered (entries_of no_original xs) (given_of ys) ≡ entries_of no_original (xs ++ ys)
given_more xs ys none = ap (entries_of no_original) (sym (append-nil xs))
given_more xs ys (one x) = rw (count_more no_original xs x, place_more no_original xs x) refl

by_time_lem : (s : Stage) (t : Time) → AtMostOne (by_time s t)
by_time_lem First t = none
by_time_lem (Single a f) t = none
by_time_lem (Titled a r c) t = one _
by_time_lem (Double a z) t = none
by_time_lem Ended t = none
by_time_lem Wrong t = none

by_title_lem : (s : Stage) (r c : ℕ) → AtMostOne (by_title s r c)
by_title_lem First r c = none
by_title_lem (Single a f) r c = none
by_title_lem (Titled a q d) r c = none
by_title_lem (Double a z) r c = one _
by_title_lem Ended r c = none
by_title_lem Wrong r c = none

one_announced : (s : Stage) (v : Value) → AtMostOne (announced_from s (marks_of v))
unfolding announced_from
one_announced s value.Text = none
one_announced s value.Wrong = none
one_announced s (value.Single h m) = rw (append-nil (by_time s (time h m))) (by_time_lem s (time h m))
one_announced s (value.Double h m i n) = rw (append-nil (by_time s (time h m))) (by_time_lem s (time h m))
one_announced s (value.Original h m) = none
one_announced s (value.Date d m y) = none
one_announced s (value.Network n) = none
one_announced s (value.Offset o) = none
one_announced s (value.Pty n) = none
one_announced s (value.Word n) = none

one_original : (s : Data) (v : Value) → AtMostOne (originals_from s (data_of v))
unfolding originals_from
one_original s value.Text = none
one_original s value.Wrong = none
one_original s (value.Single h m) = none
one_original s (value.Double h m i n) = none
one_original s (value.Original h m) = one _
one_original s (value.Date d m y) = none
one_original s (value.Network n) = none
one_original s (value.Offset o) = none
one_original s (value.Pty n) = none
one_original s (value.Word n) = none

-- ── the table ──────────────────────────────────────────────────────────────────────────────────────────────────────
-- that holds what has been given out, where codes were too high or not
unfoldable pub table_of : Bool → List Content → Table
table_of high xs = record {
  stage = stage_from First (times_in xs);
  announcements = entries_of no_announcement (announced_in xs);
  carried = data_from data_start (data_in xs);
  originals = entries_of no_original (originals_in xs);
  sum = sum_in xs % 256;
  words = words_after Nothing (words_in xs);
  wrong = not (all_permitted xs);
  high = high;
}

alike : {a b : Stage} {c d : Entries Announcement} {e f : Data} {g h : Entries Original} {i j : ℕ} {k l : Words} {m n : Bool} (high : Bool) →
    a ≡ b → c ≡ d → e ≡ f → g ≡ h → i ≡ j → k ≡ l → m ≡ n →
    ◌≡◌ {A = Table}
    (record { stage = a; announcements = c; carried = e; originals = g; sum = i; words = k; wrong = m; high = high })
    (record { stage = b; announcements = d; carried = f; originals = h; sum = j; words = l; wrong = n; high = high })
alike high p q r s t u v = rw (p, q, r, s, t, u, v) refl

wrong_value : (a : Kind) (fs : List ℕ) → is_wrong (value_of a fs) ≡ not (permitted a fs)
unfolding value_of
wrong_value a fs = by_test (permitted a fs) (λ p. rw p (right a)) (λ p. rw p refl)
  where
    right : (b : Kind) → is_wrong (meant b fs) ≡ false
    right kind.Text = refl
    right kind.Single = refl
    right kind.Double = refl
    right kind.Original = refl
    right kind.Date = refl
    right kind.Network = refl
    right kind.Offset = refl
    right kind.Pty = refl
    right kind.Word = refl

abbrev found_of : Kind → List ℕ → Found
found_of a fs = record { value = value_of a fs; sum = counted a fs }

not_and : (a b : Bool) → (not a || not b) ≡ not (a && b)
not_and true b = refl
not_and false b = refl

-- a format that is given out
format_step : (h : Bool) (xs : List Content) (a : Kind) (fs : List ℕ) → after_format (table_of h xs) (found_of a fs) ≡ table_of h (xs ++ (format a fs ∷ []))
unfolding after_format table_of times_in data_in sum_in words_in all_permitted
format_step h xs a fs =
    let v : Value = value_of a fs in
    let times : times_in (xs ++ (format a fs ∷ [])) ≡ times_in xs ++ marks_of v = times_append xs (format a fs ∷ []) ∙ ap (λ (ms : List Mark). times_in xs ++ ms) (append-nil (marks_of v)) in
    let carried : data_in (xs ++ (format a fs ∷ [])) ≡ data_in xs ++ data_of v = data_append xs (format a fs ∷ []) ∙ ap (λ (ds : List Datum). data_in xs ++ ds) (append-nil (data_of v)) in
    let words : words_in (xs ++ (format a fs ∷ [])) ≡ words_in xs ++ words_of v = words_append xs (format a fs ∷ []) ∙ ap (λ (ns : List ℕ). words_in xs ++ ns) (append-nil (words_of v)) in
    sym (alike h
    (ap (stage_from First) times ∙ stage_append First (times_in xs) (marks_of v))
    (ap (entries_of no_announcement) (ap (announced_from First) times ∙ announced_append First (times_in xs) (marks_of v)) ∙ sym (told_more (announced_in xs) _ (one_announced _ v)))
    (ap (data_from data_start) carried ∙ carried_append data_start (data_in xs) (data_of v))
    (ap (entries_of no_original) (ap (originals_from data_start) carried ∙ originals_append data_start (data_in xs) (data_of v)) ∙ sym (given_more (originals_in xs) _ (one_original _ v)))
    (omega (arith, sum_append xs (format a fs ∷ [])))
    (ap (words_after Nothing) words ∙ word_append Nothing (words_in xs) (words_of v))
    (ap not (permitted_append xs (format a fs ∷ []) ∙ ap (λ (t : Bool). all_permitted xs && t) (and-true (permitted a fs)))
    ∙ sym (not_and (all_permitted xs) (permitted a fs))
    ∙ ap (λ (t : Bool). not (all_permitted xs) || t) (sym (wrong_value a fs))))

-- a title
title_step : (h : Bool) (xs : List Content) (r c : ℕ) → titled_at (table_of h xs) r c ≡ table_of h (xs ++ (title r c ∷ []))
unfolding titled_at table_of times_in data_in sum_in words_in all_permitted stage_from announced_from
title_step h xs r c =
    let times = times_append xs (title r c ∷ []) in
    let carried : data_in (xs ++ (title r c ∷ [])) ≡ data_in xs = data_append xs (title r c ∷ []) ∙ append-nil (data_in xs) in
    sym (alike h
    (ap (stage_from First) times ∙ stage_append First (times_in xs) (T r c ∷ []))
    (ap (entries_of no_announcement) (ap (announced_from First) times ∙ announced_append First (times_in xs) (T r c ∷ []) ∙ ap (λ (ys : List Announcement). announced_in xs ++ ys) (append-nil (by_title (stage_from First (times_in xs)) r c)))
    ∙ sym (told_more (announced_in xs) _ (by_title_lem (stage_from First (times_in xs)) r c)))
    (ap (data_from data_start) carried)
    (ap (entries_of no_original) (ap (originals_from data_start) carried))
    (omega (arith, sum_append xs (title r c ∷ [])))
    (ap (words_after Nothing) (words_append xs (title r c ∷ []) ∙ append-nil (words_in xs)))
    (ap not (permitted_append xs (title r c ∷ []) ∙ and-true (all_permitted xs))))

-- ── a row, and a page ──────────────────────────────────────────────────────────────────────────────────────────────
end_step : (h : Bool) (xs : List Content) (row : ℕ) (x : Row) (end pair : Bool) →
    with_end (table_of h xs) row x end pair ≡ table_of h (xs ++ given_here row x end pair)
unfolding with_end with_given_out given_here found_here found_by
end_step h xs row x end pair =
    by_test (title_here x end pair)
    (λ t. rw t (title_step h xs row (2 + x.column)))
    (λ t.
    by_test (is_text (kind_here x end))
    (λ k. rw (t, k) (ap (table_of h) (sym (append-nil xs))))
    (λ k. rw (t, k) (format_step h xs (kind_here x end) _)))

abbrev pub is_high : ℕ → Bool
is_high c = ltb 127 c

code_step : (h : Bool) (xs : List Content) (c : ℕ) → with_code (table_of h xs) c ≡ table_of (h || is_high c) xs
unfolding with_code table_of
code_step h xs c = refl

pub row_taken_lem : (cs : List ℕ) (h : Bool) (xs : List Content) (row : ℕ) (x : Row) (p : ℕ) →
    taken_from row (table_of h xs) x p cs ≡ table_of (h || some is_high cs) (xs ++ given_from row x p cs)
unfolding taken_from given_from
row_taken_lem [] h xs row x p = rw (or-false h) (end_step h xs row x true true)
row_taken_lem (c ∷ cs) h xs row x p =
    let pair = begins_pair (c ∷ cs) in
    let here : with_code (with_end (table_of h xs) row x (is_mark c) pair) c ≡ table_of (h || is_high c) (xs ++ given_here row x (is_mark c) pair)
    = ap (λ (s : Table). with_code s c) (end_step h xs row x (is_mark c) pair) ∙ code_step h (xs ++ given_here row x (is_mark c) pair) c in
    rw here
    (row_taken_lem cs (h || is_high c) (xs ++ given_here row x (is_mark c) pair) row (row_after x c p pair) (suc p)
    ∙ rw (or_assoc h (is_high c) (some is_high cs), append_assoc xs (given_here row x (is_mark c) pair) (given_from row (row_after x c p pair) (suc p) cs)) refl)

pub start_is : table_start ≡ table_of false []
unfolding table_of times_in data_in sum_in words_in all_permitted stage_from announced_from data_from originals_from
start_is = refl

-- ── the protection word ────────────────────────────────────────────────────────────────────────────────────────────
abbrev differs : ℕ → ℕ → Bool
differs sum n = not (eqb n sum)

different : (ns : List ℕ) (sum : ℕ) → agreed (words_after Different ns) sum ≡ false
different [] sum = refl
different (n ∷ ns) sum = different ns sum

same_words : (ns : List ℕ) (m sum : ℕ) → agreed (words_after (Same m) ns) sum ≡ (eqb m sum && not (some (differs sum) ns))
same_words [] m sum = sym (and-true (eqb m sum))
same_words (n ∷ ns) m sum =
    by_test (eqb m n)
    (λ e.
    let same : n ≡ m = sym (eqb-true m n e) in
    rw (e, same) (same_words ns m sum ∙ once (eqb m sum)))
    (λ e. rw e (different ns sum ∙ by_test (eqb m sum) (λ a. by_test (eqb n sum) (λ b. absurd (eqb-false m n e (eqb-true m sum a ∙ sym (eqb-true n sum b)))) (λ b. rw (a, b) refl)) (λ a. rw a refl)))
  where
    once : (t : Bool) → (t && not (some (differs sum) ns)) ≡ (t && not (not t || some (differs sum) ns))
    once true = refl
    once false = refl

pub words_agree : (xs : List Content) → agreed (words_after Nothing (words_in xs)) (sum_in xs % 256) ≡ agrees xs
unfolding agrees
words_agree xs = words (words_in xs)
  where
    words : (ns : List ℕ) → agreed (words_after Nothing ns) (sum_in xs % 256) ≡ (not (is_empty ns) && not (some (differs (sum_in xs % 256)) ns))
    words [] = refl
    words (n ∷ ns) = same_words ns n (sum_in xs % 256) ∙ first (eqb n (sum_in xs % 256))
      where
        first : (t : Bool) → (t && not (some (differs (sum_in xs % 256)) ns)) ≡ not (not t || some (differs (sum_in xs % 256)) ns)
        first true = refl
        first false = refl
