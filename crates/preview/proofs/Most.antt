-- No page has more than 24 programmes: each has a title, and a row has one.
use Prim.Native.Nat.{ℕ, suc, ◌+◌, ◌≤◌}
use mathlib.Core.Path.{◌≡◌, refl, ap, ◌∙◌}
use mathlib.Core.Bool.{Bool, true, false, cond}
use mathlib.Core.List.{List, [], ◌∷◌, ◌++◌}
use native.Mathlib.Omega.{arith}
use lib.ListN.{length}
use Rattle.codes.specs.declared.Colour.{Colour}
use Rattle.figures.specs.declared.Value.{Value}
use Rattle.figures.specs.declared.Value.TheVariants as value
use Rattle.figures.specs.Permitted.{value_of}
use Rattle.answer.specs.Answer.{given}
use Rattle.rows.specs.Row.{Content, format, title, Contains, figures, titled, text}
use Rattle.rows.specs.Row as rows
use Rattle.announced.specs.declared.Time.{Time}
use Rattle.announced.specs.declared.Announcement.{Announcement}
use Rattle.announced.specs.Times.{Mark, S, D, T, marks_of, times_in, Before, Announces, starts, lasts, part_single, part_double, finishes, ends}
use Rattle.originals.specs.declared.Original.{Original}
use Rattle.preview.specs.declared.Programme.{Programme}
use Rattle.preview.specs.Page.{RowsContain, end, row, Reading, Reads, programmes_by, Answers, read}

abbrev pub titles : List Content → ℕ
titles [] = 0
titles (format a fs ∷ xs) = titles xs
titles (title r c ∷ xs) = suc (titles xs)

abbrev pub marked : List Mark → ℕ
marked [] = 0
marked (S t ∷ ms) = marked ms
marked (D t u ∷ ms) = marked ms
marked (T r c ∷ ms) = suc (marked ms)

titles_append : (xs ys : List Content) → titles (xs ++ ys) ≡ titles xs + titles ys
titles_append [] ys = omega arith
titles_append (format a fs ∷ xs) ys = titles_append xs ys
titles_append (title r c ∷ xs) ys = omega (arith, titles_append xs ys)

no_title : (v : Value) (ms : List Mark) → marked (marks_of v ++ ms) ≡ marked ms
no_title value.Text ms = refl
no_title value.Wrong ms = refl
no_title (value.Single h m) ms = refl
no_title (value.Double h m i n) ms = refl
no_title (value.Original h m) ms = refl
no_title (value.Date d m y) ms = refl
no_title (value.Network n) ms = refl
no_title (value.Offset o) ms = refl
no_title (value.Pty n) ms = refl
no_title (value.Word n) ms = refl

pub marked_titles : (xs : List Content) → marked (times_in xs) ≡ titles xs
unfolding times_in
marked_titles [] = refl
marked_titles (format a fs ∷ xs) = no_title (value_of a fs) (times_in xs) ∙ marked_titles xs
marked_titles (title r c ∷ xs) = ap suc (marked_titles xs)

-- each programme has a title
pub announced_titled : {b : Before} {t : Time} (ms : List Mark) (xs : List Announcement) → Announces b ms t xs → length xs ≤ marked ms
announced_titled ms xs (starts {ms = ns} {xs = ys} w) = omega (arith, announced_titled ns ys w)
announced_titled ms xs (lasts {ms = ns} {xs = ys} w) = omega (arith, announced_titled ns ys w)
announced_titled ms xs (part_single {ms = ns} w) = omega (arith, announced_titled ns xs w)
announced_titled ms xs (part_double {ms = ns} w) = omega (arith, announced_titled ns xs w)
announced_titled ms xs finishes = omega arith
announced_titled ms xs ends = omega arith

-- and a row has one
row_titled : {r : ℕ} (had : Bool) {k : Colour} {p : ℕ} {cs : List ℕ} (xs : List Content) → Contains r had k p cs xs → titles xs ≤ cond had 0 1
row_titled true xs rows.end = omega arith
row_titled false xs rows.end = omega arith
row_titled had xs (figures {xs = ys} a fs w v) = row_titled had ys v
row_titled had xs (titled {xs = ys} w v) = omega (arith, row_titled true ys v)
row_titled had xs (text n w v) = row_titled had xs v

pub rows_titled : {page : List ℕ} (r : ℕ) (xs : List Content) → RowsContain page r xs → titles xs + r ≤ 24
rows_titled r xs end = omega arith
rows_titled r xs (row {xs = ys} {ys = zs} h w v) = omega (arith, titles_append ys zs, row_titled false ys w, rows_titled (suc r) zs v)

fewer : (xs : List Announcement) (os : List Original) → length (programmes_by xs os) ≤ length xs
fewer [] os = omega arith
fewer (a ∷ xs) [] = omega arith
fewer (a ∷ xs) (o ∷ os) = omega (arith, fewer xs os)

pub reading_few : (page : List ℕ) (r : Reading) → Reads page r → length r.announced ≤ 24
reading_few page r w =
    omega (arith, announced_titled (times_in r.contents) r.announced w.times, marked_titles r.contents, rows_titled 0 r.contents w.contain)

pub at_most_24 : (page : List ℕ) (qs : List Programme) → Answers page (given qs) → length qs ≤ 24
at_most_24 page qs (read r l w e) = omega (arith, fewer r.announced r.originals, reading_few page r w)
