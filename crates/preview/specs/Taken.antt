-- A page taken one row at a time, and what is told of it. What counts as a reading is said in Page.antt; the laws say that this is the same.
use Rattle.std.specs.Prelude.{ℕ, zero, suc, Bool, not, ◌&&◌, ◌||◌, ◌≡◌, List, [], ◌∷◌, ◌++◌, eqb, length, Result, Ok, Err}
use Rattle.answer.specs.Answer.{Answer, refused, given, Row, first_of}
use Rattle.answer.specs.Lists.{filled}
use Rattle.rows.specs.Row.{Content}
use Rattle.rows.specs.Taken.{row_given}
use Rattle.announced.specs.declared.Announcement.{Announcement}
use Rattle.announced.specs.declared.Stage.TheVariants.{First}
use Rattle.announced.specs.Times.{no_time, times_in}
use Rattle.announced.specs.Taken as times
use Rattle.originals.specs.declared.Original.{Original}
use Rattle.originals.specs.Data.{data_in}
use Rattle.originals.specs.Taken as carried
use Rattle.figures.specs.declared.Offset.TheVariants.{Plus}
use Rattle.table.specs.Table.{most}
use Rattle.preview.specs.declared.Programme.{Programme}
use Rattle.preview.specs.declared.Page.{Page}
use Rattle.preview.specs.declared.Refusal.{Refusal}
use Rattle.preview.specs.declared.Refusal.TheVariants.{Length, Unreadable, WrongWord}
use Rattle.preview.specs.Page.{row_of, too_high, all_permitted, programmes_by, agrees, Answers}

-- what is given out of the first n rows
unfoldable pub given_to : List ℕ → ℕ → List Content
given_to page zero = []
given_to page (suc r) = given_to page r ++ row_given r (row_of page r)

-- what is announced, and the original times, of what was given out
abbrev pub announced_in : List Content → List Announcement
announced_in xs = times.announced_from First (times_in xs)

abbrev pub originals_in : List Content → List Original
originals_in xs = carried.originals_from carried.data_start (data_in xs)

-- it reads as programmes
unfoldable pub readable : List Content → Bool
readable xs =
    all_permitted xs
    && (times.may_end (times.stage_from First (times_in xs))
    && (carried.may_end (carried.data_from carried.data_start (data_in xs)) && eqb (length (announced_in xs)) (length (originals_in xs))))

-- '23 page not 960 bytes, 24 no reading, 25 protection word missing or wrong, in that order'
abbrev pub page_rows : List ℕ → List Content → List Row
page_rows page xs = (not (eqb (length page) 960), 23) ∷ (too_high page || not (readable xs), 24) ∷ (not (agrees xs), 25) ∷ []

unfoldable pub answer_of : List ℕ → Answer (List Programme)
answer_of page =
    let xs = given_to page 24 in
    first_of (page_rows page xs) (programmes_by (announced_in xs) (originals_in xs))

-- ── as the reader gives it ─────────────────────────────────────────────────────────────────────────────────────────
-- what stands where a page has no programme
abbrev pub blank : Programme
blank = record {
  row = 0;
  column = 0;
  start = no_time;
  finish = no_time;
  network = 0;
  day = 0;
  month = 0;
  year = 0;
  original = no_time;
  offset = Plus 0;
  pty = 0;
}

unfoldable pub page_of : List Programme → Page
page_of qs = record { count = length qs; programmes = filled most blank qs }

-- the paper's numbers
abbrev pub read_number : Refusal → ℕ
read_number Length = 23
read_number Unreadable = 24
read_number WrongWord = 25

-- what a reader told: the number of a refusal alone, or the page, or what is made of it
abbrev pub reading_answer : {A : Type 0} → Result A Refusal → Answer A
reading_answer (Err r) = refused (read_number r)
reading_answer (Ok x) = given x

-- an answer of the grammar, its programmes as a page
abbrev pub paged : Answer (List Programme) → Answer Page
paged (refused n) = refused n
paged (given qs) = given (page_of qs)

-- the answer that a reader gave, by the grammar
abbrev pub ReadAs : List ℕ → Result Page Refusal → Type 0
ReadAs page r = (a : Answer (List Programme)) × Answers page a × (reading_answer r ≡ paged a)
