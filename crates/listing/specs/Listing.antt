-- What is printed of a page (document 02, #103): one definition over the bytes of its packets.
use Rattle.std.specs.Prelude.{ℕ, Bool, cond, List, [], ◌∷◌, ◌++◌, length, Option, None, Some}
use Rattle.answer.specs.Answer.{Answer, refused, given}
use Rattle.answer.specs.Text.{space, line_feed, decimal_in}
use Rattle.text.specs.Columns as columns
use Rattle.group.specs.declared.Offset.{Offset}
use Rattle.group.specs.declared.Offset.TheVariants.{East, West}
use Rattle.programmes.specs.declared.Finish.{Finish}
use Rattle.programmes.specs.declared.Finish.TheVariants as finish
use Rattle.programmes.specs.declared.Programme.{Programme}
use Rattle.programmes.specs.Page.{reading_of}

-- ── the signs ──────────────────────────────────────────────────────────────────────────────────────────────────────
abbrev pub plus : ℕ
plus = columns.plus

abbrev pub minus : ℕ
minus = columns.minus

abbrev pub colon : ℕ
colon = columns.colon

-- ── the columns ────────────────────────────────────────────────────────────────────────────────────────────────────
-- 'in decimal without leading zeros'; three digits hold each of the numbers: they are bytes
abbrev pub column : ℕ → List ℕ
column n = columns.column n

abbrev pub pair : ℕ → ℕ → List ℕ
pair a b = columns.pair a b

-- '`h:m`' ('`20:0` is eight in the evening')
abbrev pub hour_minute : ℕ → ℕ → List ℕ
hour_minute h m = columns.hour_minute h m

-- 'finish being `-`, `h:m` for a time or `+h:m` for a duration'
abbrev pub finish_column : Finish → List ℕ
finish_column finish.Absent = space ∷ minus ∷ []
finish_column (finish.Time h m) = space ∷ hour_minute h m
finish_column (finish.Duration h m) = space ∷ plus ∷ hour_minute h m

-- 'the offset with `-` where it is negative': west of Greenwich
abbrev pub offset_column : Offset → List ℕ
offset_column (East q) = column q
offset_column (West q) = space ∷ minus ∷ decimal_in 3 q

-- 'the flag that of controlled access'
abbrev pub flag_column : Bool → List ℕ
flag_column controlled = column (cond controlled 1 0)

-- 'series `-` or its code'
abbrev pub series_column : Option ℕ → List ℕ
series_column None = space ∷ minus ∷ []
series_column (Some k) = column k

-- ── the lines ──────────────────────────────────────────────────────────────────────────────────────────────────────
-- '`G row column day month hour minute ..`'
unfoldable pub beginning : Programme → List ℕ
beginning q = 71 ∷ pair q.row q.column ++ (pair q.day q.month ++ pair q.hour q.minute)

-- '`.. finish country source offset flag series`'
unfoldable pub ending : Programme → List ℕ
ending q =
    finish_column q.finish
    ++ (pair q.country q.source ++ (offset_column q.offset ++ (flag_column q.controlled ++ series_column q.series)))

unfoldable pub programme_line : Programme → List ℕ
programme_line q = beginning q ++ (ending q ++ (line_feed ∷ []))

-- 'for each programme', in page order
unfoldable pub programme_lines : List Programme → List ℕ
programme_lines [] = []
programme_lines (q ∷ qs) = programme_line q ++ programme_lines qs

-- 'then `Z count`'
unfoldable pub count_line : ℕ → List ℕ
count_line n = 90 ∷ column n ++ (line_feed ∷ [])

-- '`R number`'
unfoldable pub refusal_line : ℕ → List ℕ
refusal_line n = 82 ∷ column n ++ (line_feed ∷ [])

-- ── the page ───────────────────────────────────────────────────────────────────────────────────────────────────────
-- 'for a refused page `R number` alone'
abbrev pub listing : Answer (List Programme) → List ℕ
listing (refused n) = refusal_line n
listing (given qs) = programme_lines qs ++ count_line (length qs)

-- 'what it prints is a definition over the page's bytes'
unfoldable pub listing_of : List ℕ → List ℕ
listing_of p = listing (reading_of p)
