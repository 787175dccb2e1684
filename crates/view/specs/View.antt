-- What is printed of a preview page (document 02, #108): one definition over what its bytes are answered with.
use Rattle.std.specs.Prelude.{ℕ, ◌+◌, ◌/◌, ◌%◌, cond, List, [], ◌∷◌, ◌++◌, ltb, length}
use Rattle.answer.specs.Answer.{Answer, refused, given}
use Rattle.answer.specs.Text.{space, line_feed, decimal_in}
use Rattle.text.specs.Columns as columns
use Rattle.figures.specs.declared.Offset.{Offset}
use Rattle.figures.specs.declared.Offset.TheVariants.{Plus, Minus}
use Rattle.figures.specs.Permitted.{is_not_recorded}
use Rattle.announced.specs.declared.Time.{Time}
use Rattle.preview.specs.declared.Programme.{Programme}
use Rattle.preview.specs.Taken.{answer_of}

-- ── the signs ──────────────────────────────────────────────────────────────────────────────────────────────────────
abbrev pub minus : ℕ
minus = columns.minus

abbrev pub colon : ℕ
colon = columns.colon

-- ── the columns ────────────────────────────────────────────────────────────────────────────────────────────────────
-- 'in decimal without leading zeros'; three digits hold each of the numbers: they are bytes
abbrev pub column : ℕ → List ℕ
column n = columns.column n

abbrev pub pair : ℕ → ℕ → List ℕ
pair a b = columns.pair a b

-- 'times as `h:m`'
abbrev pub hour_minute : ℕ → ℕ → List ℕ
hour_minute h m = columns.hour_minute h m

abbrev pub time_column : Time → List ℕ
time_column t = space ∷ hour_minute t.hour t.minute

-- a number's last hexadecimal digit, upper case: 48 is `0`, and 55 + 10 is `A`
abbrev pub hexadecimal : ℕ → ℕ
hexadecimal n = cond (ltb (n % 16) 10) (48 + n % 16) (55 + n % 16)

-- 'network in four hexadecimal digits, upper case'
abbrev pub network_column : ℕ → List ℕ
network_column n = space ∷ hexadecimal (n / 4096) ∷ hexadecimal (n / 256) ∷ hexadecimal (n / 16) ∷ hexadecimal n ∷ []

-- 'the offset with `-` where it is negative'
abbrev pub offset_column : Offset → List ℕ
offset_column (Plus q) = column q
offset_column (Minus q) = space ∷ minus ∷ decimal_in 3 q

-- 'record 1, or 0 where the original time is 25:0'
abbrev pub record_of : Time → ℕ
record_of t = cond (is_not_recorded t.hour t.minute) 0 1

-- ── the lines ──────────────────────────────────────────────────────────────────────────────────────────────────────
-- '`V row column start finish ..`'
unfoldable pub beginning : Programme → List ℕ
beginning q = 86 ∷ pair q.row q.column ++ (time_column q.start ++ time_column q.finish)

-- '`.. day month year network ..`', the 'year as its two figures' number'
unfoldable pub middle : Programme → List ℕ
middle q = pair q.day q.month ++ (column q.year ++ network_column q.network)

-- '`.. original offset type record`'
unfoldable pub ending : Programme → List ℕ
ending q = time_column q.original ++ (offset_column q.offset ++ pair q.pty (record_of q.original))

unfoldable pub programme_line : Programme → List ℕ
programme_line q = beginning q ++ (middle q ++ (ending q ++ (line_feed ∷ [])))

-- 'for each programme', in page order
unfoldable pub programme_lines : List Programme → List ℕ
programme_lines [] = []
programme_lines (q ∷ qs) = programme_line q ++ programme_lines qs

-- 'then `Z count`'
unfoldable pub count_line : ℕ → List ℕ
count_line n = 90 ∷ column n ++ (line_feed ∷ [])

-- '`R number`'
unfoldable pub refusal_line : ℕ → List ℕ
refusal_line n = 82 ∷ column n ++ (line_feed ∷ [])

-- ── the page ───────────────────────────────────────────────────────────────────────────────────────────────────────
-- 'for a refused page `R number` alone'
abbrev pub viewed : Answer (List Programme) → List ℕ
viewed (refused n) = refusal_line n
viewed (given qs) = programme_lines qs ++ count_line (length qs)

-- the same over the page's bytes: of the answer that the grammar has for them (law `told`)
unfoldable pub view_of : List ℕ → List ℕ
view_of p = viewed (answer_of p)
