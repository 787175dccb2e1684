-- R5: the permitted figures of a format, and what they mean (EN 300 231 clause 7.3.1.3; document 02, #108).
use Rattle.std.specs.Prelude.{ℕ, ◌+◌, ◌*◌, ◌%◌, Bool, true, cond, not, ◌&&◌, ◌||◌, List, [], ◌∷◌, leb, ltb, eqb}
use Rattle.formats.specs.declared.Kind.{Kind}
use Rattle.formats.specs.declared.Kind.TheVariants as kind
use Rattle.formats.specs.Formats.{at}
use Rattle.figures.specs.declared.Offset.{Offset}
use Rattle.figures.specs.declared.Offset.TheVariants.{Plus, Minus}
use Rattle.figures.specs.declared.Value.{Value}
use Rattle.figures.specs.declared.Value.TheVariants as value

-- the number that figures i and i + 1 show, in decimal
abbrev pub two : List ℕ → ℕ → ℕ
two fs i = at fs i * 10 + at fs (1 + i)

-- the same in hexadecimal
abbrev pub two_hexadecimal : List ℕ → ℕ → ℕ
two_hexadecimal fs i = at fs i * 16 + at fs (1 + i)

abbrev pub three : List ℕ → ℕ → ℕ
three fs i = at fs i * 100 + two fs (1 + i)

-- ── what is permitted ──────────────────────────────────────────────────────────────────────────────────────────────
-- 'times: hour 00 to 23, minute 00 to 59'
abbrev pub is_time : ℕ → ℕ → Bool
is_time hour minute = ltb hour 24 && ltb minute 60

-- 'the AT-2 time 2500 indicates items not worth recording'
abbrev pub is_not_recorded : ℕ → ℕ → Bool
is_not_recorded hour minute = eqb hour 25 && eqb minute 0

-- 'February having 29 days if the year is a multiple of 4'
abbrev pub february : ℕ → ℕ
february year = cond (eqb (year % 4) 0) 29 28

-- April, June, September and November
abbrev pub is_short : ℕ → Bool
is_short month = eqb month 4 || (eqb month 6 || (eqb month 9 || eqb month 11))

abbrev pub days_in : ℕ → ℕ → ℕ
days_in month year = cond (eqb month 2) (february year) (cond (is_short month) 30 31)

-- 'the day exists in that month'
abbrev pub is_date : ℕ → ℕ → ℕ → Bool
is_date day month year = leb 1 month && leb month 12 && (leb 1 day && leb day (days_in month year))

-- 'a page on which a figure format of R4 stands with other figures than these has no reading'
unfoldable pub permitted : Kind → List ℕ → Bool
permitted kind.Text fs = true
permitted kind.Single fs = is_time (two fs 0) (two fs 2)
permitted kind.Double fs = is_time (two fs 0) (two fs 2) && is_time (two fs 4) (two fs 6)
permitted kind.Original fs = is_time (two fs 0) (two fs 2) || is_not_recorded (two fs 0) (two fs 2)
permitted kind.Date fs = is_date (two fs 0) (two fs 2) (two fs 4)
permitted kind.Network fs = ltb (three fs 2) 256
permitted kind.Offset fs = true
permitted kind.Pty fs = not (eqb (two_hexadecimal fs 1) 0)
permitted kind.Word fs = true

-- ── what they mean ─────────────────────────────────────────────────────────────────────────────────────────────────
-- 'the value is `hh` times 256 plus `zzz`, so 1D101 is 1D65 hex'
abbrev pub network_of : List ℕ → ℕ
network_of fs = two_hexadecimal fs 0 * 256 + three fs 2

-- '`0zz` is zz, `9zz` is minus zz, any zz, so 900 is 0'
abbrev pub offset_of : List ℕ → Offset
offset_of fs = cond (eqb (at fs 0) 9 && ltb 0 (two fs 1)) (Minus (two fs 1)) (Plus (two fs 1))

abbrev pub meant : Kind → List ℕ → Value
meant kind.Text fs = value.Text
meant kind.Single fs = value.Single (two fs 0) (two fs 2)
meant kind.Double fs = value.Double (two fs 0) (two fs 2) (two fs 4) (two fs 6)
meant kind.Original fs = value.Original (two fs 0) (two fs 2)
meant kind.Date fs = value.Date (two fs 0) (two fs 2) (two fs 4)
meant kind.Network fs = value.Network (network_of fs)
meant kind.Offset fs = value.Offset (offset_of fs)
meant kind.Pty fs = value.Pty (two_hexadecimal fs 1)
meant kind.Word fs = value.Word (two_hexadecimal fs 0)

-- `Wrong` where the figures are not permitted
unfoldable pub value_of : Kind → List ℕ → Value
value_of k fs = cond (permitted k fs) (meant k fs) value.Wrong

-- the protection word that a format shows, if it is one
abbrev pub words_of : Value → List ℕ
words_of value.Text = []
words_of value.Wrong = []
words_of (value.Single h m) = []
words_of (value.Double h m i n) = []
words_of (value.Original h m) = []
words_of (value.Date d m y) = []
words_of (value.Network n) = []
words_of (value.Offset o) = []
words_of (value.Pty n) = []
words_of (value.Word n) = n ∷ []
