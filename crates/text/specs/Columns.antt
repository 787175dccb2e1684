-- What the programs print of numbers and times (document 02, #102, #103 and #108): the columns of a line.
use Rattle.std.specs.Prelude.{ℕ, Bool, cond, List, [], ◌∷◌, ◌++◌}
use Rattle.answer.specs.Text.{space, line_feed, decimal_in}

-- ── the signs ──────────────────────────────────────────────────────────────────────────────────────────────────────
abbrev pub plus : ℕ
plus = 43

abbrev pub minus : ℕ
minus = 45

abbrev pub colon : ℕ
colon = 58

-- ── the columns ────────────────────────────────────────────────────────────────────────────────────────────────────
-- a gap, and a number in decimal without leading zeros, of at most k digits
abbrev pub column_in : ℕ → ℕ → List ℕ
column_in k n = space ∷ decimal_in k n

-- three digits hold each number that is a byte
abbrev pub column : ℕ → List ℕ
column n = column_in 3 n

abbrev pub pair : ℕ → ℕ → List ℕ
pair a b = column a ++ column b

-- a gap, and a sign after it where one is shown
abbrev pub signed : ℕ → Bool → List ℕ
signed sign shown = space ∷ cond shown (sign ∷ []) []

-- 'times as `h:m`' ('`20:0` is eight in the evening')
abbrev pub hour_minute : ℕ → ℕ → List ℕ
hour_minute h m = decimal_in 3 h ++ (colon ∷ decimal_in 3 m)

-- 'with `-` where it is negative'
abbrev pub quarters : ℕ → Bool → List ℕ
quarters q negative = signed minus negative ++ decimal_in 3 q

-- ── the lines ──────────────────────────────────────────────────────────────────────────────────────────────────────
-- a line of a letter and a number
abbrev pub number_line : ℕ → ℕ → List ℕ
number_line letter n = letter ∷ column n ++ (line_feed ∷ [])
