-- The examples of EN 300 231 clause 7.3.1 itself (document 02, #108): example 7, and the two pages of 7.3.1.5 with table 6. A code is
-- written as its number, but for the colour white, magenta and conceal; above each row it stands in the clause's signs, `|`, `}` and `{`
-- being the codes of the umlauts.
use Rattle.std.specs.Prelude.{ℕ, List, [], ◌∷◌, map}
use Rattle.answer.specs.Answer.{refused, given}
use Rattle.answer.specs.Lists.{joined, filled}
use Rattle.codes.specs.Codes.{conceal}
use Rattle.figures.specs.declared.Offset.TheVariants.{Plus}
use Rattle.announced.specs.declared.Time.{Time}
use Rattle.announced.specs.Times.{time}
use Rattle.preview.specs.declared.Programme.{Programme}
use Rattle.preview.specs.Page.{Answers}

abbrev pub white : ℕ
white = 7

abbrev pub magenta : ℕ
magenta = 5

abbrev pub hidden : ℕ
hidden = conceal

-- rows from the top, each filled up with spaces, and so the page
abbrev pub page_by : List (List ℕ) → List ℕ
page_by rows = filled 960 32 (joined (map (filled 40 32) rows))

-- ── example 7 ──────────────────────────────────────────────────────────────────────────────────────────────────────
-- :%1D101%150285%004%F81%4D+
abbrev pub seven_data : List ℕ
seven_data =
    magenta ∷ hidden ∷ 49 ∷ 68 ∷ 49 ∷ 48 ∷ 49 ∷ hidden ∷ 49 ∷ 53 ∷ 48 ∷ 50 ∷ 56 ∷ 53 ∷ hidden ∷ 48 ∷ 48 ∷ 52 ∷ hidden ∷ 70 ∷ 56 ∷ 49
    ∷ hidden ∷ 52 ∷ 68 ∷ white ∷ []

-- +20.00:%2000++Tagesschau++
abbrev pub seven_title : List ℕ
seven_title =
    white ∷ 50 ∷ 48 ∷ 46 ∷ 48 ∷ 48 ∷ magenta ∷ hidden ∷ 50 ∷ 48 ∷ 48 ∷ 48 ∷ white ∷ white ∷ 84 ∷ 97 ∷ 103 ∷ 101 ∷ 115 ∷ 115 ∷ 99 ∷ 104
    ∷ 97 ∷ 117 ∷ white ∷ white ∷ []

-- up to +20.15+ approx.
abbrev pub seven_finish : List ℕ
seven_finish =
    117 ∷ 112 ∷ 32 ∷ 116 ∷ 111 ∷ 32 ∷ white ∷ 50 ∷ 48 ∷ 46 ∷ 49 ∷ 53 ∷ white ∷ 32 ∷ 97 ∷ 112 ∷ 112 ∷ 114 ∷ 111 ∷ 120 ∷ 46 ∷ []

abbrev pub seven : List ℕ
seven = page_by (seven_data ∷ seven_title ∷ seven_finish ∷ [])

-- ── the pages of 7.3.1.5 ───────────────────────────────────────────────────────────────────────────────────────────
-- the protection word as its two figures
-- :%1D101%150285%hh%004%F81+
abbrev pub left_data : ℕ → ℕ → List ℕ
left_data h k =
    magenta ∷ hidden ∷ 49 ∷ 68 ∷ 49 ∷ 48 ∷ 49 ∷ hidden ∷ 49 ∷ 53 ∷ 48 ∷ 50 ∷ 56 ∷ 53 ∷ hidden ∷ h ∷ k ∷ hidden ∷ 48 ∷ 48 ∷ 52 ∷ hidden
    ∷ 70 ∷ 56 ∷ 49 ∷ white ∷ []

-- +20.00:%2000++Tagesschau
abbrev pub left_first : List ℕ
left_first =
    white ∷ 50 ∷ 48 ∷ 46 ∷ 48 ∷ 48 ∷ magenta ∷ hidden ∷ 50 ∷ 48 ∷ 48 ∷ 48 ∷ white ∷ white ∷ 84 ∷ 97 ∷ 103 ∷ 101 ∷ 115 ∷ 115 ∷ 99 ∷ 104
    ∷ 97 ∷ 117 ∷ []

-- +20.15:%2015++Na so was...
abbrev pub left_second : List ℕ
left_second =
    white ∷ 50 ∷ 48 ∷ 46 ∷ 49 ∷ 53 ∷ magenta ∷ hidden ∷ 50 ∷ 48 ∷ 49 ∷ 53 ∷ white ∷ white ∷ 78 ∷ 97 ∷ 32 ∷ 115 ∷ 111 ∷ 32 ∷ 119 ∷ 97
    ∷ 115 ∷ 46 ∷ 46 ∷ 46 ∷ []

-- +22.00:%2200++K|nig der Berge
abbrev pub left_third : List ℕ
left_third =
    white ∷ 50 ∷ 50 ∷ 46 ∷ 48 ∷ 48 ∷ magenta ∷ hidden ∷ 50 ∷ 50 ∷ 48 ∷ 48 ∷ white ∷ white ∷ 75 ∷ 124 ∷ 110 ∷ 105 ∷ 103 ∷ 32 ∷ 100 ∷ 101
    ∷ 114 ∷ 32 ∷ 66 ∷ 101 ∷ 114 ∷ 103 ∷ 101 ∷ []

-- :%160285%F8A+
abbrev pub left_change : List ℕ
left_change =
    magenta ∷ hidden ∷ 49 ∷ 54 ∷ 48 ∷ 50 ∷ 56 ∷ 53 ∷ hidden ∷ 70 ∷ 56 ∷ 65 ∷ white ∷ []

-- +00.30:%0030++Nacht }ber Bayern
abbrev pub left_fourth : List ℕ
left_fourth =
    white ∷ 48 ∷ 48 ∷ 46 ∷ 51 ∷ 48 ∷ magenta ∷ hidden ∷ 48 ∷ 48 ∷ 51 ∷ 48 ∷ white ∷ white ∷ 78 ∷ 97 ∷ 99 ∷ 104 ∷ 116 ∷ 32 ∷ 125 ∷ 98
    ∷ 101 ∷ 114 ∷ 32 ∷ 66 ∷ 97 ∷ 121 ∷ 101 ∷ 114 ∷ 110 ∷ []

-- Fernsehserie Folge 3
abbrev pub series : List ℕ
series =
    70 ∷ 101 ∷ 114 ∷ 110 ∷ 115 ∷ 101 ∷ 104 ∷ 115 ∷ 101 ∷ 114 ∷ 105 ∷ 101 ∷ 32 ∷ 70 ∷ 111 ∷ 108 ∷ 103 ∷ 101 ∷ 32 ∷ 51 ∷ []

-- +01.30:%0130++Sp{tnachrichten
abbrev pub left_fifth : List ℕ
left_fifth =
    white ∷ 48 ∷ 49 ∷ 46 ∷ 51 ∷ 48 ∷ magenta ∷ hidden ∷ 48 ∷ 49 ∷ 51 ∷ 48 ∷ white ∷ white ∷ 83 ∷ 112 ∷ 123 ∷ 116 ∷ 110 ∷ 97 ∷ 99 ∷ 104
    ∷ 114 ∷ 105 ∷ 99 ∷ 104 ∷ 116 ∷ 101 ∷ 110 ∷ []

-- +01.45+Sendeschluss
abbrev pub finish : List ℕ
finish =
    white ∷ 48 ∷ 49 ∷ 46 ∷ 52 ∷ 53 ∷ white ∷ 83 ∷ 101 ∷ 110 ∷ 100 ∷ 101 ∷ 115 ∷ 99 ∷ 104 ∷ 108 ∷ 117 ∷ 115 ∷ 115 ∷ []

abbrev pub left : ℕ → ℕ → List ℕ
left h k =
    page_by ((left_data h k) ∷ [] ∷ left_first ∷ left_second ∷ left_third ∷ left_change ∷ left_fourth ∷ series ∷ left_fifth ∷ finish ∷ [])

-- :%1D101%150285%hh%004%F81%2000+
abbrev pub right_data : ℕ → ℕ → List ℕ
right_data h k =
    magenta ∷ hidden ∷ 49 ∷ 68 ∷ 49 ∷ 48 ∷ 49 ∷ hidden ∷ 49 ∷ 53 ∷ 48 ∷ 50 ∷ 56 ∷ 53 ∷ hidden ∷ h ∷ k ∷ hidden ∷ 48 ∷ 48 ∷ 52 ∷ hidden
    ∷ 70 ∷ 56 ∷ 49 ∷ hidden ∷ 50 ∷ 48 ∷ 48 ∷ 48 ∷ white ∷ []

-- :%2015%2200%160285%F8A%0030%0130+
abbrev pub right_times : List ℕ
right_times =
    magenta ∷ hidden ∷ 50 ∷ 48 ∷ 49 ∷ 53 ∷ hidden ∷ 50 ∷ 50 ∷ 48 ∷ 48 ∷ hidden ∷ 49 ∷ 54 ∷ 48 ∷ 50 ∷ 56 ∷ 53 ∷ hidden ∷ 70 ∷ 56 ∷ 65
    ∷ hidden ∷ 48 ∷ 48 ∷ 51 ∷ 48 ∷ hidden ∷ 48 ∷ 49 ∷ 51 ∷ 48 ∷ white ∷ []

-- +20.00++Tagesschau
abbrev pub right_first : List ℕ
right_first =
    white ∷ 50 ∷ 48 ∷ 46 ∷ 48 ∷ 48 ∷ white ∷ white ∷ 84 ∷ 97 ∷ 103 ∷ 101 ∷ 115 ∷ 115 ∷ 99 ∷ 104 ∷ 97 ∷ 117 ∷ []

-- +20.15++Na so was ...
abbrev pub right_second : List ℕ
right_second =
    white ∷ 50 ∷ 48 ∷ 46 ∷ 49 ∷ 53 ∷ white ∷ white ∷ 78 ∷ 97 ∷ 32 ∷ 115 ∷ 111 ∷ 32 ∷ 119 ∷ 97 ∷ 115 ∷ 32 ∷ 46 ∷ 46 ∷ 46 ∷ []

-- +22.00++K|nig der Berge
abbrev pub right_third : List ℕ
right_third =
    white ∷ 50 ∷ 50 ∷ 46 ∷ 48 ∷ 48 ∷ white ∷ white ∷ 75 ∷ 124 ∷ 110 ∷ 105 ∷ 103 ∷ 32 ∷ 100 ∷ 101 ∷ 114 ∷ 32 ∷ 66 ∷ 101 ∷ 114 ∷ 103
    ∷ 101 ∷ []

-- +00.30++Nacht }ber Bayern
abbrev pub right_fourth : List ℕ
right_fourth =
    white ∷ 48 ∷ 48 ∷ 46 ∷ 51 ∷ 48 ∷ white ∷ white ∷ 78 ∷ 97 ∷ 99 ∷ 104 ∷ 116 ∷ 32 ∷ 125 ∷ 98 ∷ 101 ∷ 114 ∷ 32 ∷ 66 ∷ 97 ∷ 121 ∷ 101
    ∷ 114 ∷ 110 ∷ []

-- +01.30++Sp{tnachrichten
abbrev pub right_fifth : List ℕ
right_fifth =
    white ∷ 48 ∷ 49 ∷ 46 ∷ 51 ∷ 48 ∷ white ∷ white ∷ 83 ∷ 112 ∷ 123 ∷ 116 ∷ 110 ∷ 97 ∷ 99 ∷ 104 ∷ 114 ∷ 105 ∷ 99 ∷ 104 ∷ 116 ∷ 101
    ∷ 110 ∷ []

abbrev pub right : ℕ → ℕ → List ℕ
right h k =
    page_by ((right_data h k) ∷ right_times ∷ right_first ∷ right_second ∷ right_third ∷ [] ∷ right_fourth ∷ series ∷ right_fifth ∷ finish
    ∷ [])

-- ── table 6 ────────────────────────────────────────────────────────────────────────────────────────────────────────
-- 1D101 is 1D65, 004 an hour east of Greenwich
abbrev pub programme : ℕ → ℕ → Time → Time → ℕ → Time → ℕ → Programme
programme row column start finish day original pty = record {
  row = row;
  column = column;
  start = start;
  finish = finish;
  network = 0x1D65;
  day = day;
  month = 2;
  year = 85;
  original = original;
  offset = Plus 4;
  pty = pty;
}

-- its rows, in the column in which the titles stand
abbrev pub table6 : ℕ → List Programme
table6 column =
    programme 2 column (time 20 0) (time 20 15) 15 (time 20 0) 0x81  -- Tagesschau
    ∷ programme 3 column (time 20 15) (time 22 0) 15 (time 20 15) 0  -- Na so was
    ∷ programme 4 column (time 22 0) (time 0 30) 15 (time 22 0) 0  -- König der Berge
    ∷ programme 6 column (time 0 30) (time 1 30) 16 (time 0 30) 0x8A  -- Nacht über Bayern
    ∷ programme 8 column (time 1 30) (time 1 45) 16 (time 1 30) 0  -- Spätnachrichten
    ∷ []

pub record Clause : Type 0 where
  -- 'hence %hh+ becomes %4D+'
  pub example_7 : Answers seven (given (programme 1 14 (time 20 0) (time 20 15) 15 (time 20 0) 0x81 ∷ []))
  -- as the pages are printed, with 9C, their figures make another sum
  pub left_printed : Answers (left 57 67) (refused 25)
  pub right_printed : Answers (right 57 67) (refused 25)
  -- with AC, 'the data recovered in the decoder from either of these Teletext pages is given in table 6'
  pub left_read : Answers (left 65 67) (given (table6 14))
  pub right_read : Answers (right 65 67) (given (table6 8))
