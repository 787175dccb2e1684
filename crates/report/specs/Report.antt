-- What is printed of the aerials (document 02, #102): a line for each tuner that a packet came from, and the last line.
use Rattle.std.specs.Prelude.{ℕ, Bool, cond, ◌&&◌, List, [], ◌∷◌, ◌++◌, eqb}
use Rattle.answer.specs.Text.{space, line_feed, digit}
use Rattle.text.specs.Columns.{column_in}
use Rattle.report.specs.declared.Tuner.{Tuner}

-- 'in decimal'; ten digits hold each of the numbers (law `small` of `tally`)
abbrev pub column : ℕ → List ℕ
column n = column_in 10 n

-- '`A tuner clean mended bytes refused`'
unfoldable pub a_line : ℕ → Tuner → List ℕ
a_line k h =
    65 ∷ space ∷ digit k
    ∷ column h.clean ++ (column h.mended ++ (column h.bytes ++ (column h.refused ++ (line_feed ∷ []))))

-- nothing has come from a tuner
abbrev pub silence : Tuner
silence = record { clean = 0; mended = 0; bytes = 0; refused = 0 }

-- 'that a packet came from': of a silent tuner nothing is counted (law `once` of `tally`)
abbrev pub is_silent : Tuner → Bool
is_silent h = eqb h.clean 0 && eqb h.mended 0 && eqb h.refused 0

abbrev pub tuner_line : ℕ → Tuner → List ℕ
tuner_line k h = cond (is_silent h) [] (a_line k h)

-- 'then `Z`'; 'input that is short or has a byte left over ends with `X` in its place'
abbrev pub last_line : Bool → List ℕ
last_line whole = cond whole 90 88 ∷ line_feed ∷ []

-- 'for each of the tuners 0 to 3 .. in order'
unfoldable pub report : (ℕ → Tuner) → Bool → List ℕ
report heard whole =
    tuner_line 0 (heard 0) ++ (tuner_line 1 (heard 1) ++ (tuner_line 2 (heard 2) ++ (tuner_line 3 (heard 3) ++ last_line whole)))
