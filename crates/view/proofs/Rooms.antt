-- How long the print of a page is.
use Prim.Native.Nat.{ℕ, ◌*◌, ◌≤◌}
use mathlib.Core.Bool.{true}
use mathlib.Core.List.{List, [], ◌∷◌, ◌++◌}
use native.Mathlib.Omega.{arith}
use lib.ListN.{length, length-append}
use Rattle.answer.specs.Text.{line_feed}
use Rattle.figures.specs.declared.Offset.{Offset}
use Rattle.figures.specs.declared.Offset.TheVariants.{Plus, Minus}
use Rattle.announced.specs.declared.Time.{Time}
use Rattle.preview.specs.declared.Programme.{Programme}
use Rattle.view.specs.View.{column, pair, time_column, network_column, offset_column, record_of}
use Rattle.view.specs.View.{beginning, middle, ending, programme_line, programme_lines, count_line, refusal_line}
use Rattle.view.specs.Reported.{longest_line}
use Rattle.text.proofs.Rooms.{column_short, pair_short, hour_minute_short, quarters_short, line_short}

-- ── the columns ────────────────────────────────────────────────────────────────────────────────────────────────────
pub time_short : (t : Time) → length (time_column t) ≤ 8
time_short t = omega (arith, hour_minute_short t.hour t.minute)

pub offset_short : (o : Offset) → length (offset_column o) ≤ 5
offset_short (Plus q) = omega (arith, column_short 3 q)
offset_short (Minus q) = quarters_short q true

-- ── the lines ──────────────────────────────────────────────────────────────────────────────────────────────────────
pub beginning_short : (q : Programme) → length (beginning q) ≤ 25
unfolding beginning
beginning_short q =
    let a = pair q.row q.column in
    let b = time_column q.start in
    let c = time_column q.finish in
    omega (
      arith,
      pair_short q.row q.column,
      time_short q.start,
      time_short q.finish,
      length-append a (b ++ c),
      length-append b c,
    )

pub middle_short : (q : Programme) → length (middle q) ≤ 17
unfolding middle
middle_short q =
    let a = pair q.day q.month in
    let b = column q.year in
    let c = network_column q.network in
    omega (arith, pair_short q.day q.month, column_short 3 q.year, length-append a (b ++ c), length-append b c)

pub ending_short : (q : Programme) → length (ending q) ≤ 21
unfolding ending
ending_short q =
    let a = time_column q.original in
    let b = offset_column q.offset in
    let c = pair q.pty (record_of q.original) in
    omega (
      arith,
      time_short q.original,
      offset_short q.offset,
      pair_short q.pty (record_of q.original),
      length-append a (b ++ c),
      length-append b c,
    )

pub programme_short : (q : Programme) → length (programme_line q) ≤ longest_line
unfolding programme_line
programme_short q =
    omega (
      arith,
      beginning_short q,
      middle_short q,
      ending_short q,
      length-append (beginning q) (middle q ++ (ending q ++ (line_feed ∷ []))),
      length-append (middle q) (ending q ++ (line_feed ∷ [])),
      length-append (ending q) (line_feed ∷ []),
    )

pub lines_short : (qs : List Programme) → length (programme_lines qs) ≤ longest_line * length qs
unfolding programme_lines
lines_short [] = omega arith
lines_short (q ∷ qs) = omega (arith, programme_short q, lines_short qs, length-append (programme_line q) (programme_lines qs))

pub count_short : (n : ℕ) → length (count_line n) ≤ 6
unfolding count_line
count_short n = line_short 90 n

pub refusal_short : (n : ℕ) → length (refusal_line n) ≤ 6
unfolding refusal_line
refusal_short n = line_short 82 n
