-- How long a listing is.
use Rattle.std.specs.Prelude.{Option, None, Some}
use Prim.Native.Nat.{ℕ, ◌*◌, ◌≤◌}
use mathlib.Core.Bool.{Bool, true, false}
use mir.Val.{bool_byte}
use mathlib.Core.List.{List, [], ◌∷◌, ◌++◌}
use native.Mathlib.Omega.{arith}
use lib.ListN.{length, length-append}
use Rattle.answer.specs.Text.{line_feed, decimal_in}
use Rattle.group.specs.declared.Offset.{Offset}
use Rattle.group.specs.declared.Offset.TheVariants.{East, West}
use Rattle.programmes.specs.declared.Finish.{Finish}
use Rattle.programmes.specs.declared.Finish.TheVariants as finish
use Rattle.programmes.specs.declared.Programme.{Programme}
use Rattle.listing.specs.Listing.{pair, finish_column, offset_column, flag_column, series_column}
use Rattle.listing.specs.Listing.{beginning, ending, programme_line, programme_lines, count_line, refusal_line}
use Rattle.listing.specs.Pieces.{longest_line}
use Rattle.text.proofs.Rooms.{column_short, pair_short, hour_minute_short, quarters_short, line_short}

-- ── the columns ────────────────────────────────────────────────────────────────────────────────────────────────────
pub finish_short : (x : Finish) → length (finish_column x) ≤ 9
finish_short finish.Absent = omega arith
finish_short (finish.Time h m) = omega (arith, hour_minute_short h m)
finish_short (finish.Duration h m) = omega (arith, hour_minute_short h m)

pub offset_short : (o : Offset) → length (offset_column o) ≤ 5
offset_short (East q) = omega (arith, column_short 3 q)
offset_short (West q) = quarters_short q true

-- a flag as the code makes it a number
pub bit_short : (t : Bool) → length (decimal_in 3 (bool_byte t)) ≤ 1
unfolding decimal_in
bit_short true = omega arith
bit_short false = omega arith

pub flag_short : (controlled : Bool) → length (flag_column controlled) ≤ 2
flag_short true = omega (arith, bit_short true)
flag_short false = omega (arith, bit_short false)

pub series_short : (s : Option ℕ) → length (series_column s) ≤ 4
series_short None = omega arith
series_short (Some k) = column_short 3 k

-- ── the lines ──────────────────────────────────────────────────────────────────────────────────────────────────────
pub beginning_short : (q : Programme) → length (beginning q) ≤ 25
unfolding beginning
beginning_short q =
    let a = pair q.row q.column in
    let b = pair q.day q.month in
    let c = pair q.hour q.minute in
    omega (
      arith,
      pair_short q.row q.column,
      pair_short q.day q.month,
      pair_short q.hour q.minute,
      length-append a (b ++ c),
      length-append b c,
    )

pub ending_short : (q : Programme) → length (ending q) ≤ 28
unfolding ending
ending_short q =
    let a = finish_column q.finish in
    let b = pair q.country q.source in
    let c = offset_column q.offset in
    let d = flag_column q.controlled in
    let e = series_column q.series in
    omega (
      arith,
      finish_short q.finish,
      pair_short q.country q.source,
      offset_short q.offset,
      flag_short q.controlled,
      series_short q.series,
      length-append a (b ++ (c ++ (d ++ e))),
      length-append b (c ++ (d ++ e)),
      length-append c (d ++ e),
      length-append d e,
    )

pub programme_short : (q : Programme) → length (programme_line q) ≤ longest_line
unfolding programme_line
programme_short q =
    omega (
      arith,
      beginning_short q,
      ending_short q,
      length-append (beginning q) (ending q ++ (line_feed ∷ [])),
      length-append (ending q) (line_feed ∷ []),
    )

pub lines_short : (qs : List Programme) → length (programme_lines qs) ≤ longest_line * length qs
unfolding programme_lines
lines_short [] = omega arith
lines_short (q ∷ qs) = omega (arith, programme_short q, lines_short qs, length-append (programme_line q) (programme_lines qs))

pub count_short : (n : ℕ) → length (count_line n) ≤ 6
unfolding count_line
count_short n = line_short 90 n

pub refusal_short : (n : ℕ) → length (refusal_line n) ≤ 6
unfolding refusal_line
refusal_short n = line_short 82 n
