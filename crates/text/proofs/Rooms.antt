-- How long columns and lines are.
use Prim.Native.Nat.{ℕ, ◌+◌, ◌≤◌}
use mathlib.Core.Bool.{Bool, true, false}
use mathlib.Core.List.{[], ◌∷◌}
use native.Mathlib.Omega.{arith}
use lib.ListN.{length, length-append}
use Rattle.answer.specs.Text.{line_feed, decimal_in}
use Rattle.answer.proofs.Texts.{decimal_short}
use Rattle.text.specs.Columns.{minus, colon, column_in, column, pair, signed, hour_minute, quarters, number_line}

pub column_short : (k n : ℕ) → length (column_in k n) ≤ 1 + k
column_short k n = omega (arith, decimal_short k n)

pub pair_short : (a b : ℕ) → length (pair a b) ≤ 8
pair_short a b = omega (arith, decimal_short 3 a, decimal_short 3 b, length-append (column a) (column b))

pub signed_short : (sign : ℕ) (shown : Bool) → length (signed sign shown) ≤ 2
signed_short sign true = omega arith
signed_short sign false = omega arith

pub hour_minute_short : (h m : ℕ) → length (hour_minute h m) ≤ 7
hour_minute_short h m =
    omega (arith, decimal_short 3 h, decimal_short 3 m, length-append (decimal_in 3 h) (colon ∷ decimal_in 3 m))

pub quarters_short : (q : ℕ) (negative : Bool) → length (quarters q negative) ≤ 5
quarters_short q negative =
    omega (arith, signed_short minus negative, decimal_short 3 q, length-append (signed minus negative) (decimal_in 3 q))

pub line_short : (letter n : ℕ) → length (number_line letter n) ≤ 6
line_short letter n = omega (arith, decimal_short 3 n, length-append (column n) (line_feed ∷ []))
