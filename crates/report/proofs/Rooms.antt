-- How long a report is.
use Prim.Native.Nat.{ℕ, ◌≤◌}
use mathlib.Core.Bool.{Bool, true, false, cond}
use mathlib.Core.List.{[], ◌∷◌, ◌++◌}
use native.Mathlib.Omega.{arith}
use lib.ListN.{length, length-append}
use Rattle.answer.specs.Text.{line_feed}
use Rattle.answer.proofs.Texts.{decimal_short}
use Rattle.report.specs.declared.Tuner.{Tuner}
use Rattle.report.specs.Report.{column, a_line, is_silent, tuner_line, last_line, report}
use Rattle.report.specs.Room.{longest}

pub column_short : (n : ℕ) → length (column n) ≤ 11
column_short n = omega (arith, decimal_short 10 n)

line_short : (k : ℕ) (h : Tuner) → length (a_line k h) ≤ 48
unfolding a_line
line_short k h =
    let a = column h.clean in
    let b = column h.mended in
    let c = column h.bytes in
    let d = column h.refused in
    let end = line_feed ∷ [] in
    omega (
      arith,
      column_short h.clean,
      column_short h.mended,
      column_short h.bytes,
      column_short h.refused,
      length-append a (b ++ (c ++ (d ++ end))),
      length-append b (c ++ (d ++ end)),
      length-append c (d ++ end),
      length-append d end,
    )

pub tuner_short : (k : ℕ) (h : Tuner) → length (tuner_line k h) ≤ 48
tuner_short k h = go (is_silent h)
  where
    go : (t : Bool) → length (cond t [] (a_line k h)) ≤ 48
    go true = omega arith
    go false = line_short k h

pub report_short : (f : ℕ → Tuner) (whole : Bool) → length (report f whole) ≤ longest
unfolding report
report_short f whole =
    let a = tuner_line 0 (f 0) in
    let b = tuner_line 1 (f 1) in
    let c = tuner_line 2 (f 2) in
    let d = tuner_line 3 (f 3) in
    let end = last_line whole in
    omega (
      arith,
      tuner_short 0 (f 0),
      tuner_short 1 (f 1),
      tuner_short 2 (f 2),
      tuner_short 3 (f 3),
      length-append a (b ++ (c ++ (d ++ end))),
      length-append b (c ++ (d ++ end)),
      length-append c (d ++ end),
      length-append d end,
    )
