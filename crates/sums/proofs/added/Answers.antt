-- `added` adds the figures one after the other, each 15 at most.
use native.Mathlib.Numerals.{add-one}
use native.Mathlib.Omega.{arith}
use borrow.Author.Rules.{rules}
use Rattle.std.specs.Prelude.{◌≡◌, suc, ◌+◌, get_or}
use Rattle.std.proofs.Common.{sym}
use Rattle.codes.proofs.Facts.{figure_small}
use Rattle.sums.proofs.Facts.{one_added}
use Rattle.sums.proofs.added.Goals as goal

pub loop-c-preserved : goal.loop-c-preserved
loop-c-preserved c =
    let on : c.loop-c.c-index + 1 ≡ suc c.loop-c.c-index = add-one c.loop-c.c-index in (
      rw (on, c.loop-c.invariant.0, c.figure-sum.ensures) (sym (one_added c.args.shown.now c.loop-c.c-index 0 (search rules))),
      omega (arith, c.loop-c.invariant.1, c.figure-sum.ensures, figure_small (get_or c.args.shown.now c.loop-c.c-index 0)),
    )
