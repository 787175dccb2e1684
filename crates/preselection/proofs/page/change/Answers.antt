-- `change`: one more, the last made anew, or none of it.
use borrow.Author.Rules.{rules}
use Rattle.std.specs.Prelude.{Some}
use mathlib.Core.Path.{ap}
use Rattle.sequence.specs.Sequence.{with_finish, with_series}
use Rattle.preselection.proofs.Pages.{more, remade, count_kept}
use Rattle.preselection.proofs.page.change.Goals as goal

pub returns-in-Begins : goal.returns-in-Begins
returns-in-Begins c =
    let a = c.args in
    (rw c.begun.ensures (search rules), λ qs e. rw (c.in-Begins.is, c.begun.ensures) (more a.page.now qs _ e))

pub returns-in-Finishes : goal.returns-in-Finishes
returns-in-Finishes c =
    let a = c.args in
    let q = ap (with_finish c.in-Finishes.finish) c.last-q.ensures in (
      rw c.with_last.ensures (count_kept a.page.now _),
      λ qs e. rw (c.in-Finishes.is, c.with_last.ensures, q) (remade (with_finish _) a.page.now qs e),
    )

pub returns-in-InSeries : goal.returns-in-InSeries
returns-in-InSeries c =
    let a = c.args in
    let q = ap (with_series (Some c.in-InSeries.code)) c.last-q-in-InSeries.ensures in (
      rw c.with_last-in-InSeries.ensures (count_kept a.page.now _),
      λ qs e. rw (c.in-InSeries.is, c.with_last-in-InSeries.ensures, q) (remade (with_series _) a.page.now qs e),
    )
