-- `take_row` goes through a row's codes, and then its end; what it keeps is `Taking`.
use borrow.Author.Rules.{rules}
use Prim.Native.Nat.{◌+◌, ◌*◌, ◌<◌}
use lib.ListN.{length, get_or}
use mathlib.Core.Path.{◌≡◌, refl, ◌∙◌}
use Rattle.table.specs.Table.{with_code}
use Rattle.preview.specs.Rows.{with_given_out}
use Rattle.preview.proofs.Steps.{taking_none, entered, untouched, taking_more, taking_end}
use Rattle.preview.proofs.taking.take_row.Goals as goal
use Rattle.preview.proofs.taking.take_row.Goals.{At-loop-p, then-titled-text, else-titled-text}

-- what is asked of the page and the row
sized : (a : At-loop-p) → length a.args.bytes.now ≡ 960
sized a = search rules

low : (a : At-loop-p) → a.args.r < 24
low a = search rules

pub loop-p-init : goal.loop-p-init
loop-p-init c = taking_none _ _ _ _ c.new-x.ensures

pub given_out-requires : goal.given_out-requires
given_out-requires c = c.loop-p.invariant.column

-- by both ways of the test the table is as if it had been touched
pub loop-p-preserved : goal.loop-p-preserved
loop-p-preserved c =
    let args = c.args in
    let code = get_or args.bytes.now (40 * args.r + c.loop-p.p) 0 in
    let given = with_given_out c.loop-p.t args.r c.loop-p.x.column c.titled-titled.result c.is_text-text.result c.found-found.result in
    let table : c.if-titled-text.t ≡ with_code given code =
    elim c.if-titled-text.branch [
      | then-titled-text w ↦ entered _ _ _ _ _ _ _ w.given_out.ensures w.coded-t.ensures w.t-is
      | else-titled-text w ↦ w.t-is ∙ untouched _ _ _ _ _ _ _ w.if-titled-text.false
    ] in
    taking_more _ _ _ (sized (goal.at.loop-p-preserved c).At-loop-p) (low (goal.at.loop-p-preserved c).At-loop-p) c.loop-p-test.true c.loop-p.invariant _ _ _ _ _ _ _ refl c.pair_at-pair.ensures
    (rw c.is_mark.ensures at c.found-found.ensures) c.is_text-text.ensures c.titled-titled.ensures table c.next-x.ensures

pub given_out-requires-2 : goal.given_out-requires-2
given_out-requires-2 c = c.loop-p.invariant.column

pub returns : goal.returns
returns c =
    taking_end _ _ (search rules) (search rules) _ (search rules) c.loop-p.invariant _ _ _ _ c.found-found-2.ensures c.is_text-text-2.ensures
    c.titled-titled-2.ensures c.given_out-2.ensures
