-- `put_page`'s loop: the lines of the programmes passed are printed.
use Rattle.std.proofs.Common.{rules, ◌≡◌, length, take, refl, arith}
use Rattle.programmes.specs.Page.{most}
use Rattle.text.proofs.Printing.{then, nothing}
use Rattle.listing.specs.Listing.{programme_lines, count_line}
use Rattle.listing.proofs.Storing.{further, all_shown}
use Rattle.listing.proofs.pieces.put_page.Goals as goal

pub loop-q-init : goal.loop-q-init
unfolding programme_lines
loop-q-init c = (refl, nothing c.args.out.now)

pub loop-q-preserved : goal.loop-q-preserved
loop-q-preserved c =
    let a = c.args in (
      search rules,
      further a.out.now c.loop-q.out (take c.least.result a.page.programmes) c.loop-q.q-index c.loop-q.invariant.1 c.loop-q-test.true
          c.programme_line.new.out c.programme_line.ensures.1,
    )

pub returns : goal.returns
returns c =
    let a = c.args in
    let sized : length a.page.programmes ≡ most = search rules in
    let passed = all_shown a.page.programmes c.loop-q.q-index a.page.count sized (rw (← c.least.ensures) (omega (arith, c.loop-q-test.false))) in (
      search rules,
      then a.out.now c.loop-q.out c.count_line.new.out (programme_lines (take a.page.count a.page.programmes)) (count_line a.page.count)
          (rw (← passed, ← c.least.ensures) c.loop-q.invariant.1) c.count_line.ensures.1,
    )
