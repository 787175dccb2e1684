-- `collect`: the page after the piece that was read.
use Rattle.streams.proofs.Pieces.{collects_more}
use Rattle.streams.proofs.collect.Goals as goal

pub returns-then-got-clause-collected : goal.returns-then-got-clause-collected
returns-then-got-clause-collected g c =
    collects_more g.C.Collecting.after _ _ _ c.args.nothing c.loop-piece.page c.fed-page.result _ c.loop-piece.invariant c.read-got.ensures.bytes c.fed-page.ensures.value

pub loop-piece-preserved : goal.loop-piece-preserved
loop-piece-preserved g c =
    collects_more g.C.Collecting.after _ _ _ c.args.nothing c.loop-piece.page c.fed-page.result _ c.loop-piece.invariant c.read-got.ensures.bytes c.fed-page.ensures.value
