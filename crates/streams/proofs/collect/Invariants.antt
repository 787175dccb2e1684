-- `collect`: the page is what the pieces read so far give, and the measure is how many bytes may still decide something.
use Rattle.held.specs.Held.{Collects}
use Rattle.streams.proofs.collect.Given as goal

abbrev pub decreases-loop-piece : goal.decreases-loop-piece
decreases-loop-piece g l = g.C.Collecting.left l.page

abbrev pub invariant-loop-piece : goal.invariant-loop-piece
invariant-loop-piece g l =
    Collects g.C.Collecting.after (g.R.Read.remaining l.initial.from) (g.R.Read.remaining l.from) l.initial.page l.page
