-- The columns of the beginning, one after the other.
use Rattle.std.proofs.Common.{rules}
use Rattle.text.proofs.Printing.{then}
use Rattle.view.specs.View.{beginning}
use Rattle.view.proofs.lines.put_beginning.Goals as goal

pub returns : goal.returns
unfolding beginning
returns c = (search rules, then _ _ _ _ _ c.put.ensures.1 (then _ _ _ _ _ c.pair.ensures.1 (then _ _ _ _ _ c.put_time.ensures.1 c.put_time-2.ensures.1)))
