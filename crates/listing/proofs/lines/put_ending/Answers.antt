-- The columns of the ending, one after the other.
use Rattle.std.proofs.Common.{rules}
use Rattle.text.specs.Printed.{Follows}
use Rattle.text.proofs.Printing.{then}
use Rattle.listing.specs.Listing.{ending, flag_column}
use Rattle.listing.proofs.lines.put_ending.Goals as goal

pub returns : goal.returns
unfolding ending
returns c =
    let flag : Follows c.put_offset.new.out (flag_column c.args.q.controlled) c.column.new.self = search (rules, c.column.ensures.1) in (
      search rules,
      then _ _ _ _ _ c.put_finish.ensures.1 (then _ _ _ _ _ c.pair.ensures.1 (then _ _ _ _ _ c.put_offset.ensures.1 (then _ _ _ _ _ flag c.put_series.ensures.1))),
    )
