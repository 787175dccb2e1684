-- `programme` sends the groups of a programme in their order.
use Rattle.std.proofs.Common.{arith}
use Rattle.programmes.specs.Written.{groups_of}
use Rattle.sending.proofs.Sends.{then, few, source_few, date_few, offset_few, finish_few}
use Rattle.sending.proofs.Words.programme.Goals as goal

pub series-requires : goal.series-requires
series-requires c =
    let f = c.args.f in
    let q = c.args.q in
    let pair = few _ _ 2 c.pair.ensures (omega arith) in
    omega (arith, few _ _ 1 c.source.ensures (source_few f q), few _ _ 1 c.date.ensures (date_few f q), few _ _ 1 c.offset.ensures (offset_few f q), pair, few _ _ 2 c.finish.ensures (finish_few q.row q.column q.finish))

pub returns : goal.returns
unfolding groups_of
returns c =
    then _ _ _ c.source.ensures
    (then _ _ _ c.date.ensures
    (then _ _ _ c.offset.ensures
    (then _ _ _ c.pair.ensures
    (then _ _ _ c.finish.ensures c.series.ensures))))
