-- `data_bits` puts the data bits together.
use Rattle.triplet.proofs.Good.{data_parts}
use Rattle.triplet.proofs.data_bits.Goals as goal

pub returns : goal.returns
returns c = data_parts c.args.w
