-- The laws hold.
use mathlib.Core.Path.{refl}
use Rattle.tally.proofs.Proved.{laws}
use Rattle.tally.proofs.lawful.Goals as goal

pub returns : goal.returns
returns c = (refl, laws)
