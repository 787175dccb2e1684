-- The laws hold.
use mathlib.Core.Path.{refl}
use Rattle.sums.proofs.Proved.{laws}
use Rattle.sums.proofs.lawful.Goals as goal

pub returns : goal.returns
returns c = (refl, laws)
