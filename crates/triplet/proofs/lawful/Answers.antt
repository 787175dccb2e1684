-- The laws hold.
use mathlib.Core.Path.{refl}
use Rattle.triplet.proofs.Proved.{laws}
use Rattle.triplet.proofs.lawful.Goals as goal

pub returns : goal.returns
returns c = (refl, laws)
