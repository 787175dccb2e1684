-- The laws hold.
use mathlib.Core.Path.{refl}
use Rattle.places.proofs.Proved.{laws}
use Rattle.places.proofs.lawful.Goals as goal

pub returns : goal.returns
returns c = (refl, laws)
