-- The laws hold.
use mathlib.Core.Path.{refl}
use Rattle.programmes.proofs.Proved.{laws}
use Rattle.programmes.proofs.lawful.Goals as goal

pub returns : goal.returns
returns c = (refl, laws)
