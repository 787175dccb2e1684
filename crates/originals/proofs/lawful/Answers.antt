-- The laws hold.
use mathlib.Core.Path.{refl}
use Rattle.originals.proofs.Proved.{laws}
use Rattle.originals.proofs.lawful.Goals as goal

pub returns : goal.returns
returns c = (refl, laws)
