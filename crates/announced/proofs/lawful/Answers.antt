-- The laws hold.
use mathlib.Core.Path.{refl}
use Rattle.announced.proofs.Proved.{laws}
use Rattle.announced.proofs.lawful.Goals as goal

pub returns : goal.returns
returns c = (refl, laws)
