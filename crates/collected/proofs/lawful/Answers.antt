-- The laws hold.
use mathlib.Core.Path.{refl}
use Rattle.collected.proofs.Proved.{laws}
use Rattle.collected.proofs.lawful.Goals as goal

pub returns : goal.returns
returns c = (refl, laws)
