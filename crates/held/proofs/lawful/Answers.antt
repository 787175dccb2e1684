-- The laws hold.
use mathlib.Core.Path.{refl}
use Rattle.held.proofs.Proved.{laws}
use Rattle.held.proofs.lawful.Goals as goal

pub returns : goal.returns
returns c = (refl, laws)
