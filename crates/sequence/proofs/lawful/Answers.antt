-- The laws hold.
use mathlib.Core.Path.{refl}
use Rattle.sequence.proofs.Proved.{laws}
use Rattle.sequence.proofs.lawful.Goals as goal

pub returns : goal.returns
returns c = (refl, laws)
