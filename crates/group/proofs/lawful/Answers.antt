-- The laws hold.
use mathlib.Core.Path.{refl}
use Rattle.group.proofs.Proved.{laws}
use Rattle.group.proofs.lawful.Goals as goal

pub returns : goal.returns
returns c = (refl, laws)
