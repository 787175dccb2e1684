-- The laws hold.
use mathlib.Core.Path.{refl}
use Rattle.items.proofs.Proved.{laws}
use Rattle.items.proofs.lawful.Goals as goal

pub returns : goal.returns
returns c = (refl, laws)
