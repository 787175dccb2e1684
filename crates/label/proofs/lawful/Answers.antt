-- The laws hold.
use mathlib.Core.Path.{refl}
use Rattle.label.proofs.Proved.{laws}
use Rattle.label.proofs.lawful.Goals as goal

pub returns : goal.returns
returns c = (refl, laws)
