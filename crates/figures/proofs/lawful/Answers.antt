-- The laws hold.
use mathlib.Core.Path.{refl}
use Rattle.figures.proofs.Proved.{laws}
use Rattle.figures.proofs.lawful.Goals as goal

pub returns : goal.returns
returns c = (refl, laws)
