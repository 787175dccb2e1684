-- The laws hold.
use mathlib.Core.Path.{refl}
use Rattle.view.proofs.Proved.{laws}
use Rattle.view.proofs.lawful.Goals as goal

pub returns : goal.returns
returns c = (refl, laws)
