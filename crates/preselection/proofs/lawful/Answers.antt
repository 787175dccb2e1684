-- The laws hold.
use mathlib.Core.Path.{refl}
use Rattle.preselection.proofs.Proved.{laws}
use Rattle.preselection.proofs.lawful.Goals as goal

pub returns : goal.returns
returns c = (refl, laws)
