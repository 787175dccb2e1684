-- The laws hold.
use mathlib.Core.Path.{refl}
use Rattle.history.proofs.Proved.{laws}
use Rattle.history.proofs.lawful.Goals as goal

pub returns : goal.returns
returns c = (refl, laws)
