-- The laws hold.
use mathlib.Core.Path.{refl}
use Rattle.clocked.proofs.Proved.{laws}
use Rattle.clocked.proofs.lawful.Goals as goal

pub returns : goal.returns
returns c = (refl, laws)
