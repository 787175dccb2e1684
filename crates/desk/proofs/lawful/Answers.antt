-- The laws hold.
use mathlib.Core.Path.{refl}
use Rattle.desk.proofs.Proved.{laws}
use Rattle.desk.proofs.lawful.Goals as goal

pub returns : goal.returns
returns c = (refl, laws)
