-- The laws hold.
use mathlib.Core.Path.{refl}
use Rattle.table.proofs.Proved.{laws}
use Rattle.table.proofs.lawful.Goals as goal

pub returns : goal.returns
returns c = (refl, laws)
