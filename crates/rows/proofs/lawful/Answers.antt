-- The laws hold.
use mathlib.Core.Path.{refl}
use Rattle.rows.proofs.Proved.{laws}
use Rattle.rows.proofs.lawful.Goals as goal

pub returns : goal.returns
returns c = (refl, laws)
