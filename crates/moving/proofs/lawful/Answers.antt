-- The laws hold.
use mathlib.Core.Path.{refl}
use Rattle.moving.proofs.Proved.{laws}
use Rattle.moving.proofs.lawful.Goals as goal

pub returns : goal.returns
returns c = (refl, laws)
