-- The laws hold.
use mathlib.Core.Path.{refl}
use Rattle.viewed.proofs.Proved.{laws}
use Rattle.viewed.proofs.lawful.Goals as goal

pub returns : goal.returns
returns c = (refl, laws)
