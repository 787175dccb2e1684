-- The laws hold.
use mathlib.Core.Path.{refl}
use Rattle.sixteen.proofs.Proved.{laws}
use Rattle.sixteen.proofs.lawful.Goals as goal

pub returns : goal.returns
returns c = (refl, laws)
