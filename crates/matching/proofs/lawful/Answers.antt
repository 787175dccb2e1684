-- The laws hold.
use mathlib.Core.Path.{refl}
use Rattle.matching.proofs.Proved.{laws}
use Rattle.matching.proofs.lawful.Goals as goal

pub returns : goal.returns
returns c = (refl, laws)
