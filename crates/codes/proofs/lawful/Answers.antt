-- The laws hold.
use mathlib.Core.Path.{refl}
use Rattle.codes.proofs.Proved.{laws}
use Rattle.codes.proofs.lawful.Goals as goal

pub returns : goal.returns
returns c = (refl, laws)
