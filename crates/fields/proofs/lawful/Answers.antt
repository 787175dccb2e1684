-- The laws hold.
use mathlib.Core.Path.{refl}
use Rattle.fields.proofs.Proved.{laws}
use Rattle.fields.proofs.lawful.Goals as goal

pub returns : goal.returns
returns c = (refl, laws)
