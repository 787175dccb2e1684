-- The laws hold.
use mathlib.Core.Path.{refl}
use Rattle.sending.proofs.Proved.{laws}
use Rattle.sending.proofs.lawful.Goals as goal

pub returns : goal.returns
returns c = (refl, laws)
