-- The laws hold.
use mathlib.Core.Path.{refl}
use Rattle.answer.proofs.Proved.{laws}
use Rattle.answer.proofs.lawful.Goals as goal

pub returns : goal.returns
returns c = (refl, laws)
