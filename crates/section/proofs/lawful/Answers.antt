-- The laws hold.
use mathlib.Core.Path.{refl}
use Rattle.section.proofs.Proved.{laws}
use Rattle.section.proofs.lawful.Goals as goal

pub returns : goal.returns
returns c = (refl, laws)
