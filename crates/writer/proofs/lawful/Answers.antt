-- The law holds.
use mathlib.Core.Path.{refl}
use Rattle.writer.proofs.Proved.{laws}
use Rattle.writer.proofs.lawful.Goals as goal

pub returns : goal.returns
returns c = (refl, laws)
