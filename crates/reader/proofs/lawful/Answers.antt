-- The law holds.
use mathlib.Core.Path.{refl}
use Rattle.reader.proofs.Proved.{laws}
use Rattle.reader.proofs.lawful.Goals as goal

pub returns : goal.returns
returns c = (refl, laws)
