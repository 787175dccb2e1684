-- The laws hold.
use mathlib.Core.Path.{refl}
use Rattle.formats.proofs.Proved.{laws}
use Rattle.formats.proofs.lawful.Goals as goal

pub returns : goal.returns
returns c = (refl, laws)
