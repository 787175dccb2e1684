-- The laws hold.
use mathlib.Core.Path.{refl}
use Rattle.preview.proofs.Proved.{laws}
use Rattle.preview.proofs.lawful.Goals as goal

pub returns : goal.returns
returns c = (refl, laws)
