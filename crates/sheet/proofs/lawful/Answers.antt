-- The laws hold.
use mathlib.Core.Path.{refl}
use Rattle.sheet.proofs.Proved.{laws}
use Rattle.sheet.proofs.lawful.Goals as goal

pub returns : goal.returns
returns c = (refl, laws)
