-- The laws hold.
use mathlib.Core.Path.{refl}
use Rattle.calendar.proofs.Proved.{laws}
use Rattle.calendar.proofs.lawful.Goals as goal

pub returns : goal.returns
returns c = (refl, laws)
