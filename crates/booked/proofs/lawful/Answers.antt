-- The laws hold.
use mathlib.Core.Path.{refl}
use Rattle.booked.proofs.Proved.{laws}
use Rattle.booked.proofs.lawful.Goals as goal

pub returns : goal.returns
returns c = (refl, laws)
