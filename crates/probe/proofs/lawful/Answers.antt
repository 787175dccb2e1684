-- The laws hold.
use mathlib.Core.Path.{refl}
use Rattle.probe.proofs.Proved.{laws}
use Rattle.probe.proofs.lawful.Goals as goal

pub returns : goal.returns
returns c = (refl, laws)
