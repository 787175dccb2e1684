-- The laws hold.
use mathlib.Core.Path.{refl}
use Rattle.report.proofs.Proved.{laws}
use Rattle.report.proofs.lawful.Goals as goal

pub returns : goal.returns
returns c = (refl, laws)
