-- The laws hold.
use mathlib.Core.Path.{refl}
use Rattle.rule.proofs.Proved.{laws}
use Rattle.rule.proofs.lawful.Goals as goal

pub returns : goal.returns
returns c = (refl, laws)
