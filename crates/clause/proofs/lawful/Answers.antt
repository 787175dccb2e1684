-- The clause's examples hold.
use mathlib.Core.Path.{refl}
use Rattle.clause.proofs.Proved.{clause}
use Rattle.clause.proofs.lawful.Goals as goal

pub returns : goal.returns
returns c = (refl, clause)
