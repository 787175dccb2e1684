-- The marked examples hold.
use mathlib.Core.Path.{refl}
use Rattle.marked.proofs.Proved.{marked}
use Rattle.marked.proofs.lawful.Goals as goal

pub returns : goal.returns
returns c = (refl, marked)
