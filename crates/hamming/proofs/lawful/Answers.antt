-- The laws hold.
use mathlib.Core.Path.{refl}
use Rattle.hamming.proofs.Proved.{laws}
use Rattle.hamming.proofs.lawful.Goals as goal

pub returns : goal.returns
returns c = (refl, laws)
