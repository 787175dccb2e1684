-- The laws hold.
use mathlib.Core.Path.{refl}
use Rattle.reply.proofs.Proved.{laws}
use Rattle.reply.proofs.lawful.Goals as goal

pub returns : goal.returns
returns c = (refl, laws)
