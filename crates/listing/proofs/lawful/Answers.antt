-- The laws hold.
use mathlib.Core.Path.{refl}
use Rattle.listing.proofs.Proved.{laws}
use Rattle.listing.proofs.lawful.Goals as goal

pub returns : goal.returns
returns c = (refl, laws)
