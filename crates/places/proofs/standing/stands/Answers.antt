-- `Ages.at_most` carries it: the sum stands for the difference.
use mathlib.Core.Path.{refl}
use Rattle.places.specs.Places.{stands}
use Rattle.places.proofs.Ages.{at_most}
use Rattle.places.proofs.standing.stands.Goals as goal

pub returns : goal.returns
unfolding stands
returns c = rw at_most refl
