-- The laws hold.
use mathlib.Core.Path.{refl}
use Rattle.recording.proofs.Proved.{recording}
use Rattle.recording.proofs.lawful.Goals as goal

pub returns : goal.returns
returns c = (refl, recording)
