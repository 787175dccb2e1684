-- `terminators` has those of sixteen packets.
use mathlib.Core.Path.{ap}
use lib.ListN.{replicate}
use Rattle.sending.specs.Sending.{room}
use Rattle.sending.proofs.Sends.{none_sent}
use Rattle.sending.proofs.terminators.Goals as goal

pub returns : goal.returns
returns c = none_sent (replicate room c.bits_of.result) (ap (replicate room) c.bits_of.ensures)
