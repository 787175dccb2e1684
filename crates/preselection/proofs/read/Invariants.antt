-- `read` goes through the packets. What it keeps is `Sofar`: those before packet k are whole and pass, and the state and the page are
-- those of their groups. Each exit is a row of packet k, or the page's end.
use Rattle.preselection.proofs.Packets.{Sofar}
use Rattle.preselection.proofs.read.Given as goal

abbrev pub invariant-loop-k : goal.invariant-loop-k
invariant-loop-k l = Sofar l.bytes l.state l.page l.k
