-- The bits of the flags, and of CNI, PIL and PTY, one after the other.
use Rattle.std.proofs.Common.{rules}
use Rattle.label.proofs.Sent.{number_sent}
use Rattle.writer.proofs.number_of.Goals as goal

pub returns : goal.returns
returns c =
    rw (c.from.ensures, c.from-cni.ensures, c.from-pil.ensures, c.from-pty.ensures) (number_sent c.args.l c.flags.ensures (search rules) (search rules))
