-- `fill` goes through bytes 9 to 21. The invariant: the bytes from 9 up to i have been written, each from four bits of the number.
use Rattle.std.proofs.Common.{◌-◌, ◌≡◌}
use Rattle.label.specs.Packet.{put}
use Rattle.label.proofs.Puts.{run}
use Rattle.label.proofs.Sent.{byte_of}
use Rattle.writer.proofs.fill.Given as goal

abbrev pub invariant-loop-i : goal.invariant-loop-i
invariant-loop-i l = l.buf ≡ put (byte_of l.number) (run 9 (l.i - 9)) l.initial.buf
