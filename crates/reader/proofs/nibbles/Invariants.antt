-- `nibbles` goes through bytes 9 to 21. The invariant: the number is that of the bits of the bytes from 9 up to i, none of which is damaged,
-- and `mended` says how many of them are mended.
use Rattle.std.proofs.Common.{◌-◌, ◌≡◌, false}
use Rattle.label.specs.Layout.{bit_at}
use Rattle.label.specs.Number.{number_by}
use Rattle.answer.specs.Lists.{some, count}
use Rattle.label.specs.Packet.{value_at, damaged_at, mended_at}
use Rattle.label.proofs.Puts.{run}
use Rattle.reader.proofs.nibbles.Given as goal

abbrev pub invariant-loop-i : goal.invariant-loop-i
invariant-loop-i l =
    (some (damaged_at l.bytes) (run 9 (l.i - 9)) ≡ false)
    × (l.mended ≡ count (mended_at l.bytes) (run 9 (l.i - 9)))
    × (l.number ≡ number_by (bit_at (value_at l.bytes)) (run 9 (l.i - 9)))
