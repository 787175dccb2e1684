-- `write` refuses by the first row that applies. Past them the loop's invariant: the first i bytes of the page are written, whatever
-- the groups are that have these triplets.
use Prim.Native.Nat.{ℕ, ◌<◌}
use mathlib.Core.Path.{◌≡◌}
use mathlib.Core.List.{List}
use lib.ListN.{length, get_or}
use lib.Seq.{sets}
use Rattle.group.specs.declared.Group.{Group}
use Rattle.programmes.specs.Written.{bits_at, bytes_to}
use Rattle.sending.specs.Sending.{room}
use Rattle.preselection.proofs.write.Given as goal

abbrev pub invariant-loop-i : goal.invariant-loop-i
invariant-loop-i l =
    (length l.buf ≡ length l.initial.buf)
    × ((gs : List Group) → ((n : ℕ) → n < room → get_or l.words.bits n 0 ≡ bits_at gs n) → l.buf ≡ sets l.initial.buf 0 (bytes_to l.magazine gs l.i))
