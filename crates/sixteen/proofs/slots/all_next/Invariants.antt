-- The loop's invariant: the first i timers have gone on, those of them that are live are counted, and the others are as they were.
use Prim.Native.Nat.{◌≤◌}
use mathlib.Core.Path.{◌≡◌}
use lib.ListN.{length}
use Rattle.rule.specs.Rule.{next_timer, live_timer}
use Rattle.sixteen.proofs.Mapped.{map_to}
use Rattle.sixteen.proofs.Counts.{CountedTo}
use Rattle.sixteen.proofs.slots.all_next.Given as goal

abbrev pub invariant-loop-i : goal.invariant-loop-i
invariant-loop-i l =
    ((l.out ≡ map_to (next_timer l.s l.places) l.i l.initial.out) × (l.live ≤ l.i) × CountedTo (next_timer l.s l.places) live_timer l.initial.out l.live l.i) × (length l.initial.out ≡ 16)
