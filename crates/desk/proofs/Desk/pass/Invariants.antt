-- The loop's invariant: the seconds walked so far and those from here on are those of the whole pass, and both end at the same desk.
use Prim.Native.Nat.{◌+◌, ◌≤◌, ◌-◌}
use mathlib.Core.Path.{◌≡◌}
use Rattle.desk.specs.Moments.{pass_to, walked_to}
use Rattle.desk.proofs.Desk.pass.Given as goal

abbrev pub invariant-loop-d : goal.invariant-loop-d
invariant-loop-d l = (walked_to l.t l.initial.d ≡ l.n + walked_to l.t l.d) × (pass_to l.t l.initial.d ≡ pass_to l.t l.d) × (l.n + (l.t - l.d.clock) ≤ l.t)

abbrev pub decreases-loop-d : goal.decreases-loop-d
decreases-loop-d l = l.t - l.d.clock
