-- The loop's invariant: the sum is cut below 65536, so that no turn exceeds its width.
use Rattle.std.proofs.Common.{◌<◌}
use Rattle.calls.proofs.rows.panel.Given as goal

abbrev pub invariant-loop : goal.invariant-loop
invariant-loop l = l.all < 65536
