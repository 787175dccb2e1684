-- `added` adds the figures one after the other, each 15 at most.
use Rattle.std.specs.Prelude.{◌≡◌, ◌*◌, ◌≤◌, map, take}
use Rattle.codes.specs.Codes.{figure}
use Rattle.sums.specs.Counted.{sum_of}
use Rattle.sums.proofs.added.Given as goal

abbrev pub invariant-loop-c : goal.invariant-loop-c
invariant-loop-c l = (l.sum ≡ sum_of (map figure (take l.c-index l.shown))) × (l.sum ≤ 15 * l.c-index)
