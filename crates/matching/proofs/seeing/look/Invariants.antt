-- The loop's invariant: what the whole look sees is what it sees from place i on, where `first` is the first place before it with a label of the
-- programme.
use mathlib.Core.Path.{◌≡◌}
use lib.ListN.{length}
use Rattle.matching.specs.Look.{look_of}
use Rattle.matching.proofs.Sights.{seen_from}
use Rattle.matching.proofs.seeing.look.Given as goal

abbrev pub invariant-loop-i : goal.invariant-loop-i
invariant-loop-i l = (length l.places ≡ 16) × (look_of l.s l.places l.b ≡ seen_from l.s l.b l.places l.i l.first)
