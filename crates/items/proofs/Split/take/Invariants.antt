-- `take`'s loop: the bytes from here on, taken with what is held now, come to what all come to. The measure is what is left of the
-- piece.
use Rattle.std.proofs.Common.{◌-◌, ◌≡◌, length, drop}
use Rattle.items.specs.Pieces.{taken_from}
use Rattle.items.proofs.Split.take.Given as goal

abbrev pub invariant-loop-b : goal.invariant-loop-b
invariant-loop-b l =
    taken_from (drop l.at l.piece) l.at (record { stage = l.self.stage; have = l.have; held = l.held })
    ≡ taken_from (drop l.initial.at l.piece) l.initial.at (record { stage = l.self.stage; have = l.initial.have; held = l.initial.held })

abbrev pub decreases-loop-b : goal.decreases-loop-b
decreases-loop-b l = length l.piece - l.at
