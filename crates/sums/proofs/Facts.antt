-- Figures added one after the other.
use Rattle.std.proofs.Common.{ℕ, zero, suc, ◌+◌, ◌<◌, ◌≡◌, List, [], ◌∷◌, length, get_or, map, take, arith}
use Rattle.codes.specs.Codes.{figure}
use Rattle.sums.specs.Counted.{sum_of}

pub one_added : (cs : List ℕ) (i d : ℕ) → i < length cs → sum_of (map figure (take (suc i) cs)) ≡ sum_of (map figure (take i cs)) + figure (get_or cs i d)
one_added [] i d h = absurd (omega (arith, h))
one_added (c ∷ cs) zero d h = omega arith
one_added (c ∷ cs) (suc i) d h = omega (arith, one_added cs i d (omega (arith, h)))
