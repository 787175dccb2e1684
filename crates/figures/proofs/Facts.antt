-- Facts of two figures.
use Rattle.std.proofs.Common.{ℕ, ◌+◌, ◌*◌, ◌≤◌, arith}
use Rattle.std.proofs.lemmas.Nat.{mul-le}
use Rattle.codes.specs.Codes.{figure}
use Rattle.codes.proofs.Facts.{figure_small}

pub two_small : (b c d : ℕ) → b ≤ 16 → figure c * b + figure d ≤ 255
two_small b c d h = omega (arith, figure_small c, figure_small d, mul-le (figure c) b 15 16 (figure_small c) h)
