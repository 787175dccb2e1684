-- The laws of the words that every layer uses.
use Prim.Native.Nat.{min}
use mathlib.Core.List.{[], ◌∷◌}
use Rattle.answer.specs.Bytes.{number_of}
use Rattle.answer.specs.Laws.{Laws}
use Rattle.answer.specs.Text.{digit}
use Rattle.answer.proofs.Answers.{equation}

pub laws : Laws
laws = record {
  pair_unique = λ a b. equation (number_of (a ∷ b ∷ []));
  triple_unique = λ a b c. equation (number_of (a ∷ b ∷ c ∷ []));
  four_unique = λ a b c d. equation (number_of (a ∷ b ∷ c ∷ d ∷ []));
  digit_unique = λ n. equation (digit n);
  least_unique = λ m n. equation (min m n);
}
