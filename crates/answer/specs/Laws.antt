-- What is claimed of the words that every layer uses. Proved in proofs/Proved.antt.
use Rattle.std.specs.Prelude.{ℕ, min, ◌≡◌, [], ◌∷◌}
use Rattle.answer.specs.Answer.{Unique}
use Rattle.answer.specs.Bytes.{number_of}
use Rattle.answer.specs.Text.{digit}

pub record Laws : Type 0 where
  -- each call's promise allows one outcome
  pub pair_unique : (a b : ℕ) → Unique (λ r. r ≡ number_of (a ∷ b ∷ []))
  pub triple_unique : (a b c : ℕ) → Unique (λ r. r ≡ number_of (a ∷ b ∷ c ∷ []))
  pub four_unique : (a b c d : ℕ) → Unique (λ r. r ≡ number_of (a ∷ b ∷ c ∷ d ∷ []))
  pub digit_unique : (n : ℕ) → Unique (λ r. r ≡ digit n)
  pub least_unique : (m n : ℕ) → Unique (λ r. r ≡ min m n)
