-- What is claimed of the reader: its promise allows one outcome. Proved in proofs/Proved.antt.
use Rattle.std.specs.Prelude.{ℕ, ◌≡◌, List, Result}
use Rattle.answer.specs.Answer.{Unique}
use Rattle.label.specs.declared.Received.{Received}
use Rattle.label.specs.declared.Refusal.{Refusal}
use Rattle.label.specs.Packet.{reading_answer, reception_of}

pub record Laws : Type 0 where
  pub read_unique : (p : List ℕ) → Unique {A = Result Received Refusal × List ℕ} (λ o. (reading_answer o.0 ≡ reception_of p) × (o.1 ≡ p))
