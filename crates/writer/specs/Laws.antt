-- What is claimed of the writer: its promise allows one outcome. Proved in proofs/Proved.antt.
use Rattle.std.specs.Prelude.{ℕ, ◌≡◌, List, Result}
use Rattle.answer.specs.Answer.{Unique, number, after}
use Rattle.label.specs.declared.Label.{Label}
use Rattle.label.specs.declared.WriteRefusal.{WriteRefusal}
use Rattle.label.specs.Packet.{written_number, writing_of}

pub record Laws : Type 0 where
  pub write_unique : (l : Label) (p : List ℕ) →
      Unique {A = Result (Unit {0}) WriteRefusal × List ℕ} (λ o. (written_number o.0 ≡ number (writing_of l p)) × (o.1 ≡ after p (writing_of l p)))
