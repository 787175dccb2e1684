-- What is answered through lent bytes: a refusal where they are more or fewer, else the answer of the call below.
use Prim.Native.Nat.{ℕ}
use mathlib.Core.Path.{◌≡◌, ap, ◌∙◌}
use mathlib.Core.List.{List}
use lib.ListN.{length}
use Rattle.answer.specs.Answer.{Answer, refused, given, number, after, and_then}
use Rattle.label.specs.declared.Label.{Label}
use Rattle.label.specs.declared.Received.{Received}
use Rattle.label.specs.Packet.{reception_of, writing_of}
use Rattle.fields.specs.Fields.{wrong_room}
use Rattle.fields.proofs.Through.{as_both, through, stopped}
use Rattle.probe.specs.Plain.{received_bytes, label_of, read_into, write_from}

abbrev in_bytes : Answer Received → Answer (List ℕ)
in_bytes a = and_then a (λ r. given (received_bytes r))

pub read_stopped : (p out : List ℕ) → (length out ≡ 14 → ⊥) → refused wrong_room ≡ read_into p out
unfolding read_into
read_stopped p out h = stopped 14 out (λ o. in_bytes (reception_of p)) h

pub read_through : (p out : List ℕ) (a : Answer Received) → length out ≡ 14 → a ≡ reception_of p → in_bytes a ≡ read_into p out
unfolding read_into
read_through p out a h e = ap in_bytes e ∙ through 14 out (λ o. in_bytes (reception_of p)) h

pub write_stopped : (f p : List ℕ) → (length f ≡ 13 → ⊥) → refused wrong_room ≡ write_from f p
unfolding write_from
write_stopped f p h = stopped 13 f (λ g. writing_of (label_of g) p) h

write_through : (f p : List ℕ) → length f ≡ 13 → writing_of (label_of f) p ≡ write_from f p
unfolding write_from
write_through f p h = through 13 f (λ g. writing_of (label_of g) p) h

-- what the writer left of a packet and answered by the number n, it did for the thirteen bytes
pub written : (f p : List ℕ) {last : List ℕ} {l : Label} {n : ℕ} → length f ≡ 13 → l ≡ label_of f →
    n ≡ number (writing_of l p) → last ≡ after p (writing_of l p) → (n ≡ number (write_from f p)) × (last ≡ after p (write_from f p))
written f p h e told left = let t = as_both p (ap (λ (m : Label). writing_of m p) e ∙ write_through f p h) in (told ∙ t.0, left ∙ t.1)
