-- The law of the reader: a reading back from its number or from what is received.
use Prim.Native.Nat.{ℕ}
use Rattle.std.proofs.Common.{◌≡◌, refl, ap, Result, Ok, Err}
use mathlib.Core.Bool.{cond}
use lib.Dec.{eqb}
use Rattle.answer.specs.Answer.{Answer, refused, given}
use Rattle.answer.proofs.Answers.{equation, numbered, paired}
use Rattle.label.specs.declared.Received.{Received}
use Rattle.label.specs.declared.Refusal.{Refusal}
use Rattle.label.specs.declared.Refusal.TheVariants.{Length, AddressDamaged, OtherPacket, DesignationDamaged, OtherDesignation, LabelDamaged}
use Rattle.label.specs.Packet.{refusal_number, reading_answer, reception_of}
use Rattle.reader.specs.Laws.{Laws}

named : ℕ → Refusal
named n =
    cond (eqb n 1) Length
    (cond (eqb n 2) AddressDamaged
    (cond (eqb n 3) OtherPacket (cond (eqb n 4) DesignationDamaged (cond (eqb n 5) OtherDesignation LabelDamaged))))

named_back : (r : Refusal) → named (refusal_number r) ≡ r
unfolding named
named_back Length = refl
named_back AddressDamaged = refl
named_back OtherPacket = refl
named_back DesignationDamaged = refl
named_back OtherDesignation = refl
named_back LabelDamaged = refl

abbrev reading : Answer Received → Result Received Refusal
reading (refused n) = Err (named n)
reading (given r) = Ok r

reading_back : (r : Result Received Refusal) → reading (reading_answer r) ≡ r
reading_back (Err r) = ap Err (named_back r)
reading_back (Ok r) = refl

pub laws : Laws
laws = record {
  read_unique =
      λ p. paired (λ r. reading_answer r ≡ reception_of p) (λ q. q ≡ p) (numbered reading_answer reading reading_back (reception_of p)) (equation p);
}
