-- The law of the writer: what is written back from its number.
use Prim.Native.Nat.{ℕ}
use Rattle.std.proofs.Common.{◌≡◌, refl, Result, Ok, Err}
use mathlib.Core.Bool.{cond}
use lib.Dec.{eqb}
use Rattle.answer.specs.Answer.{number, after}
use Rattle.answer.proofs.Answers.{equation, numbered, paired}
use Rattle.label.specs.declared.WriteRefusal.{WriteRefusal}
use Rattle.label.specs.declared.WriteRefusal.TheVariants.{WrongLength, TooWide}
use Rattle.label.specs.Packet.{written_number, writing_of}
use Rattle.writer.specs.Laws.{Laws}

abbrev outcome : ℕ → Result (Unit {0}) WriteRefusal
outcome n = cond (eqb n 1) (Err WrongLength) (cond (eqb n 16) (Err TooWide) (Ok tt))

outcome_back : (w : Result (Unit {0}) WriteRefusal) → outcome (written_number w) ≡ w
outcome_back (Err WrongLength) = refl
outcome_back (Err TooWide) = refl
outcome_back (Ok done) = refl

pub laws : Laws
laws = record {
  write_unique =
      λ l p.
      paired (λ w. written_number w ≡ number (writing_of l p)) (λ q. q ≡ after p (writing_of l p)) (numbered written_number outcome outcome_back (number (writing_of l p)))
      (equation (after p (writing_of l p)));
}
