-- The laws of a page that is read and written: what is written back from its answer.
use Rattle.std.specs.Prelude.{Result, Ok, Err}
use Prim.Native.Nat.{ℕ}
use mathlib.Core.Path.{◌≡◌, refl, ap}
use mathlib.Core.Bool.{cond}
use lib.Dec.{eqb}
use Rattle.answer.specs.Answer.{Answer, refused, given, after, and_then}
use Rattle.answer.proofs.Answers.{equation, numbered, paired}
use Rattle.programmes.specs.declared.Page.{Page}
use Rattle.programmes.specs.declared.Refusal.{Refusal}
use Rattle.programmes.specs.declared.Refusal.TheVariants.{Length, Damaged, OtherPacket, Lacking}
use Rattle.programmes.specs.declared.WriteRefusal.{WriteRefusal}
use Rattle.programmes.specs.declared.WriteRefusal.TheVariants.{WrongLength, OutOfRange}
use Rattle.programmes.specs.Page.{read_number, reading_answer, reading_of, page_of}
use Rattle.programmes.specs.Written.{written_answer, writing_of, programmes_of}
use Rattle.preselection.specs.Laws.{Laws}

abbrev outcome : Answer ℕ → Result ℕ WriteRefusal
outcome (refused n) = Err (cond (eqb n 20) WrongLength OutOfRange)
outcome (given n) = Ok n

outcome_back : (w : Result ℕ WriteRefusal) → outcome (written_answer w) ≡ w
outcome_back (Err WrongLength) = refl
outcome_back (Err OutOfRange) = refl
outcome_back (Ok n) = refl

abbrev named : ℕ → Refusal
named n = cond (eqb n 20) Length (cond (eqb n 21) Damaged (cond (eqb n 18) OtherPacket Lacking))

named_back : (r : Refusal) → named (read_number r) ≡ r
named_back Length = refl
named_back Damaged = refl
named_back OtherPacket = refl
named_back Lacking = refl

abbrev reading : Answer Page → Result Page Refusal
reading (refused n) = Err (named n)
reading (given page) = Ok page

reading_back : (r : Result Page Refusal) → reading (reading_answer r) ≡ r
reading_back (Err r) = ap Err (named_back r)
reading_back (Ok page) = refl

pub laws : Laws
laws = record {
  read_unique =
      λ p.
      let told = and_then (reading_of p) (λ qs. given (page_of qs)) in
      paired (λ r. reading_answer r ≡ told) (λ q. q ≡ p) (numbered reading_answer reading reading_back told) (equation p);
  write_unique =
      λ m page p.
      let told = and_then (writing_of m (programmes_of page) p) (λ w. given w.packets) in
      let left = after p (and_then (writing_of m (programmes_of page) p) (λ w. given w.bytes)) in
      paired (λ w. written_answer w ≡ told) (λ q. q ≡ left) (numbered written_answer outcome outcome_back told) (equation left);
}
