-- The laws of a preview page.
use Prim.Native.Nat.{ℕ}
use mathlib.Core.Path.{◌≡◌, refl, ap, ◌∙◌}
use mathlib.Core.Bool.{cond}
use mathlib.Core.List.{List}
use lib.Dec.{eqb}
use Rattle.std.proofs.Common.{Result, Ok, Err}
use Rattle.answer.specs.Answer.{Answer, refused, given, Unique}
use Rattle.answer.proofs.Answers.{equation, numbered, paired}
use Rattle.preview.specs.declared.Refusal.{Refusal}
use Rattle.preview.specs.declared.Refusal.TheVariants.{Length, Unreadable, WrongWord}
use Rattle.preview.specs.Taken.{answer_of, read_number, reading_answer, paged, ReadAs}
use Rattle.preview.specs.Laws.{Laws}
use Rattle.preview.proofs.Readings.{one_reading, answered, one_answer}
use Rattle.preview.proofs.Only.{accepted_only, only_24, only_25, sum}
use Rattle.preview.proofs.Most.{at_most_24}
use Rattle.preview.proofs.Texts.{text_changes_nothing}

named : ℕ → Refusal
named n = cond (eqb n 23) Length (cond (eqb n 24) Unreadable WrongWord)

named_back : (r : Refusal) → named (read_number r) ≡ r
unfolding named
named_back Length = refl
named_back Unreadable = refl
named_back WrongWord = refl

abbrev reading : {A : Type 0} → Answer A → Result A Refusal
reading (refused n) = Err (named n)
reading (given x) = Ok x

reading_back : {A : Type 0} (r : Result A Refusal) → reading (reading_answer r) ≡ r
reading_back (Err r) = ap Err (named_back r)
reading_back (Ok x) = refl

-- an answer is told in one way
pub told_once : {A : Type 0} (d : Answer A) → Unique (λ (r : Result A Refusal). reading_answer r ≡ d)
told_once d = numbered reading_answer reading reading_back d

-- and the grammar has one answer for a page
read_once : (page : List ℕ) → Unique (ReadAs page)
read_once page r s (a, v, e) (b, w, f) =
    let same : b ≡ a = one_answer page b a w v in
    told_once (paged a) r s e (f ∙ ap paged same)

pub laws : Laws
laws = record {
  one_reading = one_reading;
  answered = λ page. (answer_of page, answered page);
  one_answer = one_answer;
  accepted_only = accepted_only;
  only_24 = only_24;
  only_25 = only_25;
  sum = sum;
  at_most_24 = at_most_24;
  text_changes_nothing = text_changes_nothing;
  read_unique = λ page. paired (ReadAs page) (λ q. q ≡ page) (read_once page) (equation page);
  number_unique = λ r. equation (read_number r);
}
