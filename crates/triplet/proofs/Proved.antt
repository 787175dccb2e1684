-- The laws of the Hamming 24/18 word.
use mathlib.Core.Path.{◌≡◌, refl}
use Rattle.answer.specs.Answer.{Answer, refused, given}
use Rattle.triplet.specs.Word.{word_of, good, triplet_of, coded_answer, coding_of}
use Rattle.triplet.specs.Laws.{Laws}
use Rattle.std.specs.Prelude.{Option, None, Some}
use Prim.Native.Nat.{ℕ, ◌%◌}
use Rattle.answer.proofs.Answers.{equation, numbered}
use Rattle.triplet.proofs.Words.{equations, only_equations, far, one_near, near_clean, near_mended, two}
use Rattle.triplet.proofs.Words.{only_clean, only_mended, sent, clean_good}

abbrev coded : Answer ℕ → Option ℕ
coded (refused n) = None
coded (given w) = Some w

coded_back : (r : Option ℕ) → coded (coded_answer r) ≡ r
coded_back None = refl
coded_back (Some w) = refl

pub laws : Laws
laws = record {
  equations = equations;
  only_equations = only_equations;
  far = far;
  one_near = one_near;
  near_clean = near_clean;
  near_mended = near_mended;
  only_clean = only_clean;
  only_mended = only_mended;
  two = two;
  sent = sent;
  clean = clean_good;
  good_word_unique = λ v. equation (good (v % 262144));
  decode_unique = λ a b c. equation (triplet_of (word_of a b c));
  encode_unique = λ v. numbered coded_answer coded coded_back (coding_of v);
}
