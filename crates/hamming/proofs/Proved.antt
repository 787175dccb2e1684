-- The laws of the Hamming byte.
use Rattle.std.proofs.Common.{◌≡◌, refl, ℕ, ◌%◌, Option, Some, None}
use Rattle.answer.specs.Answer.{Answer, refused, given}
use Rattle.hamming.specs.Byte.{good, nibble_of, coded_answer, coding_of}
use Rattle.hamming.specs.Laws.{Laws}
use Rattle.answer.proofs.Answers.{equation, numbered}
use Rattle.hamming.proofs.Nearest.{no_nearer, reached, only_clean, only_mended}
use Rattle.hamming.proofs.Bytes.{equations, far, one_near, near_clean, near_mended, two, sent, clean_good}

abbrev coded : Answer ℕ → Option ℕ
coded (refused n) = None
coded (given b) = Some b

coded_back : (r : Option ℕ) → coded (coded_answer r) ≡ r
coded_back None = refl
coded_back (Some b) = refl

pub laws : Laws
laws = record {
  equations = equations;
  far = far;
  one_near = one_near;
  least = no_nearer;
  reached = reached;
  near_clean = near_clean;
  near_mended = near_mended;
  only_clean = only_clean;
  only_mended = only_mended;
  two = two;
  sent = sent;
  clean = clean_good;
  good_byte_unique = λ v. equation (good (v % 16));
  decode_unique = λ b. equation (nibble_of b);
  encode_unique = λ v. numbered coded_answer coded coded_back (coding_of v);
}
