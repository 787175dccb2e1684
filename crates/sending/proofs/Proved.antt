-- The laws of the triplets of programmes.
use Rattle.answer.specs.Lists.{some}
use Rattle.answer.proofs.Answers.{equation}
use Rattle.programmes.specs.Written.{outside, programmes_of}
use Rattle.sending.specs.Sending.{words_of}
use Rattle.sending.specs.Laws.{Laws}

pub laws : Laws
laws = record {
  outside_unique = λ q. equation (outside q);
  any_outside_unique = λ page. equation (some outside (programmes_of page));
  words_unique = λ page. equation (words_of (programmes_of page));
}
