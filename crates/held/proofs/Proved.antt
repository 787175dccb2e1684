-- The laws of the first bytes of an input.
use mathlib.Core.Path.{◌≡◌}
use Rattle.answer.proofs.Answers.{equation, paired}
use Rattle.held.specs.Laws.{Laws}
use Rattle.held.specs.Held.{blank, after_piece, is_full}
use Rattle.held.proofs.Machine.{pieces, settled}

pub laws : Laws
laws = record {
  pieces = pieces;
  settled = settled;
  new_unique = λ n. equation (blank n);
  feed_unique = λ n c piece. paired (λ r. r ≡ after_piece n piece c) (λ p. p ≡ piece) (equation (after_piece n piece c)) (equation piece);
  full_unique = λ n c. equation (is_full n c);
}
