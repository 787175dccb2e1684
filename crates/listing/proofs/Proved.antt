-- The laws of the listing.
use mathlib.Core.Path.{◌≡◌}
use Rattle.answer.proofs.Answers.{equation, paired}
use Rattle.listing.specs.Laws.{Laws}
use Rattle.listing.specs.Pieces.{blank, after_piece, is_full, reported_by, out_after}
use Rattle.listing.proofs.Machine.{pieces, settled}
use Rattle.listing.proofs.Readings.{room}

pub laws : Laws
laws = record {
  pieces = pieces;
  settled = settled;
  room = room;
  new_unique = equation blank;
  feed_unique = λ c piece. paired (λ r. r ≡ after_piece piece c) (λ p. p ≡ piece) (equation (after_piece piece c)) (equation piece);
  full_unique = λ c. equation (is_full c);
  report_unique =
      λ c out.
      paired (λ r. r ≡ reported_by out c) (λ q. q ≡ out_after out c) (equation (reported_by out c)) (equation (out_after out c));
}
