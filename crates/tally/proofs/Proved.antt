-- The laws of the counts.
use mathlib.Core.Path.{◌≡◌}
use Rattle.answer.proofs.Answers.{equation, paired}
use Rattle.items.specs.Pieces.{left_over}
use Rattle.tally.specs.Laws.{Laws}
use Rattle.tally.specs.Pieces.{blank, after_piece, reported_by, out_after}
use Rattle.tally.proofs.Counting.{once}
use Rattle.tally.proofs.Machine.{pieces, settled, small}
use Rattle.tally.proofs.Rooms.{room}

pub laws : Laws
laws = record {
  pieces = pieces;
  settled = settled;
  once = once;
  small = small;
  room = room;
  new_unique = equation blank;
  feed_unique = λ t piece. paired (λ r. r ≡ after_piece piece t) (λ p. p ≡ piece) (equation (after_piece piece t)) (equation piece);
  left_over_unique = λ t. equation (left_over t.split.stage);
  report_unique =
      λ t ended out.
      paired (λ r. r ≡ reported_by ended out t) (λ q. q ≡ out_after ended out t) (equation (reported_by ended out t)) (equation (out_after ended out t));
}
