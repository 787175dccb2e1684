-- The laws of a sheet.
use mathlib.Core.Path.{◌≡◌}
use native.Mathlib.Omega.{arith}
use Rattle.answer.proofs.Answers.{equation, paired}
use Rattle.items.specs.Pieces.{left_over}
use Rattle.sheet.specs.Laws.{Laws}
use Rattle.sheet.specs.Pieces.{blank, fed_by, out_after, closed_by, out_closed}
use Rattle.sheet.proofs.Machine.{pieces, settled}
use Rattle.sheet.proofs.Small.{slot_inside, small_refusal, small_answer, live_inside, timers_kept, full_count}

pub laws : Laws
laws = record {
  pieces = pieces;
  settled = settled;
  small_slot = λ b d t l e. omega (arith, slot_inside b d t e);
  small_refusal = small_refusal;
  small_answer = small_answer;
  small_count = λ d l k. omega (arith, live_inside d, k);
  timers_kept = timers_kept;
  full_count = full_count;
  new_unique = equation blank;
  feed_unique =
      λ s piece out at.
      paired (λ r. (r.0 ≡ fed_by piece out at s) × (r.1 ≡ out_after piece out at s)) (λ p. p ≡ piece)
      (paired (λ r. r ≡ fed_by piece out at s) (λ q. q ≡ out_after piece out at s) (equation (fed_by piece out at s)) (equation (out_after piece out at s)))
      (equation piece);
  left_over_unique = λ s. equation (left_over s.split.stage);
  close_unique =
      λ s ended out at.
      paired (λ r. r ≡ closed_by ended out at s) (λ q. q ≡ out_closed ended out at s)
      (equation (closed_by ended out at s)) (equation (out_closed ended out at s));
}
