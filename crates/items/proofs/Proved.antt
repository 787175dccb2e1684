-- The laws of a sheet's items.
use Prim.Native.Nat.{◌+◌}
use mathlib.Core.Path.{◌≡◌}
use lib.ListN.{drop}
use Rattle.answer.proofs.Answers.{equation, paired}
use Rattle.items.specs.Laws.{Laws}
use Rattle.items.specs.Pieces.{unsplit, taken_from, whole_at, left_over, longest_sheet, deciding_after}
use Rattle.items.proofs.Machine.{pieces, settled}
use Rattle.items.proofs.Taking.{taking}
use Rattle.items.proofs.Longest.{longest_sheet_lem, few_packets}

pub laws : Laws
laws = record {
  pieces = pieces;
  settled = settled;
  longest_sheet_lem = longest_sheet_lem;
  taken = λ piece from s h. let t = taking piece from s h in (t.items, t.after, t.on);
  few_packets = few_packets;
  new_unique = equation unsplit;
  take_unique =
      λ s piece from.
      paired (λ r. r ≡ taken_from (drop from piece) from s) (λ p. p ≡ piece) (equation (taken_from (drop from piece) from s)) (equation piece);
  whole_unique = λ s ended. equation (whole_at ended s);
  left_over_unique = λ s. equation (left_over s.stage);
  deciding_unique = equation (longest_sheet + 1);
  still_deciding_unique = λ left got settled. equation (deciding_after left got settled);
}
