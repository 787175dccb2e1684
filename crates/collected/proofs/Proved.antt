-- The laws of a page as it is collected.
use Prim.Native.Nat.{ℕ}
use mathlib.Core.Path.{◌≡◌, refl, ap}
use mathlib.Core.List.{List}
use Rattle.std.proofs.Common.{Result}
use Rattle.answer.specs.Answer.{Unique}
use Rattle.answer.proofs.Answers.{equation, paired}
use Rattle.preview.specs.declared.Page.{Page}
use Rattle.preview.specs.declared.Refusal.{Refusal}
use Rattle.preview.specs.Taken.{ReadAs}
use Rattle.preview.proofs.Proved as preview
use Rattle.collected.specs.declared.Collected.{Collected}
use Rattle.collected.specs.Laws.{Laws}
use Rattle.collected.specs.Collected.{held, blank, after_piece, is_full}
use Rattle.collected.proofs.Machine.{pieces, settled}

read_once : (c : Collected) → Unique (λ r. ReadAs (held c) r)
read_once c r s e f =
    ap (λ (o : Result Page Refusal × List ℕ). o.0) ((preview.laws).read_unique (held c) (r, held c) (s, held c) (e, refl) (f, refl))

pub laws : Laws
laws = record {
  pieces = pieces;
  settled = settled;
  new_unique = equation blank;
  feed_unique = λ c piece. paired (λ r. r ≡ after_piece piece c) (λ p. p ≡ piece) (equation (after_piece piece c)) (equation piece);
  full_unique = λ c. equation (is_full c);
  read_unique = read_once;
}
