-- The laws of a page's programmes as plain bytes.
use Prim.Native.Nat.{ℕ}
use mathlib.Core.List.{List}
use mathlib.Core.Path.{◌≡◌}
use Rattle.answer.specs.Answer.{after, number, Unique}
use Rattle.answer.proofs.Answers.{equation, paired}
use Rattle.fields.specs.Fields.{plain, page_into, page_from, packets_told, bytes_left, pil_from}
use Rattle.fields.specs.Laws.{Laws, Left}
use Rattle.fields.proofs.Back.{back, none}

-- a number, a buffer and what was lent to be read, each by an equation
pub left : (n : ℕ) (last lent : List ℕ) → Unique {A = Left} (λ o. (o.0 ≡ n) × ((o.1.0 ≡ last) × (o.1.1 ≡ lent)))
left n last lent =
    paired (λ r. r ≡ n) (λ o. (o.0 ≡ last) × (o.1 ≡ lent)) (equation n)
    (paired (λ q. q ≡ last) (λ q. q ≡ lent) (equation last) (equation lent))

pub one_left : (n : ℕ) (lent : List ℕ) → Unique {A = ℕ × List ℕ} (λ o. (o.0 ≡ n) × (o.1 ≡ lent))
one_left n lent = paired (λ r. r ≡ n) (λ q. q ≡ lent) (equation n) (equation lent)

pub laws : Laws
laws = record {
  back = back;
  none = none;
  read_into_unique = λ p out. left (number (page_into p out)) (after out (page_into p out)) p;
  write_from_unique = λ f buf. left (plain 256 (packets_told (page_from f buf))) (after buf (bytes_left (page_from f buf))) f;
  pil_from_unique = λ f. one_left (plain 16777216 (pil_from f)) f;
}
