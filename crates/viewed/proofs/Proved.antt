-- The laws of a preview page's programmes as plain bytes.
use Prim.Native.Nat.{ℕ}
use mathlib.Core.List.{List}
use mathlib.Core.Path.{◌≡◌, sym, ap, ◌∙◌}
use Rattle.answer.specs.Answer.{Answer, after, number, Unique}
use Rattle.preview.specs.declared.Programme.{Programme}
use Rattle.preview.proofs.Readings.{one_answer}
use Rattle.viewed.specs.Viewed.{page_into, ReadInto}
use Rattle.viewed.specs.Laws.{Laws, Left}
use Rattle.viewed.proofs.Back.{apart, none}

-- a number and a buffer go by the one answer
pub read_once : (p out : List ℕ) → Unique {A = Left} (λ o. ReadInto p out o.0 o.1.0 × (o.1.1 ≡ p))
read_once p out r s ((a, v, e, f), k) ((b, w, g, h), l) =
    let same : b ≡ a = one_answer p b a w v in
    let told = e ∙ sym (g ∙ ap (λ (x : Answer (List Programme)). number (page_into x out)) same) in
    let left = f ∙ sym (h ∙ ap (λ (x : Answer (List Programme)). after out (page_into x out)) same) in
    λ i. (told i, (left i, (k ∙ sym l) i))

pub laws : Laws
laws = record {
  apart = apart;
  none = none;
  read_into_unique = read_once;
}
