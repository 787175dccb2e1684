-- The codes of a row, one after the other.
use Prim.Native.Nat.{ℕ, suc, ◌+◌, ◌*◌, ◌<◌}
use mathlib.Core.Path.{◌≡◌, ap, ◌∙◌}
use mathlib.Core.List.{List, [], ◌∷◌}
use native.Mathlib.Omega.{arith}
use lib.ListN.{length, get_or, drop, length-take, length-drop, drop_of_length-le}
use lib.Seq.{drop-cons, get_or-take, get_or-drop}
use Rattle.preview.specs.Page.{row_of}

module _ (page : List ℕ) (r : ℕ) where
  row_length : length page ≡ 960 → r < 24 → length (row_of page r) ≡ 40
  row_length l h = omega (arith, l, h, length-take 40 (drop (40 * r) page), length-drop (40 * r) page)

  pub row_from : (p : ℕ) → length page ≡ 960 → r < 24 → p < 40 → drop p (row_of page r) ≡ get_or page (40 * r + p) 0 ∷ drop (suc p) (row_of page r)
  row_from p l h k =
      drop-cons (row_of page r) p 0 (omega (arith, k, row_length l h))
      ∙ ap (λ (c : ℕ). c ∷ drop (suc p) (row_of page r)) (get_or-take 40 (drop (40 * r) page) p 0 k ∙ get_or-drop (40 * r) page p 0)

  pub row_end : length page ≡ 960 → r < 24 → drop 40 (row_of page r) ≡ []
  row_end l h = drop_of_length-le (row_of page r) {i = 40} (omega (arith, row_length l h))
