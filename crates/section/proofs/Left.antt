-- How many bytes may still decide something: fewer by each byte, until no byte more does.
use Prim.Native.Nat.{ℕ, ◌+◌, ◌-◌}
use mathlib.Core.Path.{◌≡◌, refl, sym}
use mathlib.Core.List.{List, [], ◌∷◌}
use native.Mathlib.Omega.{arith}
use borrow.Author.Tests.{ne_eqb}
use lib.Dec.{eqb}
use lib.ListN.{length}
use Rattle.std.proofs.Common.{Option, None, Some}
use Rattle.held.proofs.Keeping.{none_left}
use Rattle.collected.specs.Collected as page
use Rattle.collected.proofs.Keeping.{length_more}
use Rattle.section.specs.declared.Asked.{Asked}
use Rattle.section.specs.Asked.{after_piece, is_full, left}

pub left_after : (p : List ℕ) (k : Asked) → left (after_piece p k) ≡ left k - length p
unfolding after_piece
left_after p k = go k.tuner refl
  where
    beginning_left : (p : List ℕ) → k.tuner ≡ None → left (after_piece p k) ≡ left k - length p
    beginning_left [] e = rw e (omega arith)
    beginning_left (tuner ∷ p) e = rw e (omega (arith, length_more p k.page))

    go : (t : Option ℕ) → k.tuner ≡ t → left (after_piece p k) ≡ left k - length p
    go (Some tuner) e = rw e (omega (arith, length_more p k.page))
    go None e = beginning_left p e

pub full_left : (k : Asked) → is_full k ≡ eqb (left k) 0
full_left k = go k.tuner refl
  where
    go : (t : Option ℕ) → k.tuner ≡ t → is_full k ≡ eqb (left k) 0
    go (Some tuner) e =
        let whole : page.left k.page + 0 ≡ page.left k.page = omega arith in
        rw (e, whole) (none_left page.deciding k.page.held.length)
    go None e = rw e (sym (ne_eqb (page.left k.page + 1) 0 (λ z. omega arith)))
