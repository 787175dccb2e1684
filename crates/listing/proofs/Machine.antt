-- A page fed piece by piece prints what the definition over the whole input says.
use Prim.Native.Nat.{ℕ}
use mathlib.Core.Path.{◌≡◌, refl, sym, ap, ◌∙◌}
use mathlib.Core.Bool.{true}
use mathlib.Core.List.{List, [], ◌∷◌}
use native.Mathlib.Omega.{arith}
use native.Mathlib.Decide.{dec_lt}
use lib.ListN.{length, take}
use lib.Seq.{take_all}
use Rattle.answer.specs.Lists.{joined}
use Rattle.held.specs.Held as first
use Rattle.held.specs.Laws.{after_pieces}
use Rattle.held.proofs.Proved as held_first
use Rattle.programmes.proofs.Proved.{laws}
use Rattle.listing.specs.declared.Collected.{Collected}
use Rattle.listing.specs.Listing.{listing, listing_of}
use Rattle.listing.specs.Pieces.{deciding, held, after_piece, blank, is_full, end_told}
use Rattle.listing.specs.Laws.{printed}

-- bytes past the seventeenth packet print nothing else
first_bytes : (p : List ℕ) → listing_of (take deciding p) ≡ listing_of p
unfolding listing_of
first_bytes p =
    elim (dec_lt (length p) deciding) [
      | yes l ↦ rw (take_all deciding p (omega arith)) refl
      | no l ↦ ap (λ a. listing a) (sym (laws.first_17 p (omega arith)))
    ]

-- pieces are those of the bytes held
from_held : (ps : List (List ℕ)) (c : Collected) → printed ps c ≡ listing_of (first.held deciding (after_pieces deciding ps c.held))
unfolding end_told held after_piece
from_held [] c = refl
from_held (p ∷ ps) c = from_held ps (after_piece p c)

pub pieces : (ps : List (List ℕ)) → printed ps blank ≡ listing_of (joined ps)
unfolding blank
pieces ps =
    from_held ps blank
    ∙ ap (λ xs. listing_of xs) ((held_first.laws).pieces deciding ps)
    ∙ first_bytes (joined ps)

pub settled : (c : Collected) (ps : List (List ℕ)) → is_full c ≡ true → printed ps c ≡ end_told c
unfolding end_told held
settled c ps e = from_held ps c ∙ ap (λ xs. listing_of xs) ((held_first.laws).settled deciding ps c.held e)
