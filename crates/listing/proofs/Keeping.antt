-- How many bytes are held after a piece.
use Prim.Native.Nat.{ℕ, ◌+◌, min}
use mathlib.Core.Path.{◌≡◌}
use mathlib.Core.List.{List}
use lib.ListN.{length}
use Rattle.held.proofs.Keeping as first
use Rattle.listing.specs.declared.Collected.{Collected}
use Rattle.listing.specs.Pieces.{deciding, after_piece}

pub length_more : (p : List ℕ) (c : Collected) → (after_piece p c).held.length ≡ min (c.held.length + length p) deciding
unfolding after_piece
length_more p c = first.length_more deciding p c.held
