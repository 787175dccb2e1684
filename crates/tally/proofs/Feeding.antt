-- A piece, item by item: the invariant of the loop over them.
use Prim.Native.Nat.{ℕ, ◌≤◌}
use mathlib.Core.Path.{◌≡◌, refl, sym, ◌∙◌}
use mathlib.Core.List.{List, []}
use lib.ListN.{length, drop, drop_of_length-le}
use Rattle.items.specs.declared.Taken.{Taken}
use Rattle.items.specs.Pieces.{items_found, split_after, piece_items, taken_from}
use Rattle.items.proofs.Taking.{Taking, taking}
use Rattle.report.specs.declared.Tuner.{Tuner}
use Rattle.tally.specs.declared.Tally.{Tally}
use Rattle.tally.specs.Pieces.{counted_items, after_piece}
use Rattle.tally.proofs.Machine.{items_more}

none : (t : Tally) → after_piece [] t ≡ t
unfolding after_piece split_after piece_items counted_items
none t = refl

one_more : (piece : List ℕ) (i : ℕ) (t : Tally) (r : Taken) → Taking piece i t.split r →
    after_piece (drop i piece) t ≡ after_piece (drop r.at piece) (record { split = r.split; tuners = counted_items (items_found r.found r.split.held) t.tuners })
unfolding after_piece
one_more piece i t r g =
    rw (g.items, g.after, items_more (items_found r.found r.split.held) (piece_items (drop r.at piece) r.split) t.tuners)

-- at place i: what is left, fed from here, comes to what the whole piece comes to
pub record Along (piece : List ℕ) (t₀ t : Tally) (i : ℕ) : Type 0 where
  pub same : after_piece (drop i piece) t ≡ after_piece piece t₀
  pub within : i ≤ length piece

module _ {piece : List ℕ} {t₀ t : Tally} {i : ℕ} (along : Along piece t₀ t i) where
  -- past the bytes that `take` has taken, with what was found among them counted
  pub further : (r : Taken) → r ≡ taken_from (drop i piece) i t.split → {hs : List Tuner} →
      hs ≡ counted_items (items_found r.found r.split.held) t.tuners → Along piece t₀ (record { split = r.split; tuners = hs }) r.at
  further r e eh =
      let g : Taking piece i t.split r = rw e (taking piece i t.split along.within) in
      rw eh (record { same = sym (one_more piece i t r g) ∙ along.same; within = g.within })

  -- and at the end
  pub ended : length piece ≤ i → t ≡ after_piece piece t₀
  ended h = sym (none t) ∙ (rw (drop_of_length-le piece h) at along.same)
