-- Bytes taken up to the end of an item: the loop of `take`, and what a loop over items needs of it.
use Prim.Native.Nat.{ℕ, zero, suc, ◌+◌, ◌-◌, ◌≤◌, ◌<◌}
use mathlib.Core.Path.{◌≡◌, refl}
use mathlib.Core.Bool.{Bool, true, false, cond}
use mathlib.Core.List.{List, [], ◌∷◌, ◌++◌}
use native.Mathlib.Numerals.{add-one}
use native.Mathlib.Omega.{arith}
use borrow.Author.Tests.{le-leb, lt-leb}
use lib.Dec.{eqb-suc-zero}
use lib.ListN.{length, drop, get_or, drop_of_length-le}
use lib.Seq.{drop-cons}
use Rattle.items.specs.Items.{Item}
use Rattle.items.specs.declared.Split.{Split}
use Rattle.items.specs.declared.Found.TheVariants.{Nothing}
use Rattle.items.specs.declared.Taken.{Taken}
use Rattle.items.specs.Pieces.{need, found_at, items_found, holding, is_whole, after_item, after_byte, byte_items, split_after, piece_items, taken_from, deciding_after}

-- ── the loop ───────────────────────────────────────────────────────────────────────────────────────────────────────
module _ (piece : List ℕ) (at : ℕ) (s : Split) where
  pub at_end : length piece ≤ at → record { split = s; at = at; found = Nothing } ≡ taken_from (drop at piece) at s
  unfolding taken_from
  at_end h = rw (drop_of_length-le piece h)

  -- a byte that leaves its item short is held
  pub held_on : at < length piece → s.have + 1 < need s.stage →
      taken_from (drop (at + 1) piece) (at + 1) (holding (get_or piece at 0) s) ≡ taken_from (drop at piece) at s
  unfolding taken_from
  held_on h k = rw (drop-cons piece at 0 h, lt-leb (need s.stage) (s.have + 1) k, add-one at)

  -- one that makes it whole ends it
  pub whole_at_lem : at < length piece → need s.stage ≤ s.have + 1 →
      record { split = after_item (holding (get_or piece at 0) s); at = at + 1; found = found_at s.stage } ≡ taken_from (drop at piece) at s
  unfolding taken_from
  whole_at_lem h k = rw (drop-cons piece at 0 h, le-leb (need s.stage) (s.have + 1) k)

-- ── a loop over items ──────────────────────────────────────────────────────────────────────────────────────────────
-- items are those found with the bytes taken, and then those of what is after them; and so is what is held at last
pub record Goes (piece : List ℕ) (i : ℕ) (all : List Item) (last : Split) (r : Taken) : Type 0 where
  pub items : all ≡ items_found r.found r.split.held ++ piece_items (drop r.at piece) r.split
  pub after : last ≡ split_after (drop r.at piece) r.split
  pub within : r.at ≤ length piece
  pub reached : i ≤ r.at
  pub on : i < length piece → i < r.at

-- of the rest of a piece, taken from place i on
abbrev pub Taking : List ℕ → ℕ → Split → Taken → Type 0
Taking piece i s r = Goes piece i (piece_items (drop i piece) s) (split_after (drop i piece) s) r

taking_in : (k : ℕ) (piece : List ℕ) (i : ℕ) (s : Split) → i + k ≡ length piece → Taking piece i s (taken_from (drop i piece) i s)
unfolding taken_from split_after piece_items after_byte byte_items after_item
taking_in zero piece i s e =
    let d = drop_of_length-le piece {i = i} (omega arith) in
    rw d (record { items = rw d; after = rw d; within = omega arith; reached = omega arith; on = λ l. absurd (omega arith) })
taking_in (suc k) piece i s e =
    let d : drop i piece ≡ get_or piece i 0 ∷ drop (i + 1) piece = rw (add-one i) (drop-cons piece i 0 (omega arith)) in
    rw d (go (is_whole t) (taking_in k piece (i + 1) t (omega arith)))
  where
    t : Split
    t = holding (get_or piece i 0) s

    go : (w : Bool) → Taking piece (i + 1) t (taken_from (drop (i + 1) piece) (i + 1) t) →
        Goes piece i
        (cond w (items_found (found_at t.stage) t.held) [] ++ piece_items (drop (i + 1) piece) (cond w (after_item t) t))
        (split_after (drop (i + 1) piece) (cond w (after_item t) t))
        (cond w (record { split = after_item t; at = i + 1; found = found_at t.stage }) (taken_from (drop (i + 1) piece) (i + 1) t))
    go true h = record { items = refl; after = refl; within = omega arith; reached = omega arith; on = λ l. omega arith }
    go false h =
        record { items = h.items; after = h.after; within = h.within; reached = omega (arith, h.reached); on = λ l. omega (arith, h.reached) }

pub taking : (piece : List ℕ) (i : ℕ) (s : Split) → i ≤ length piece → Taking piece i s (taken_from (drop i piece) i s)
taking piece i s h = taking_in (length piece - i) piece i s (omega arith)

-- ── what may still decide something ────────────────────────────────────────────────────────────────────────────────
pub deciding_less : (left got : ℕ) (settled : Bool) → 0 < left → deciding_after left got settled < left
deciding_less left got true h = omega arith
deciding_less left zero false h = omega arith
deciding_less left (suc n) false h = rw (eqb-suc-zero n) (omega arith)
