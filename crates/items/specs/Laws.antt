-- What is claimed of a sheet's items. Proved in proofs/Proved.antt.
use Rattle.std.specs.Prelude.{ℕ, ◌+◌, ◌≤◌, ◌<◌, Bool, true, false, ◌≡◌, List, [], ◌∷◌, ◌++◌, length, drop, get_or}
use Rattle.answer.specs.Answer.{Unique}
use Rattle.answer.specs.Lists.{count, joined}
use Rattle.items.specs.declared.Split.{Split}
use Rattle.items.specs.declared.Taken.{Taken}
use Rattle.items.specs.Items.{Item, timer, packet, Contents, no_more, onto, items_of}
use Rattle.items.specs.Pieces.{items_found, unsplit, split_after, piece_items, taken_from, whole_at, left_over, longest_sheet, deciding_after}

-- the items of pieces one after the other, from what is held on, and then the input's end
abbrev pub found : List (List ℕ) → Split → Contents
found [] s = no_more (whole_at true s)
found (p ∷ ps) s = onto (piece_items p s) (found ps (split_after p s))

abbrev pub is_packet : Item → Bool
is_packet (timer i) = false
is_packet (packet i) = true

pub record Laws : Type 0 where
  -- however the input arrives in pieces, its items are the one definition's
  pub pieces : (ps : List (List ℕ)) → found ps unsplit ≡ items_of (joined ps)
  -- once a byte is left over, whatever follows holds no item, and the input is not whole: nothing more need be read
  pub settled : (s : Split) (ps : List (List ℕ)) → left_over s.stage ≡ true → found ps s ≡ no_more false
  -- and so it is after more bytes than the longest sheet has
  pub longest_sheet_lem : (p : List ℕ) → ((i : ℕ) → get_or p i 0 < 256) → longest_sheet < length p → left_over (split_after p unsplit).stage ≡ true
  -- what `take` finds are the items of the bytes that it takes, one at most, and those of the bytes after them are the others; it takes
  -- one byte at least where there is one
  pub taken : (piece : List ℕ) (from : ℕ) (s : Split) → from ≤ length piece → let r = taken_from (drop from piece) from s in
      (piece_items (drop from piece) s ≡ items_found r.found r.split.held ++ piece_items (drop r.at piece) r.split)
      × (split_after (drop from piece) s ≡ split_after (drop r.at piece) r.split)
      × (from < length piece → from < r.at)
  -- no sheet holds more than 65,535 packets
  pub few_packets : (p : List ℕ) → ((i : ℕ) → get_or p i 0 < 256) → count is_packet (items_of p).items ≤ 65535
  -- each call's promise allows one outcome
  pub new_unique : Unique (λ (r : Split). r ≡ unsplit)
  pub take_unique : (s : Split) (piece : List ℕ) (from : ℕ) →
      Unique {A = Taken × List ℕ} (λ o. (o.0 ≡ taken_from (drop from piece) from s) × (o.1 ≡ piece))
  pub whole_unique : (s : Split) (ended : Bool) → Unique (λ (r : Bool). r ≡ whole_at ended s)
  pub left_over_unique : (s : Split) → Unique (λ (r : Bool). r ≡ left_over s.stage)
  pub deciding_unique : Unique (λ (r : ℕ). r ≡ longest_sheet + 1)
  pub still_deciding_unique : (left got : ℕ) (settled : Bool) → Unique (λ (r : ℕ). r ≡ deciding_after left got settled)
