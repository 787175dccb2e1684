-- What is claimed of the counts. Proved in proofs/Proved.antt.
use Rattle.std.specs.Prelude.{ℕ, ◌+◌, ◌*◌, ◌≤◌, ◌<◌, Bool, true, false, ◌≡◌, List, [], ◌∷◌, length, get_or}
use Rattle.answer.specs.Answer.{Unique}
use Rattle.answer.specs.Lists.{joined}
use Rattle.items.specs.Items.{Item, items_of}
use Rattle.items.specs.Pieces.{left_over}
use Rattle.report.specs.Report.{silence, report}
use Rattle.report.specs.Room.{longest}
use Rattle.tally.specs.declared.Tally.{Tally}
use Rattle.tally.specs.Aerial.{receptions, heard_from, aerial_of}
use Rattle.tally.specs.Pieces.{blank, after_piece, end_told, reported_by, out_after}

-- what is printed after pieces, from a tally on, and then the input's end
abbrev pub printed : List (List ℕ) → Tally → List ℕ
printed [] t = end_told true t
printed (p ∷ ps) t = printed ps (after_piece p t)

pub record Laws : Type 0 where
  -- however the input arrives in pieces, what is printed is the one definition's
  pub pieces : (ps : List (List ℕ)) → ((i : ℕ) → get_or (joined ps) i 0 < 256) → printed ps blank ≡ aerial_of (joined ps)
  -- once a byte is left over, whatever follows counts nothing, and `X` ends the report: nothing more need be read
  pub settled : (t : Tally) (ps : List (List ℕ)) → left_over t.split.stage ≡ true → printed ps t ≡ report (λ k. get_or t.tuners k silence) false
  -- each packet of a tuner is counted once: as read clean, as read with mended bytes, or as refused
  pub once : (k : ℕ) (is : List Item) → let h = heard_from k is in h.clean + h.mended + h.refused ≡ length (receptions k is)
  -- no tuner has more than 65,535 packets, nor more than sixteen mended bytes for each
  pub small : (p : List ℕ) → ((i : ℕ) → get_or p i 0 < 256) → (k : ℕ) → let h = heard_from k (items_of p).items in
      (h.clean + h.mended + h.refused ≤ 65535) × (h.bytes ≤ 16 * 65535)
  -- and no report is longer than the room that is asked for it
  pub room : (ended : Bool) (t : Tally) → length (end_told ended t) ≤ longest
  -- each call's promise allows one outcome
  pub new_unique : Unique (λ (r : Tally). r ≡ blank)
  pub feed_unique : (t : Tally) (piece : List ℕ) → Unique {A = Tally × List ℕ} (λ o. (o.0 ≡ after_piece piece t) × (o.1 ≡ piece))
  pub left_over_unique : (t : Tally) → Unique (λ (r : Bool). r ≡ left_over t.split.stage)
  pub report_unique : (t : Tally) (ended : Bool) (out : List ℕ) →
      Unique {A = ℕ × List ℕ} (λ o. (o.0 ≡ reported_by ended out t) × (o.1 ≡ out_after ended out t))
