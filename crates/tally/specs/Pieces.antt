-- A sheet's packets as they are counted, piece by piece.
use Rattle.std.specs.Prelude.{ℕ, ◌+◌, Bool, cond, List, [], ◌∷◌, leb, eqb, length, set, get_or, replicate}
use Rattle.std.proofs.lemmas.List.Edits.{sets}
use Rattle.answer.specs.Answer.{Answer, refused, given}
use Rattle.label.specs.declared.Received.{Received}
use Rattle.items.specs.Items.{Item, timer, packet}
use Rattle.items.specs.Pieces.{unsplit, split_after, piece_items, whole_at}
use Rattle.report.specs.declared.Tuner.{Tuner}
use Rattle.report.specs.Report.{silence, report}
use Rattle.report.specs.Room.{longest}
use Rattle.tally.specs.declared.Tally.{Tally}
use Rattle.tally.specs.Aerial.{tuner_in, reception_in}

-- what thirty-two bits hold at most
abbrev pub most : ℕ
most = 4294967295

-- a count grows by k, and stops at the most: no sheet comes to that (laws `small` and `pieces`)
unfoldable pub grown : ℕ → ℕ → ℕ
grown n k = cond (leb (n + k) most) (n + k) most

abbrev pub after_read : ℕ → Tuner → Tuner
after_read mended h =
    cond (eqb mended 0) (record { clean = grown h.clean 1; mended = h.mended; bytes = h.bytes; refused = h.refused })
    (record { clean = h.clean; mended = grown h.mended 1; bytes = grown h.bytes mended; refused = h.refused })

-- one packet more from a tuner
abbrev pub after_packet : Answer Received → Tuner → Tuner
after_packet (refused n) h = record { clean = h.clean; mended = h.mended; bytes = h.bytes; refused = grown h.refused 1 }
after_packet (given r) h = after_read r.mended h

-- a packet is counted at its tuner; one above 3 has no place
abbrev pub counted_item : Item → List Tuner → List Tuner
counted_item (timer i) hs = hs
counted_item (packet i) hs = set hs (tuner_in i) (after_packet (reception_in i) (get_or hs (tuner_in i) silence))

unfoldable pub counted_items : List Item → List Tuner → List Tuner
counted_items [] hs = hs
counted_items (i ∷ is) hs = counted_items is (counted_item i hs)

-- after a piece of input
unfoldable pub after_piece : List ℕ → Tally → Tally
after_piece p t = record { split = split_after p t.split; tuners = counted_items (piece_items p t.split) t.tuners }

-- nothing has arrived
abbrev pub blank : Tally
blank = record { split = unsplit; tuners = replicate 4 silence }

-- what the input's end prints
unfoldable pub end_told : Bool → Tally → List ℕ
end_told ended t = report (λ k. get_or t.tuners k silence) (whole_at ended t.split)

-- it is stored from the first place on where the buffer surely holds it, and its length answered; else nothing changes, and 0 is
unfoldable pub reported_by : Bool → List ℕ → Tally → ℕ
reported_by ended out t = cond (leb longest (length out)) (length (end_told ended t)) 0

unfoldable pub out_after : Bool → List ℕ → Tally → List ℕ
out_after ended out t = cond (leb longest (length out)) (sets out 0 (end_told ended t)) out
