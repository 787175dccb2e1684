-- What is claimed of a sheet. Proved in proofs/Proved.antt.
use Rattle.std.specs.Prelude.{ℕ, ◌≤◌, ◌<◌, Bool, true, ◌≡◌, List, [], ◌∷◌, ◌++◌, Option, length}
use Rattle.answer.specs.Answer.{Unique, number, given}
use Rattle.answer.specs.Lists.{joined}
use Rattle.matching.specs.declared.Booking.{Booking}
use Rattle.desk.specs.declared.Desk.{Desk}
use Rattle.desk.specs.Calls.{Told, packet_of, add_of}
use Rattle.desk.specs.Moments.{fresh, live_count}
use Rattle.items.specs.Items.{Item}
use Rattle.items.specs.Pieces.{left_over}
use Rattle.sheet.specs.declared.Sheet.{Sheet}
use Rattle.sheet.specs.declared.Fed.{Fed}
use Rattle.sheet.specs.Sheet.{broken_line, timer_left, packet_left, desk_left, sheet_of}
use Rattle.sheet.specs.Pieces.{blank, after_piece, piece_told, end_told, fed_by, out_after, closed_by, out_closed}

-- what pieces print one after the other, from a sheet on, and then the input's end
abbrev pub printed : List (List ℕ) → Sheet → List ℕ
printed [] s = end_told true s
printed (p ∷ ps) s = piece_told p s ++ printed ps (after_piece p s)

pub record Laws : Type 0 where
  -- however the input arrives in pieces, what is printed is the one definition's
  pub pieces : (ps : List (List ℕ)) → printed ps blank ≡ sheet_of (joined ps)
  -- once a byte is left over, whatever follows prints `X live` alone, with the count of now: nothing more need be read
  pub settled : (s : Sheet) (ps : List (List ℕ)) → left_over s.split.stage ≡ true → printed ps s ≡ broken_line s.desk
  -- no number that a sheet prints is above 17: slots, refusals, answers, and the live timers of sixteen
  pub small_slot : (b : Booking) (d : Desk) (t : Told) → length d.timers ≡ 16 → add_of b d ≡ given t → t.says < 16
  pub small_refusal : (b : Booking) (d : Desk) → number (add_of b d) ≤ 17
  pub small_answer : (tuner t : ℕ) (bytes : List ℕ) (d : Desk) → number (packet_of tuner t bytes d) ≤ 16
  pub small_count : (d : Desk) → length d.timers ≡ 16 → d.live ≡ live_count d → d.live ≤ 16
  pub timers_kept : (item : List ℕ) (d : Desk) → (length (timer_left item d).timers ≡ length d.timers) × (length (packet_left item d).timers ≡ length d.timers)
  -- the number that is kept with the desk, which the lines tell, is the full count after every item of a sheet (02, #106)
  pub full_count : (is : List Item) → (desk_left is fresh).live ≡ live_count (desk_left is fresh)
  -- each call's promise allows one outcome
  pub new_unique : Unique (λ (r : Sheet). r ≡ blank)
  pub feed_unique : (s : Sheet) (piece out : List ℕ) (at : ℕ) →
      Unique {A = (Option Fed × List ℕ) × List ℕ} (λ o. ((o.0.0 ≡ fed_by piece out at s) × (o.0.1 ≡ out_after piece out at s)) × (o.1 ≡ piece))
  pub left_over_unique : (s : Sheet) → Unique (λ (r : Bool). r ≡ left_over s.split.stage)
  pub close_unique : (s : Sheet) (ended : Bool) (out : List ℕ) (at : ℕ) →
      Unique {A = Option ℕ × List ℕ} (λ o. (o.0 ≡ closed_by ended out at s) × (o.1 ≡ out_closed ended out at s))
