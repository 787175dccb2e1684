-- From a preview page to the desk (document 02, #108): a sheet that begins with the page's timers, as it is played. Proved in
-- proofs/Proved.antt.
use Rattle.std.specs.Prelude.{ℕ, ◌≡◌, List, [], ◌∷◌, ◌++◌, Some}
use Rattle.answer.specs.Answer.{given, number}
use Rattle.preview.specs.declared.Programme.{Programme}
use Rattle.preview.specs.Page.{Answers}
use Rattle.booked.specs.declared.Booked.{Booked}
use Rattle.booked.specs.Timer.{timer_of}
use Rattle.booked.specs.Laws.{Member}
use Rattle.section.specs.Section.{timers_of, section_of}
use Rattle.matching.specs.declared.Booking.{Booking}
use Rattle.desk.specs.declared.Desk.{Desk}
use Rattle.desk.specs.Moments.{fresh}
use Rattle.desk.specs.Calls.{add_of}
use Rattle.desk.specs.Numbers.{said_by, left_by}
use Rattle.items.specs.Items.{next, on_packet_count}
use Rattle.sheet.specs.Sheet.{timer_line, lines_of, desk_left, last_line, sheet_of}

-- 'so that `add` can take it with a home tuner'
abbrev pub booking_of : ℕ → Booked → Booking
booking_of tuner b = record { pil = b.pil; cni = b.cni; length = b.length; year = b.year; tuner = tuner }

-- timers added to a desk one after the other: what it says, and the desk that they leave
unfoldable pub adds_told : ℕ → List Booked → Desk → List ℕ
adds_told tuner [] d = []
adds_told tuner (b ∷ bs) d =
    let a = add_of (booking_of tuner b) d in
    timer_line (said_by a) ++ adds_told tuner bs (left_by d a)

unfoldable pub adds_left : ℕ → List Booked → Desk → Desk
adds_left tuner [] d = d
adds_left tuner (b ∷ bs) d = adds_left tuner bs (left_by d (add_of (booking_of tuner b) d))

pub record Recording : Type 0 where
  -- the timers of an accepted page, and whatever follows them: the sheet adds each with its own CNI, PIL, year and length and this home
  -- tuner, in page order, to a fresh desk, and goes on as a packets section does
  pub played : (page : List ℕ) (qs : List Programme) (tuner : ℕ) (rest : List ℕ) → Answers page (given qs) →
      let bs = timers_of qs in
      let d = adds_left tuner bs fresh in
      let c = on_packet_count (next 2 rest) in
      sheet_of (section_of tuner bs ++ rest) ≡ adds_told tuner bs fresh ++ (lines_of c.items d ++ last_line c.whole (desk_left c.items d))
  -- 'its PIL is real in its year, so `add` never answers 11', whatever the desk holds
  pub never_11 : (page : List ℕ) (qs : List Programme) (q : Programme) (b : Booked) (tuner : ℕ) (d : Desk) → Answers page (given qs) → Member q qs →
      timer_of q ≡ Some b → number (add_of (booking_of tuner b) d) ≡ 11 → ⊥
