-- What is claimed of a programme's timer. Proved in proofs/Proved.antt.
use Rattle.std.specs.Prelude.{ℕ, ◌^◌, ◌<◌, ◌≡◌, List, ◌∷◌, Some}
use Rattle.answer.specs.Answer.{given, Unique}
use Rattle.label.specs.Pil.{parts_of}
use Rattle.calendar.specs.declared.Window.{Window}
use Rattle.calendar.specs.Calendar.{window_in}
use Rattle.preview.specs.declared.Programme.{Programme}
use Rattle.preview.specs.Page.{Answers}
use Rattle.booked.specs.declared.Booked.{Booked}
use Rattle.booked.specs.Timer.{timer_of}

-- one of these programmes
pub data Member (q : Programme) : List Programme → Type 0 where
  here : {qs : List Programme} → Member q (q ∷ qs)
  later : {p : Programme} {qs : List Programme} → Member q qs → Member q (p ∷ qs)

-- of a timer of a programme that a page gives
pub record Laws : Type 0 where
  -- its PIL is real in its year: `add` never answers 11
  pub real : (page : List ℕ) (qs : List Programme) (q : Programme) (b : Booked) → Answers page (given qs) → Member q qs → timer_of q ≡ Some b →
      (w : Window) × (window_in b.pil b.year ≡ given w)
  -- its PIL is the programme's date and original time
  pub parts : (page : List ℕ) (qs : List Programme) (q : Programme) (b : Booked) → Answers page (given qs) → Member q qs → timer_of q ≡ Some b →
      parts_of b.pil ≡ record { day = q.day; month = q.month; hour = q.original.hour; minute = q.original.minute }
  -- its CNI has 16 bits, its PIL 20, and its length is less than a day
  pub cni_below : (page : List ℕ) (qs : List Programme) (q : Programme) (b : Booked) → Answers page (given qs) → Member q qs → timer_of q ≡ Some b →
      b.cni < 2 ^ 16
  pub pil_below : (page : List ℕ) (qs : List Programme) (q : Programme) (b : Booked) → Answers page (given qs) → Member q qs → timer_of q ≡ Some b →
      b.pil < 2 ^ 20
  pub length_below : (page : List ℕ) (qs : List Programme) (q : Programme) (b : Booked) → Answers page (given qs) → Member q qs → timer_of q ≡ Some b →
      b.length < 1440
  -- the call's promise allows one outcome
  pub timer_unique : (q : Programme) → Unique (λ r. r ≡ timer_of q)
