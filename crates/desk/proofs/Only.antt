-- Each call's promise allows one outcome.
use Prim.Native.Nat.{ℕ}
use mathlib.Core.Path.{◌≡◌, sym, ◌∙◌}
use Rattle.std.specs.Prelude.{List, Result}
use Rattle.answer.specs.Answer.{Unique, number, after}
use Rattle.answer.proofs.Answers.{numbered}
use Rattle.matching.specs.declared.Booking.{Booking}
use Rattle.desk.specs.Calls.{packet_of, wait_of, second_of, add_of, cancel_of, ask_of}
use Rattle.reply.specs.Numbers.{packet_number, wait_answer, add_answer, cancel_number, ask_answer, second_number}
use Rattle.desk.specs.Numbers.{said_by, left_by}
use Rattle.reply.proofs.Back.{packet_back, packet_back_lem, wait_back, wait_back_lem, add_back, add_back_lem, cancel_back, cancel_back_lem, ask_back, ask_back_lem, second_back, second_back_lem}
use Rattle.desk.specs.declared.Desk.{Desk}
use Rattle.desk.specs.declared.Said.{Said}
use Rattle.reply.specs.declared.PacketRefusal.{PacketRefusal}
use Rattle.reply.specs.declared.WaitRefusal.{WaitRefusal}
use Rattle.reply.specs.declared.AddRefusal.{AddRefusal}
use Rattle.reply.specs.declared.PastEnd.{PastEnd}
use Rattle.reply.specs.declared.NoTimer.{NoTimer}
use Rattle.reply.specs.declared.State.{State}

-- an answer by its number and values, and the desk
module _ {T R N : Type 0} (say : Result T R → N) (back : N → Result T R) (back-say : (a : Result T R) → back (say a) ≡ a) where
  answered : (n : N) (d : Desk) → Unique (λ (r : Said T R). (say r.answer ≡ n) × (r.desk ≡ d))
  answered n d r s p q = λ i. record { answer = numbered say back back-say n r.answer s.answer p.0 q.0 i; desk = (p.1 ∙ sym q.1) i }

-- ── the calls ──────────────────────────────────────────────────────────────────────────────────────────────────────
pub packet_unique : (d : Desk) (tuner t : ℕ) (bytes : List ℕ) →
    Unique (λ (r : Said (Unit {0}) PacketRefusal). (packet_number r.answer ≡ number (packet_of tuner t bytes d)) × (r.desk ≡ after d (packet_of tuner t bytes d)))
packet_unique d tuner t bytes = answered packet_number packet_back packet_back_lem _ _

pub wait_unique : (d : Desk) (t : ℕ) → Unique (λ (r : Said ℕ WaitRefusal). (wait_answer r.answer ≡ said_by (wait_of t d)) × (r.desk ≡ left_by d (wait_of t d)))
wait_unique d t = answered wait_answer wait_back wait_back_lem _ _

pub second_unique : (d : Desk) → Unique (λ (r : Said (Unit {0}) PastEnd). (second_number r.answer ≡ number (second_of d)) × (r.desk ≡ after d (second_of d)))
second_unique d = answered second_number second_back second_back_lem _ _

pub add_unique : (d : Desk) (b : Booking) → Unique (λ (r : Said ℕ AddRefusal). (add_answer r.answer ≡ said_by (add_of b d)) × (r.desk ≡ left_by d (add_of b d)))
add_unique d b = answered add_answer add_back add_back_lem _ _

pub cancel_unique : (d : Desk) (slot : ℕ) →
    Unique (λ (r : Said (Unit {0}) NoTimer). (cancel_number r.answer ≡ number (cancel_of slot d)) × (r.desk ≡ after d (cancel_of slot d)))
cancel_unique d slot = answered cancel_number cancel_back cancel_back_lem _ _

pub ask_unique : (d : Desk) (slot : ℕ) → Unique (λ (r : Result State NoTimer). ask_answer r ≡ ask_of slot d)
ask_unique d slot = numbered ask_answer ask_back ask_back_lem (ask_of slot d)
