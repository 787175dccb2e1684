-- What is claimed of one call and one moment, on every desk. Proved in proofs/Proved.antt.
use Rattle.std.specs.Prelude.{ℕ, ◌≡◌, List, Result}
use Rattle.answer.specs.Answer.{Unique, number, after}
use Rattle.matching.specs.declared.Booking.{Booking}
use Rattle.desk.specs.Moments.{fresh, moment, live_count}
use Rattle.desk.specs.Calls.{packet_of, wait_of, second_of, add_of, cancel_of, ask_of}
use Rattle.reply.specs.Numbers.{packet_number, wait_answer, add_answer, cancel_number, ask_answer, second_number}
use Rattle.desk.specs.Numbers.{said_by, left_by}
use Rattle.desk.specs.declared.Desk.{Desk}
use Rattle.desk.specs.declared.Said.{Said}
use Rattle.reply.specs.declared.PacketRefusal.{PacketRefusal}
use Rattle.reply.specs.declared.WaitRefusal.{WaitRefusal}
use Rattle.reply.specs.declared.AddRefusal.{AddRefusal}
use Rattle.reply.specs.declared.PastEnd.{PastEnd}
use Rattle.reply.specs.declared.NoTimer.{NoTimer}
use Rattle.reply.specs.declared.State.{State}

pub record Laws : Type 0 where
  -- 'a second moment at the same second, with nothing new, changes nothing'
  pub twice : (d : Desk) → moment (moment d) ≡ moment d
  -- the number that a moment leaves with the desk is the full count, whatever number was kept before (02, #106)
  pub counts : (d : Desk) → (moment d).live ≡ live_count (moment d)
  -- each call's promise allows one outcome
  pub new_unique : Unique (λ (r : Desk). r ≡ fresh)
  pub packet_unique : (d : Desk) (tuner t : ℕ) (bytes : List ℕ) →
      Unique {A = Said (Unit {0}) PacketRefusal × List ℕ} (λ o. ((packet_number o.0.answer ≡ number (packet_of tuner t bytes d)) × (o.0.desk ≡ after d (packet_of tuner t bytes d))) × (o.1 ≡ bytes))
  pub wait_unique : (d : Desk) (t : ℕ) → Unique (λ (r : Said ℕ WaitRefusal). (wait_answer r.answer ≡ said_by (wait_of t d)) × (r.desk ≡ left_by d (wait_of t d)))
  pub second_unique : (d : Desk) → Unique (λ (r : Said (Unit {0}) PastEnd). (second_number r.answer ≡ number (second_of d)) × (r.desk ≡ after d (second_of d)))
  pub add_unique : (d : Desk) (b : Booking) → Unique (λ (r : Said ℕ AddRefusal). (add_answer r.answer ≡ said_by (add_of b d)) × (r.desk ≡ left_by d (add_of b d)))
  pub cancel_unique : (d : Desk) (slot : ℕ) →
      Unique (λ (r : Said (Unit {0}) NoTimer). (cancel_number r.answer ≡ number (cancel_of slot d)) × (r.desk ≡ after d (cancel_of slot d)))
  pub ask_unique : (d : Desk) (slot : ℕ) → Unique (λ (r : Result State NoTimer). ask_answer r ≡ ask_of slot d)
  pub live_unique : (d : Desk) → Unique (λ (r : ℕ). r ≡ d.live)
