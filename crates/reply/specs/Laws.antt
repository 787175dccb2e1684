-- What is claimed of the answers' numbers: each call's promise allows one outcome. Proved in proofs/Proved.antt.
use Rattle.std.specs.Prelude.{ℕ, ◌≡◌, Result}
use Rattle.answer.specs.Answer.{Unique, number}
use Rattle.reply.specs.Numbers.{packet_refusal, packet_number, wait_answer, add_answer, cancel_number, state_says, ask_answer, second_number}
use Rattle.reply.specs.declared.PacketRefusal.{PacketRefusal}
use Rattle.reply.specs.declared.WaitRefusal.{WaitRefusal}
use Rattle.reply.specs.declared.AddRefusal.{AddRefusal}
use Rattle.reply.specs.declared.NoTimer.{NoTimer}
use Rattle.reply.specs.declared.State.{State}
use Rattle.reply.specs.declared.PastEnd.{PastEnd}

pub record Laws : Type 0 where
  pub packet_refusal_number_unique : (a : PacketRefusal) → Unique (λ (n : ℕ). n ≡ packet_refusal a)
  pub packet_number_unique : (a : Result (Unit {0}) PacketRefusal) → Unique (λ (n : ℕ). n ≡ packet_number a)
  pub wait_number_unique : (a : Result ℕ WaitRefusal) → Unique (λ (n : ℕ). n ≡ number (wait_answer a))
  pub add_number_unique : (a : Result ℕ AddRefusal) → Unique (λ (n : ℕ). n ≡ number (add_answer a))
  pub cancel_number_unique : (a : Result (Unit {0}) NoTimer) → Unique (λ (n : ℕ). n ≡ cancel_number a)
  pub state_number_unique : (s : State) → Unique (λ (n : ℕ). n ≡ (state_says s).state)
  pub ask_number_unique : (a : Result State NoTimer) → Unique (λ (n : ℕ). n ≡ number (ask_answer a))
  pub second_number_unique : (a : Result (Unit {0}) PastEnd) → Unique (λ (n : ℕ). n ≡ second_number a)
