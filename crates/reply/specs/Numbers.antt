-- The paper's number and values for each answer of the desk (document 01, 'Timers and calls').
use Rattle.std.specs.Prelude.{ℕ, Result, Ok, Err}
use Rattle.answer.specs.Answer.{Answer, refused, given, number}
use Rattle.label.specs.Packet.{refusal_number}
use Rattle.reply.specs.declared.PacketRefusal.{PacketRefusal}
use Rattle.reply.specs.declared.WaitRefusal.{WaitRefusal}
use Rattle.reply.specs.declared.AddRefusal.{AddRefusal}
use Rattle.reply.specs.declared.NoTimer.{NoTimer}
use Rattle.reply.specs.declared.PastEnd.{PastEnd}
use Rattle.reply.specs.declared.State.{State}

-- a refusal is told by its number
abbrev pub told : {A R : Type 0} → (R → ℕ) → Result A R → Answer A
told numbered (Ok a) = given a
told numbered (Err r) = refused (numbered r)

-- 8 tuner above 3, 9 time before the clock, 10 time past the clock's end, 1 to 6 the reader's; of a packet with LUF 1 (02, #107): 7 no standing
-- label there matches a timer, 11 the new label is not real, 12 its window has ended
abbrev pub packet_refusal : PacketRefusal → ℕ
packet_refusal PacketRefusal.Tuner = 8
packet_refusal PacketRefusal.Before = 9
packet_refusal PacketRefusal.Past = 10
packet_refusal (PacketRefusal.Unread r) = refusal_number r
packet_refusal PacketRefusal.Update = 7
packet_refusal PacketRefusal.NotReal = 11
packet_refusal PacketRefusal.Ended = 12

abbrev pub packet_number : Result (Unit {0}) PacketRefusal → ℕ
packet_number a = number (told packet_refusal a)

abbrev pub wait_refusal : WaitRefusal → ℕ
wait_refusal WaitRefusal.Before = 9
wait_refusal WaitRefusal.Past = 10

abbrev pub wait_answer : Result ℕ WaitRefusal → Answer ℕ
wait_answer = told wait_refusal

-- 11 not real, 17 home tuner or length out of range (02, #105), 12 window has ended, 13 the same timer is held, 14 all slots held
abbrev pub add_refusal : AddRefusal → ℕ
add_refusal AddRefusal.NotReal = 11
add_refusal AddRefusal.OutOfRange = 17
add_refusal AddRefusal.Ended = 12
add_refusal AddRefusal.Held = 13
add_refusal AddRefusal.Full = 14

abbrev pub add_answer : Result ℕ AddRefusal → Answer ℕ
add_answer = told add_refusal

-- 15: 'slot above 15 or free'
abbrev pub no_timer_number : NoTimer → ℕ
no_timer_number r = 15

abbrev pub cancel_number : Result (Unit {0}) NoTimer → ℕ
cancel_number a = number (told no_timer_number a)

-- what asking gives: 0 waiting, 1 prepared, 2 recording, 3 running on, 4 ended, 5 by the clock (02, #105), and the place of the third and the fourth
pub record Says : Type 0 where
  pub state : ℕ
  pub place : ℕ

abbrev pub state_says : State → Says
state_says State.Waiting = record { state = 0; place = 0 }
state_says State.Prepared = record { state = 1; place = 0 }
state_says (State.Recording p) = record { state = 2; place = p }
state_says (State.RunningOn p) = record { state = 3; place = p }
state_says State.Ended = record { state = 4; place = 0 }
state_says State.ByTheClock = record { state = 5; place = 0 }

abbrev pub ask_answer : Result State NoTimer → Answer Says
ask_answer (Err r) = refused (no_timer_number r)
ask_answer (Ok s) = given (state_says s)

-- 10: the clock's end
abbrev pub past_end_number : PastEnd → ℕ
past_end_number r = 10

abbrev pub second_number : Result (Unit {0}) PastEnd → ℕ
second_number a = number (told past_end_number a)
