-- The answers back from their numbers: no two answers have the same.
use Rattle.std.specs.Prelude.{ℕ, ◌≡◌, refl, cond, Result, Ok, Err}
use lib.Dec.{eqb}
use Rattle.answer.specs.Answer.{Answer, refused, given}
use Rattle.label.specs.declared.Refusal.TheVariants.{Length, AddressDamaged, OtherPacket, DesignationDamaged, OtherDesignation, LabelDamaged}
use Rattle.reply.specs.Numbers.{Says, packet_number, wait_answer, add_answer, cancel_number, ask_answer, second_number}
use Rattle.reply.specs.declared.PacketRefusal.{PacketRefusal}
use Rattle.reply.specs.declared.WaitRefusal.{WaitRefusal}
use Rattle.reply.specs.declared.AddRefusal.{AddRefusal}
use Rattle.reply.specs.declared.NoTimer.{NoTimer}
use Rattle.reply.specs.declared.State.{State}
use Rattle.reply.specs.declared.PastEnd.{PastEnd}

unread : ℕ → PacketRefusal
unread n =
    cond (eqb n 1) (PacketRefusal.Unread Length)
    (cond (eqb n 2) (PacketRefusal.Unread AddressDamaged)
    (cond (eqb n 3) (PacketRefusal.Unread OtherPacket)
    (cond (eqb n 4) (PacketRefusal.Unread DesignationDamaged)
    (cond (eqb n 5) (PacketRefusal.Unread OtherDesignation) (PacketRefusal.Unread LabelDamaged)))))

packet_refused : ℕ → PacketRefusal
packet_refused n =
    cond (eqb n 7) PacketRefusal.Update
    (cond (eqb n 11) PacketRefusal.NotReal
    (cond (eqb n 12) PacketRefusal.Ended
    (cond (eqb n 8) PacketRefusal.Tuner (cond (eqb n 9) PacketRefusal.Before (cond (eqb n 10) PacketRefusal.Past (unread n))))))

pub packet_back : ℕ → Result (Unit {0}) PacketRefusal
packet_back n = cond (eqb n 0) (Ok tt) (Err (packet_refused n))

pub packet_back_lem : (a : Result (Unit {0}) PacketRefusal) → packet_back (packet_number a) ≡ a
unfolding packet_back packet_refused unread
packet_back_lem (Ok u) = refl
packet_back_lem (Err PacketRefusal.Tuner) = refl
packet_back_lem (Err PacketRefusal.Before) = refl
packet_back_lem (Err PacketRefusal.Past) = refl
packet_back_lem (Err PacketRefusal.Update) = refl
packet_back_lem (Err PacketRefusal.NotReal) = refl
packet_back_lem (Err PacketRefusal.Ended) = refl
packet_back_lem (Err (PacketRefusal.Unread Length)) = refl
packet_back_lem (Err (PacketRefusal.Unread AddressDamaged)) = refl
packet_back_lem (Err (PacketRefusal.Unread OtherPacket)) = refl
packet_back_lem (Err (PacketRefusal.Unread DesignationDamaged)) = refl
packet_back_lem (Err (PacketRefusal.Unread OtherDesignation)) = refl
packet_back_lem (Err (PacketRefusal.Unread LabelDamaged)) = refl

abbrev pub wait_back : Answer ℕ → Result ℕ WaitRefusal
wait_back (refused n) = Err (cond (eqb n 9) WaitRefusal.Before WaitRefusal.Past)
wait_back (given n) = Ok n

pub wait_back_lem : (a : Result ℕ WaitRefusal) → wait_back (wait_answer a) ≡ a
wait_back_lem (Err WaitRefusal.Before) = refl
wait_back_lem (Err WaitRefusal.Past) = refl
wait_back_lem (Ok n) = refl

abbrev pub add_back : Answer ℕ → Result ℕ AddRefusal
add_back (refused n) =
    Err (cond (eqb n 11) AddRefusal.NotReal
    (cond (eqb n 17) AddRefusal.OutOfRange (cond (eqb n 12) AddRefusal.Ended (cond (eqb n 13) AddRefusal.Held AddRefusal.Full))))
add_back (given i) = Ok i

pub add_back_lem : (a : Result ℕ AddRefusal) → add_back (add_answer a) ≡ a
add_back_lem (Err AddRefusal.NotReal) = refl
add_back_lem (Err AddRefusal.OutOfRange) = refl
add_back_lem (Err AddRefusal.Ended) = refl
add_back_lem (Err AddRefusal.Held) = refl
add_back_lem (Err AddRefusal.Full) = refl
add_back_lem (Ok i) = refl

abbrev pub cancel_back : ℕ → Result (Unit {0}) NoTimer
cancel_back n = cond (eqb n 0) (Ok tt) (Err (record {}))

pub cancel_back_lem : (a : Result (Unit {0}) NoTimer) → cancel_back (cancel_number a) ≡ a
cancel_back_lem (Err r) = refl
cancel_back_lem (Ok u) = refl

abbrev state_back : Says → State
state_back s =
    cond (eqb s.state 0) State.Waiting
    (cond (eqb s.state 1) State.Prepared
    (cond (eqb s.state 2) (State.Recording s.place)
    (cond (eqb s.state 3) (State.RunningOn s.place) (cond (eqb s.state 4) State.Ended State.ByTheClock))))

abbrev pub ask_back : Answer Says → Result State NoTimer
ask_back (refused n) = Err (record {})
ask_back (given s) = Ok (state_back s)

pub ask_back_lem : (a : Result State NoTimer) → ask_back (ask_answer a) ≡ a
ask_back_lem (Err r) = refl
ask_back_lem (Ok State.Waiting) = refl
ask_back_lem (Ok State.Prepared) = refl
ask_back_lem (Ok (State.Recording p)) = refl
ask_back_lem (Ok (State.RunningOn p)) = refl
ask_back_lem (Ok State.Ended) = refl
ask_back_lem (Ok State.ByTheClock) = refl

abbrev pub second_back : ℕ → Result (Unit {0}) PastEnd
second_back n = cond (eqb n 0) (Ok tt) (Err (record {}))

pub second_back_lem : (a : Result (Unit {0}) PastEnd) → second_back (second_number a) ≡ a
second_back_lem (Err r) = refl
second_back_lem (Ok u) = refl
