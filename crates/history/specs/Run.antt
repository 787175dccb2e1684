-- A sequence of calls from a fresh desk, refused ones among them: what is answered, and what desk is left.
use Rattle.std.specs.Prelude.{ℕ, List, [], ◌∷◌}
use Rattle.answer.specs.Answer.{Answer, refused, given}
use Rattle.matching.specs.declared.Booking.{Booking}
use Rattle.desk.specs.declared.Desk.{Desk}
use Rattle.desk.specs.Moments.{fresh}
use Rattle.reply.specs.Numbers.{Says}
use Rattle.desk.specs.Calls.{Told, packet_of, wait_of, second_of, add_of, cancel_of, ask_of}

pub data Call : Type 0 where
  packet : ℕ → ℕ → List ℕ → Call  -- tuner, time, bytes
  wait : ℕ → Call  -- time
  second : Call
  add : Booking → Call
  cancel : ℕ → Call  -- slot
  ask : ℕ → Call  -- slot
  live : Call

-- an accepted call: the numbers that it tells, and the desk afterwards
pub record Done : Type 0 where
  pub tells : List ℕ
  pub desk : Desk

abbrev pub only_desk : Answer Desk → Answer Done
only_desk (refused n) = refused n
only_desk (given d) = given (record { tells = []; desk = d })

abbrev pub told_too : Answer Told → Answer Done
told_too (refused n) = refused n
told_too (given t) = given (record { tells = t.says ∷ []; desk = t.desk })

abbrev pub says_only : Desk → Answer Says → Answer Done
says_only d (refused n) = refused n
says_only d (given s) = given (record { tells = s.state ∷ s.place ∷ []; desk = d })

-- what a call does on a desk
unfoldable pub outcome : Call → Desk → Answer Done
outcome (packet tuner t bytes) d = only_desk (packet_of tuner t bytes d)
outcome (wait t) d = told_too (wait_of t d)
outcome second d = only_desk (second_of d)
outcome (add b) d = told_too (add_of b d)
outcome (cancel slot) d = only_desk (cancel_of slot d)
outcome (ask slot) d = says_only d (ask_of slot d)
outcome live d = given (record { tells = d.live ∷ []; desk = d })  -- the number that is kept (02, #106)

-- 'desk … unchanged' where it is refused
abbrev pub left : Desk → Answer Done → Desk
left d (refused n) = d
left d (given o) = o.desk

abbrev pub said : Answer Done → Answer (List ℕ)
said (refused n) = refused n
said (given o) = given o.tells

-- the desk after some calls, and their answers
unfoldable pub desk_after : List Call → Desk → Desk
desk_after [] d = d
desk_after (c ∷ cs) d = desk_after cs (left d (outcome c d))

unfoldable pub answers_of : List Call → Desk → List (Answer (List ℕ))
answers_of [] d = []
answers_of (c ∷ cs) d = said (outcome c d) ∷ answers_of cs (left d (outcome c d))

-- the desk that some calls reach from a fresh one
abbrev pub reached : List Call → Desk
reached cs = desk_after cs fresh

abbrev pub keep_call : {A : Type 0} → Answer A → Call → List Call → List Call
keep_call (refused n) c cs = cs
keep_call (given o) c cs = c ∷ cs

-- the calls that are accepted when their turn comes
unfoldable pub accepted : List Call → Desk → List Call
accepted [] d = []
accepted (c ∷ cs) d = keep_call (outcome c d) c (accepted cs (left d (outcome c d)))

abbrev pub keep_answer : Answer (List ℕ) → List (Answer (List ℕ)) → List (Answer (List ℕ))
keep_answer (refused n) as' = as'
keep_answer (given o) as' = given o ∷ as'

-- the answers that are no refusals
unfoldable pub given_ones : List (Answer (List ℕ)) → List (Answer (List ℕ))
given_ones [] = []
given_ones (a ∷ as') = keep_answer a (given_ones as')
