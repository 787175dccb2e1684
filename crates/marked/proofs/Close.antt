-- A clock copy at its window's close: the seconds up to it pass at once, since the desk is quiet; all else is computed.
use Prim.Native.Nat.{ℕ}
use mathlib.Core.Path.{◌≡◌, refl, sym, ap, ap₂, ◌∙◌}
use mathlib.Core.Bool.{true}
use mathlib.Core.List.{List, [], ◌∷◌}
use Rattle.answer.specs.Answer.{Answer, given}
use Rattle.matching.specs.declared.Booking.{Booking}
use Rattle.rule.specs.declared.Copy.TheVariants.{Waiting}
use Rattle.desk.specs.declared.Desk.{Desk}
use Rattle.desk.specs.Moments.{fresh, clocked_at, moment, walk, pass_to, quiet}
use Rattle.desk.specs.Calls.{with_timer, wait_of}
use Rattle.desk.proofs.Settle.{moment_settled}
use Rattle.desk.proofs.Turns.{jump_walked}
use Rattle.desk.proofs.Fast.{fast_to, fast_pass}
use Rattle.history.specs.Run.{Call, wait, add, ask, live, outcome, answers_of}
use Rattle.marked.specs.Marked.{pil_of, silent, asked_at, plainly}
use Rattle.marked.proofs.Rules.{rules}
use Rattle.marked.proofs.Twelve.{after_given}

abbrev late : Booking
late = record { cni = 0x1D65; pil = pil_of 1 1 23 59; year = 0; tuner = 0; length = 1440 }

-- the desk with the timer, and at the last second of its window
abbrev booked : Desk
booked = moment (with_timer 0 (record { booking = late; copy = Waiting }) fresh)

abbrev last : Desk
last = moment (clocked_at 100799 booked)

added : outcome (add late) fresh ≡ given (record { tells = 0 ∷ []; desk = booked })
unfolding rules
added = refl

still : quiet booked ≡ true
unfolding rules
still = refl

at_last : fast_to 1 100799 booked ≡ last
unfolding fast_to rules
at_last = refl

waited : outcome (wait 100799) booked ≡ given (record { tells = 0 ∷ []; desk = last })
unfolding outcome wait_of moment
waited =
    ap₂ (λ (n : ℕ) (d : Desk). given (record { tells = n ∷ []; desk = d })) (jump_walked 100799 booked still)
    (ap moment (sym (fast_pass 1 100799 booked) ∙ at_last) ∙ moment_settled (clocked_at 100799 booked))

rest : List Call
rest = ask 0 ∷ live ∷ wait 100800 ∷ ask 0 ∷ live ∷ []

said_then : plainly (answers_of rest last) ≡ 5 ∷ 0 ∷ 1 ∷ 0 ∷ 4 ∷ 0 ∷ 0 ∷ []
unfolding rest rules walk pass_to
said_then = refl

pub at_close : plainly (answers_of (silent 23 59 1440 ∷ asked_at (100799 ∷ 100800 ∷ [])) fresh) ≡ 0 ∷ 0 ∷ 5 ∷ 0 ∷ 1 ∷ 0 ∷ 4 ∷ 0 ∷ 0 ∷ []
unfolding rest
at_close =
    ap plainly (after_given (add late) (wait 100799 ∷ rest) fresh (record { tells = 0 ∷ []; desk = booked }) added)
    ∙ ap (λ (as' : List (Answer (List ℕ))). 0 ∷ plainly as') (after_given (wait 100799) rest booked (record { tells = 0 ∷ []; desk = last }) waited)
    ∙ ap (λ (ns : List ℕ). 0 ∷ 0 ∷ ns) said_then
