-- The desk and the answers are those of the accepted calls alone.
use Prim.Native.Nat.{ℕ}
use mathlib.Core.Path.{◌≡◌, refl, ap, ◌∙◌}
use mathlib.Core.List.{List, [], ◌∷◌}
use Rattle.answer.specs.Answer.{Answer, refused, given}
use Rattle.desk.specs.declared.Desk.{Desk}
use Rattle.desk.specs.Moments.{fresh}
use Rattle.desk.specs.Calls.{ask_of}
use Rattle.history.specs.Run.{Call, Done, outcome, left, said, desk_after, answers_of, reached, keep_call, accepted, keep_answer, given_ones}

accepted_does : (cs : List Call) (d : Desk) →
    (desk_after (accepted cs d) d ≡ desk_after cs d) × (answers_of (accepted cs d) d ≡ given_ones (answers_of cs d))
unfolding desk_after answers_of accepted given_ones
accepted_does [] d = (refl, refl)
accepted_does (c ∷ cs) d = go (outcome c d) refl (accepted_does cs)
  where
    go : (o : Answer Done) → outcome c d ≡ o →
        ((e : Desk) → (desk_after (accepted cs e) e ≡ desk_after cs e) × (answers_of (accepted cs e) e ≡ given_ones (answers_of cs e))) →
        (desk_after (keep_call o c (accepted cs (left d o))) d ≡ desk_after cs (left d o))
        × (answers_of (keep_call o c (accepted cs (left d o))) d ≡ keep_answer (said o) (given_ones (answers_of cs (left d o))))
    go (refused n) e ih = ih d
    go (given o) e ih =
        let k = ih o.desk in
        let rest = accepted cs o.desk in (
          ap (λ x. desk_after rest (left d x)) e ∙ k.0,
          ap (λ x. said x ∷ answers_of rest (left d x)) e ∙ ap (λ as'. given o.tells ∷ as') k.1,
        )

pub accepted_alone : (cs : List Call) → (reached (accepted cs fresh) ≡ reached cs)
    × (answers_of (accepted cs fresh) fresh ≡ given_ones (answers_of cs fresh))
    × ((slot : ℕ) → ask_of slot (reached (accepted cs fresh)) ≡ ask_of slot (reached cs))
accepted_alone cs = let k = accepted_does cs fresh in (k.0, k.1, λ slot. ap (ask_of slot) k.0)
