-- A page fed piece by piece is answered as the whole input is.
use Prim.Native.Nat.{ℕ}
use mathlib.Core.Path.{◌≡◌, refl, ap, ◌∙◌}
use mathlib.Core.Bool.{true}
use mathlib.Core.List.{List, [], ◌∷◌}
use native.Mathlib.Omega.{arith}
use native.Mathlib.Decide.{dec_lt}
use lib.ListN.{length, take}
use lib.Seq.{take_all, length-take-le}
use Rattle.answer.specs.Answer.{Answer, refused}
use Rattle.answer.specs.Lists.{joined}
use Rattle.held.specs.Held as first
use Rattle.held.specs.Laws as first_laws
use Rattle.held.proofs.Proved as held_first
use Rattle.preview.specs.declared.Programme.{Programme}
use Rattle.preview.specs.Page.{Answers, wrong_length}
use Rattle.preview.proofs.Proved as preview
use Rattle.collected.specs.declared.Collected.{Collected}
use Rattle.collected.specs.Collected.{deciding, held, after_piece, blank, is_full}
use Rattle.collected.specs.Laws.{after_pieces}

-- a page that is too long is refused, and so are its first bytes
first_bytes : (p : List ℕ) (a : Answer (List Programme)) → Answers p a → Answers (take deciding p) a
first_bytes p a w =
    elim (dec_lt (length p) deciding) [
      | yes l ↦ rw (take_all deciding p (omega arith)) w
      | no l ↦
          let long : a ≡ refused 23 = (preview.laws).one_answer p a (refused 23) w (wrong_length (λ e. omega arith)) in
          rw long (wrong_length (λ e. omega (arith, length-take-le deciding p (omega arith))))
    ]

-- pieces are those of the bytes held
same_pieces : (ps : List (List ℕ)) (c : Collected) → (after_pieces ps c).held ≡ first_laws.after_pieces deciding ps c.held
unfolding after_piece
same_pieces [] c = refl
same_pieces (p ∷ ps) c = same_pieces ps (after_piece p c)

all_held : (ps : List (List ℕ)) → held (after_pieces ps blank) ≡ take deciding (joined ps)
unfolding held blank
all_held ps = ap (λ c. first.held deciding c) (same_pieces ps blank) ∙ (held_first.laws).pieces deciding ps

pub pieces : (ps : List (List ℕ)) (a : Answer (List Programme)) → Answers (joined ps) a → Answers (held (after_pieces ps blank)) a
pieces ps a w = rw (all_held ps) (first_bytes (joined ps) a w)

pub settled : (ps : List (List ℕ)) (c : Collected) → is_full c ≡ true → held (after_pieces ps c) ≡ held c
unfolding held
settled ps c e = ap (λ h. first.held deciding h) (same_pieces ps c) ∙ (held_first.laws).settled deciding ps c.held e
