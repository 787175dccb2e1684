-- What is claimed of the first bytes of an input, for every number of bytes that decide. Proved in proofs/Proved.antt.
use Rattle.std.specs.Prelude.{ℕ, Bool, true, ◌≡◌, List, take}
use Rattle.answer.specs.Answer.{Unique}
use Rattle.answer.specs.Lists.{joined}
use Rattle.held.specs.declared.Held.{Held}
use Rattle.held.specs.Held.{held, after_piece, after_all, blank, is_full}

-- after pieces one after the other
abbrev pub after_pieces : (deciding : ℕ) → List (List ℕ) → Held deciding → Held deciding
after_pieces deciding ps c = after_all (after_piece deciding) ps c

pub record Laws : Type 0 where
  -- however the input arrives in pieces, what is held is its first bytes
  pub pieces : (deciding : ℕ) (ps : List (List ℕ)) → held deciding (after_pieces deciding ps (blank deciding)) ≡ take deciding (joined ps)
  -- once no byte more finds room, whatever follows changes nothing: nothing more need be read
  pub settled : (deciding : ℕ) (ps : List (List ℕ)) (c : Held deciding) → is_full deciding c ≡ true →
      held deciding (after_pieces deciding ps c) ≡ held deciding c
  -- each call's promise allows one outcome
  pub new_unique : (deciding : ℕ) → Unique (λ (r : Held deciding). r ≡ blank deciding)
  pub feed_unique : (deciding : ℕ) (c : Held deciding) (piece : List ℕ) →
      Unique {A = Held deciding × List ℕ} (λ o. (o.0 ≡ after_piece deciding piece c) × (o.1 ≡ piece))
  pub full_unique : (deciding : ℕ) (c : Held deciding) → Unique (λ (r : Bool). r ≡ is_full deciding c)
