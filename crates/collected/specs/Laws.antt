-- What is claimed of a page as it is collected. Proved in proofs/Proved.antt.
use Rattle.std.specs.Prelude.{ℕ, Bool, true, ◌≡◌, List, [], ◌∷◌}
use Rattle.answer.specs.Answer.{Answer, Unique}
use Rattle.answer.specs.Lists.{joined}
use Rattle.preview.specs.declared.Programme.{Programme}
use Rattle.preview.specs.Page.{Answers}
use Rattle.preview.specs.Taken.{ReadAs}
use Rattle.collected.specs.declared.Collected.{Collected}
use Rattle.collected.specs.Collected.{held, after_piece, blank, is_full}

-- after pieces one after the other
abbrev pub after_pieces : List (List ℕ) → Collected → Collected
after_pieces [] c = c
after_pieces (p ∷ ps) c = after_pieces ps (after_piece p c)

pub record Laws : Type 0 where
  -- however the input arrives in pieces, what is held has the answer that all of it has
  pub pieces : (ps : List (List ℕ)) (a : Answer (List Programme)) → Answers (joined ps) a → Answers (held (after_pieces ps blank)) a
  -- once no byte more finds room, whatever follows changes nothing: nothing more need be read
  pub settled : (ps : List (List ℕ)) (c : Collected) → is_full c ≡ true → held (after_pieces ps c) ≡ held c
  -- each call's promise allows one outcome
  pub new_unique : Unique (λ (r : Collected). r ≡ blank)
  pub feed_unique : (c : Collected) (piece : List ℕ) → Unique {A = Collected × List ℕ} (λ o. (o.0 ≡ after_piece piece c) × (o.1 ≡ piece))
  pub full_unique : (c : Collected) → Unique (λ (r : Bool). r ≡ is_full c)
  pub read_unique : (c : Collected) → Unique (λ r. ReadAs (held c) r)
