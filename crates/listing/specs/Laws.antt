-- What is claimed of the listing. Proved in proofs/Proved.antt.
use Rattle.std.specs.Prelude.{ℕ, ◌≤◌, Bool, true, ◌≡◌, List, [], ◌∷◌, length}
use Rattle.answer.specs.Answer.{Unique}
use Rattle.answer.specs.Lists.{joined}
use Rattle.listing.specs.declared.Collected.{Collected}
use Rattle.listing.specs.Listing.{listing_of}
use Rattle.listing.specs.Pieces.{blank, after_piece, is_full, end_told, longest, reported_by, out_after}

-- what is printed after pieces, from what is collected on, and then the input's end
abbrev pub printed : List (List ℕ) → Collected → List ℕ
printed [] c = end_told c
printed (p ∷ ps) c = printed ps (after_piece p c)

pub record Laws : Type 0 where
  -- however the input arrives in pieces, what is printed is the one definition's
  pub pieces : (ps : List (List ℕ)) → printed ps blank ≡ listing_of (joined ps)
  -- once no byte more finds room, whatever follows changes nothing: nothing more need be read
  pub settled : (c : Collected) (ps : List (List ℕ)) → is_full c ≡ true → printed ps c ≡ end_told c
  -- and no listing is longer than the room that is asked for it
  pub room : (p : List ℕ) → length (listing_of p) ≤ longest
  -- each call's promise allows one outcome
  pub new_unique : Unique (λ (r : Collected). r ≡ blank)
  pub feed_unique : (c : Collected) (piece : List ℕ) → Unique {A = Collected × List ℕ} (λ o. (o.0 ≡ after_piece piece c) × (o.1 ≡ piece))
  pub full_unique : (c : Collected) → Unique (λ (r : Bool). r ≡ is_full c)
  pub report_unique : (c : Collected) (out : List ℕ) → Unique {A = ℕ × List ℕ} (λ o. (o.0 ≡ reported_by out c) × (o.1 ≡ out_after out c))
