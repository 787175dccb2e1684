-- What is claimed of a page's timers section. Proved in proofs/Proved.antt.
use Rattle.std.specs.Prelude.{ℕ, ◌≤◌, ◌<◌, Bool, true, ◌≡◌, List, [], ◌∷◌, ◌++◌, map, length, take, drop, get_or, Result}
use Rattle.answer.specs.Answer.{Answer, Unique}
use Rattle.answer.specs.Lists.{joined}
use Rattle.answer.specs.Bytes.{number_of}
use Rattle.items.specs.Items.{timer, onto, next, on_packet_count, items_of}
use Rattle.preview.specs.declared.Programme.{Programme}
use Rattle.preview.specs.declared.Refusal.{Refusal}
use Rattle.preview.specs.Page.{Answers}
use Rattle.preview.specs.Taken.{reading_answer}
use Rattle.booked.specs.declared.Booked.{Booked}
use Rattle.section.specs.declared.Section.{Section}
use Rattle.section.specs.declared.Asked.{Asked}
use Rattle.section.specs.Section.{entry_of, section_of, written, longest, section_by, text_of}
use Rattle.section.specs.Asked.{tuner_in, page_in, section_in, nothing, after_piece, is_full, SectionAs}

-- after pieces one after the other
abbrev pub after_pieces : List (List ℕ) → Asked → Asked
after_pieces [] k = k
after_pieces (p ∷ ps) k = after_pieces ps (after_piece p k)

pub record Laws : Type 0 where
  -- what is written is what the answer by the grammar writes
  pub told : (input : List ℕ) (a : Answer (List Programme)) → Answers (page_in input) a → section_in input ≡ section_by (tuner_in input) a
  -- however the input arrives in pieces, what is written is the one definition's
  pub pieces : (ps : List (List ℕ)) → SectionAs (after_pieces ps nothing) (section_in (joined ps))
  -- once no byte more decides anything, whatever follows writes the same: nothing more need be read
  pub settled : (ps : List (List ℕ)) (k : Asked) (r : Answer Section) → is_full k ≡ true → SectionAs k r → SectionAs (after_pieces ps k) r
  -- the section finds room
  pub room : (tuner : ℕ) (page : List ℕ) (a : Answer (List Programme)) → Answers page a → length (written tuner a) ≤ longest
  -- and what an answer has to write is what is written: the whole section, and nothing of a refused page
  pub whole : (tuner : ℕ) (page : List ℕ) (a : Answer (List Programme)) → Answers page a → text_of (section_by tuner a) ≡ written tuner a
  -- a sheet that begins with it holds these timers, in this order, and then what follows it: no byte of one is taken for another
  pub timers : (tuner : ℕ) (bs : List Booked) (rest : List ℕ) →
      items_of (section_of tuner bs ++ rest) ≡ onto (map (λ b. timer (entry_of tuner b)) bs) (on_packet_count (next 2 rest))
  -- and what the sheet takes out of an entry (`booking_in` of the crate `sheet`) is what was put into it, where its bytes hold that
  pub fields : (tuner : ℕ) (b : Booked) → b.cni < 65536 → b.pil < 16777216 → b.length < 65536 → let e = entry_of tuner b in
      (number_of (take 2 e) ≡ b.cni) × (number_of (take 3 (drop 2 e)) ≡ b.pil) × (get_or e 5 0 ≡ b.year) × (get_or e 6 0 ≡ tuner)
      × (number_of (take 2 (drop 7 e)) ≡ b.length)
  -- each call's promise allows one outcome
  pub new_unique : Unique (λ (r : Asked). r ≡ nothing)
  pub feed_unique : (k : Asked) (piece : List ℕ) → Unique {A = Asked × List ℕ} (λ o. (o.0 ≡ after_piece piece k) × (o.1 ≡ piece))
  pub full_unique : (k : Asked) → Unique (λ (r : Bool). r ≡ is_full k)
  pub section_unique : (k : Asked) → Unique (λ (r : Result Section Refusal). SectionAs k (reading_answer r))
