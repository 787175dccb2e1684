-- What is claimed of the exported calls: each call's promise allows one outcome. Proved in proofs/Proved.antt.
use Rattle.std.specs.Prelude.{ℕ, List, ◌≡◌}
use Rattle.answer.specs.Answer.{after, number, Unique}
use Rattle.calendar.specs.Calendar.{window_in}
use Rattle.hamming.specs.Byte.{nibble_of, coding_of}
use Rattle.label.specs.Pil.{service_of}
use Rattle.fields.specs.Fields.{plain, page_into, page_from, packets_told, bytes_left, pil_from}
use Rattle.fields.specs.Laws.{Left}
use Rattle.viewed.specs.Viewed.{ReadInto}
use Rattle.triplet.specs.Word.{word_of, triplet_of}
use Rattle.triplet.specs.Word as word
use Rattle.probe.specs.Plain.{nibble_number, byte_or, read_into, write_from, service_number, window_or, triplet_number}

pub record Laws : Type 0 where
  pub decode_unique : (b : ℕ) → Unique (λ r. r ≡ nibble_number (nibble_of b))
  pub encode_unique : (v : ℕ) → Unique (λ r. r ≡ byte_or (coding_of v))
  pub read_unique : (p out : List ℕ) →
      Unique {A = Left} (λ o. (o.0 ≡ number (read_into p out)) × ((o.1.0 ≡ after out (read_into p out)) × (o.1.1 ≡ p)))
  pub write_unique : (f p : List ℕ) →
      Unique {A = Left} (λ o. (o.0 ≡ number (write_from f p)) × ((o.1.0 ≡ after p (write_from f p)) × (o.1.1 ≡ f)))
  pub service_unique : (pil : ℕ) → Unique (λ r. r ≡ service_number (service_of pil))
  pub window_unique : (pil year : ℕ) → Unique (λ r. r ≡ window_or (window_in pil year))
  pub triplet_unique : (a b c : ℕ) → Unique (λ r. r ≡ triplet_number (triplet_of (word_of a b c)))
  pub triplet_word_unique : (v : ℕ) → Unique (λ r. r ≡ plain 16777216 (word.coding_of v))
  pub page_read_unique : (p out : List ℕ) →
      Unique {A = Left} (λ o. (o.0 ≡ number (page_into p out)) × ((o.1.0 ≡ after out (page_into p out)) × (o.1.1 ≡ p)))
  pub page_write_unique : (f buf : List ℕ) → Unique {A = Left} (λ o.
      (o.0 ≡ plain 256 (packets_told (page_from f buf))) × ((o.1.0 ≡ after buf (bytes_left (page_from f buf))) × (o.1.1 ≡ f)))
  pub pil_unique : (f : List ℕ) → Unique {A = ℕ × List ℕ} (λ o. (o.0 ≡ plain 16777216 (pil_from f)) × (o.1 ≡ f))
  pub preview_unique : (p out : List ℕ) → Unique {A = Left} (λ o. ReadInto p out o.0 o.1.0 × (o.1.1 ≡ p))
