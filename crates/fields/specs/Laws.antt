-- What is claimed of a page's programmes as plain bytes. Proved in proofs/Proved.antt.
use Rattle.std.specs.Prelude.{ℕ, List, ◌≡◌, replicate}
use Rattle.answer.specs.Answer.{after, number, Unique}
use Rattle.programmes.specs.declared.Programme.{Programme}
use Rattle.programmes.specs.Page.{blank}
use Rattle.fields.specs.Fields.{programme_bytes, programme_at, plain, page_into, page_from, packets_told, bytes_left, pil_from}

-- a call's number, and as it leaves them the buffer and the bytes lent to be read
abbrev pub Left : Type 0
Left = ℕ × (List ℕ × List ℕ)

pub record Laws : Type 0 where
  -- a programme's bytes taken as one are the programme, so that no two have the same
  pub back : (q : Programme) → programme_at (programme_bytes q) 0 ≡ q
  -- past a page's own programmes every byte is 0
  pub none : programme_bytes blank ≡ replicate 16 0
  -- each call's promise allows one outcome
  pub read_into_unique : (p out : List ℕ) →
      Unique {A = Left} (λ o. (o.0 ≡ number (page_into p out)) × ((o.1.0 ≡ after out (page_into p out)) × (o.1.1 ≡ p)))
  pub write_from_unique : (f buf : List ℕ) → Unique {A = Left} (λ o.
      (o.0 ≡ plain 256 (packets_told (page_from f buf))) × ((o.1.0 ≡ after buf (bytes_left (page_from f buf))) × (o.1.1 ≡ f)))
  pub pil_from_unique : (f : List ℕ) → Unique {A = ℕ × List ℕ} (λ o. (o.0 ≡ plain 16777216 (pil_from f)) × (o.1 ≡ f))
