-- What is claimed of a preview page's programmes as plain bytes. Proved in proofs/Proved.antt.
use Rattle.std.specs.Prelude.{ℕ, ◌<◌, List, ◌≡◌, replicate}
use Rattle.answer.specs.Answer.{Unique}
use Rattle.preview.specs.declared.Programme.{Programme}
use Rattle.preview.specs.Taken.{blank}
use Rattle.viewed.specs.Viewed.{programme_bytes, ReadInto}

-- a call's number, and as it leaves them the buffer and the bytes lent to be read
abbrev pub Left : Type 0
Left = ℕ × (List ℕ × List ℕ)

pub record Laws : Type 0 where
  -- no two programmes have the same bytes, where a network is no wider than its two
  pub apart : (p q : Programme) → p.network < 65536 → q.network < 65536 → programme_bytes p ≡ programme_bytes q → p ≡ q
  -- past a page's own programmes every byte is 0
  pub none : programme_bytes blank ≡ replicate 16 0
  -- the call's promise allows one outcome
  pub read_into_unique : (p out : List ℕ) → Unique {A = Left} (λ o. ReadInto p out o.0 o.1.0 × (o.1.1 ≡ p))
