-- What is claimed of the Hamming byte. Proved in proofs/Proved.antt.
use Rattle.std.specs.Prelude.{ℕ, ◌≤◌, ◌<◌, ◌%◌, ◌≡◌, map}
use Rattle.answer.specs.Answer.{Unique}
use Rattle.hamming.specs.Byte.{good, values, table, distance, away, nibble_of, coded_answer, coding_of}
use Rattle.hamming.specs.declared.Nibble.TheVariants.{Damaged, Clean, Mended}

pub record Laws : Type 0 where
  -- the paper's list is that of the parity equations
  pub equations : map good values ≡ table
  -- two good bytes are at least four bits apart
  pub far : (v w : ℕ) → v < 16 → w < 16 → (v ≡ w → ⊥) → 4 ≤ distance (good v) (good w)
  -- no byte is near two good bytes
  pub one_near : (b v w : ℕ) → b < 256 → v < 16 → w < 16 → distance b (good v) ≤ 1 → distance b (good w) ≤ 1 → v ≡ w
  -- no good byte is nearer than the nearest, and one is as near
  pub least : (b v : ℕ) → v < 16 → away b ≤ distance b (good v)
  pub reached : (b : ℕ) → (v : ℕ) × (v < 16) × (away b ≡ distance b (good v))
  -- a byte at distance 0 from the good byte of v is clean and has the value v, and at distance 1 it is mended and has it
  pub near_clean : (b v : ℕ) → b < 256 → v < 16 → distance b (good v) ≡ 0 → nibble_of b ≡ Clean v
  pub near_mended : (b v : ℕ) → b < 256 → v < 16 → distance b (good v) ≡ 1 → nibble_of b ≡ Mended v
  -- and no other is, so that every other byte is damaged
  pub only_clean : (b v : ℕ) → nibble_of b ≡ Clean v → (v < 16) × (distance b (good v) ≡ 0)
  pub only_mended : (b v : ℕ) → nibble_of b ≡ Mended v → (v < 16) × (distance b (good v) ≡ 1)
  -- two wrong bits are never put right
  pub two : (b v : ℕ) → b < 256 → v < 16 → distance b (good v) ≡ 2 → nibble_of b ≡ Damaged
  -- what is sent is received, and clean; no other byte is clean
  pub sent : (v : ℕ) → v < 16 → nibble_of (good v) ≡ Clean v
  pub clean : (b v : ℕ) → b < 256 → nibble_of b ≡ Clean v → b ≡ good v
  -- each call's promise allows one outcome
  pub good_byte_unique : (v : ℕ) → Unique (λ r. r ≡ good (v % 16))
  pub decode_unique : (b : ℕ) → Unique (λ r. r ≡ nibble_of b)
  pub encode_unique : (v : ℕ) → Unique (λ r. coded_answer r ≡ coding_of v)
