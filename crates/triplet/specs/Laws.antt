-- What is claimed of the Hamming 24/18 word. Proved in proofs/Proved.antt.
use Rattle.std.specs.Prelude.{ℕ, ◌≤◌, ◌<◌, ◌%◌, ◌^◌, ◌≡◌}
use Rattle.answer.specs.Answer.{Unique}
use Rattle.triplet.specs.Word.{word_of, good, checked, distance, triplet_of, coded_answer, coding_of}
use Rattle.triplet.specs.declared.Triplet.TheVariants.{Damaged, Clean, Mended}

pub record Laws : Type 0 where
  -- the good words are those that the six checks allow
  pub equations : (v : ℕ) → v < 262144 → (good v < 2 ^ 24) × checked (good v)
  pub only_equations : (w : ℕ) → w < 2 ^ 24 → checked w → (v : ℕ) × (v < 262144) × (w ≡ good v)
  -- two good words are at least four bits apart
  pub far : (v u : ℕ) → v < 262144 → u < 262144 → (v ≡ u → ⊥) → 4 ≤ distance (good v) (good u)
  -- no word is near two good words
  pub one_near : (w v u : ℕ) → w < 2 ^ 24 → v < 262144 → u < 262144 →
      distance w (good v) ≤ 1 → distance w (good u) ≤ 1 → v ≡ u
  -- a word at distance 0 from the good word of v is clean and has the value v, and at distance 1 it is mended and has it
  pub near_clean : (w v : ℕ) → w < 2 ^ 24 → v < 262144 → distance w (good v) ≡ 0 → triplet_of w ≡ Clean v
  pub near_mended : (w v : ℕ) → w < 2 ^ 24 → v < 262144 → distance w (good v) ≡ 1 → triplet_of w ≡ Mended v
  -- and no other is, so that every other word is damaged
  pub only_clean : (w v : ℕ) → triplet_of w ≡ Clean v → (v < 262144) × (distance w (good v) ≡ 0)
  pub only_mended : (w v : ℕ) → triplet_of w ≡ Mended v → (v < 262144) × (distance w (good v) ≡ 1)
  -- two wrong bits are never put right
  pub two : (w v : ℕ) → w < 2 ^ 24 → v < 262144 → distance w (good v) ≡ 2 → triplet_of w ≡ Damaged
  -- what is sent is received, and clean; no other word is clean
  pub sent : (v : ℕ) → v < 262144 → triplet_of (good v) ≡ Clean v
  pub clean : (w v : ℕ) → w < 2 ^ 24 → triplet_of w ≡ Clean v → w ≡ good v
  -- each call's promise allows one outcome
  pub good_word_unique : (v : ℕ) → Unique (λ r. r ≡ good (v % 262144))
  pub decode_unique : (a b c : ℕ) → Unique (λ r. r ≡ triplet_of (word_of a b c))
  pub encode_unique : (v : ℕ) → Unique (λ r. coded_answer r ≡ coding_of v)
