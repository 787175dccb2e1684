-- What is claimed of a page's programmes. Proved in proofs/Proved.antt.
use Rattle.std.specs.Prelude.{ℕ, ◌+◌, ◌*◌, ◌≤◌, ◌<◌, ◌≡◌, true, List, ◌∷◌, ◌++◌, length, get_or, take, None, Some, Result}
use Rattle.answer.specs.Answer.{Answer, refused, given, and_then, first_of, Unique}
use Rattle.answer.specs.Lists.{member}
use Rattle.hamming.specs.Byte as byte
use Rattle.triplet.specs.Word as word
use Rattle.label.specs.Pil.{parts_of}
use Rattle.group.specs.declared.Group.{Group}
use Rattle.group.specs.declared.Group.TheVariants.{Terminator}
use Rattle.programmes.specs.declared.Programme.{Programme}
use Rattle.programmes.specs.declared.Refusal.{Refusal}
use Rattle.programmes.specs.declared.WriteRefusal.{WriteRefusal}
use Rattle.programmes.specs.Meaning.{active, nothing}
use Rattle.programmes.specs.Page.{byte_at, packets_of, addressed, thirteen, most, rows_to, blank, reading_of, read_number}
use Rattle.programmes.specs.Written.{Wrote, writing_of, refusal_number, written_number}
use Rattle.programmes.specs.Timer.{pil_of}

-- word j of packet k
abbrev pub word_at : List ℕ → ℕ → ℕ → ℕ
word_at p k j = word.word_of (byte_at p k (3 + 3 * j)) (byte_at p k (4 + 3 * j)) (byte_at p k (5 + 3 * j))

-- something holds at each Hamming byte, and something at each triplet, of the whole packets of a page
abbrev pub AtBytes : List ℕ → (ℕ → ℕ → Type 0) → Type 0
AtBytes p P = (k i : ℕ) → 42 * k + 42 ≤ length p → member i addressed ≡ true → P k i

abbrev pub AtTriplets : List ℕ → (ℕ → ℕ → Type 0) → Type 0
AtTriplets p P = (k j : ℕ) → 42 * k + 42 ≤ length p → member j thirteen ≡ true → P k j

abbrev pub GoodByte : ℕ → Type 0
GoodByte b = (v : ℕ) × (v < 16) × (b ≡ byte.good v)

abbrev pub GoodWord : ℕ → Type 0
GoodWord w = (v : ℕ) × (v < 262144) × (w ≡ word.good v)

-- at most one bit is wrong
abbrev pub OneWrongByte : ℕ → ℕ → Type 0
OneWrongByte g b = (b < 256) × (byte.distance b g ≤ 1)

abbrev pub OneWrongWord : ℕ → ℕ → Type 0
OneWrongWord g w = (w < 16777216) × (word.distance w g ≤ 1)

-- two bits are wrong
abbrev pub TwoWrongByte : ℕ → ℕ → Type 0
TwoWrongByte g b = (b < 256) × (byte.distance b g ≡ 2)

abbrev pub TwoWrongWord : ℕ → ℕ → Type 0
TwoWrongWord g w = (w < 16777216) × (word.distance w g ≡ 2)

-- the refusal that the first n packets already have, or else this one
abbrev pub already_or : List ℕ → ℕ → ℕ → Answer (List Programme)
already_or p n r = and_then (first_of {A = ℕ} (rows_to p n) 0) (λ u. refused r)

pub record Laws : Type 0 where
  -- what the writer accepts, the reader gives back from the packets that were written
  pub back : (m : ℕ) (qs : List Programme) (p : List ℕ) (w : Wrote) → writing_of m qs p ≡ given w →
      reading_of (take (42 * w.packets) w.bytes) ≡ given qs
  -- and what that is written as, over the same buffer, is the same bytes
  pub again : (m : ℕ) (qs rs : List Programme) (p : List ℕ) (w : Wrote) → writing_of m qs p ≡ given w →
      reading_of (take (42 * w.packets) w.bytes) ≡ given rs → writing_of m rs p ≡ given w
  -- the writer keeps the length and every byte past its packets
  pub kept : (m : ℕ) (qs : List Programme) (p : List ℕ) (w : Wrote) → writing_of m qs p ≡ given w →
      (length w.bytes ≡ length p) × ((i : ℕ) → 42 * w.packets ≤ i → get_or w.bytes i 0 ≡ get_or p i 0)
  -- one wrong bit in each of the Hamming bytes and triplets of a page of good ones, in any number of them at once, reads the same
  pub one : (p q : List ℕ) → length p ≡ length q → AtBytes p (λ k i. GoodByte (byte_at p k i)) → AtTriplets p (λ k j. GoodWord (word_at p k j)) →
      AtBytes p (λ k i. OneWrongByte (byte_at p k i) (byte_at q k i)) → AtTriplets p (λ k j. OneWrongWord (word_at p k j) (word_at q k j)) →
      reading_of q ≡ reading_of p
  -- two in one refuse it with 21, or with what an earlier packet already had, whatever the other bytes are
  pub two_byte : (p : List ℕ) (k i g : ℕ) → 42 * k + 42 ≤ length p → member i addressed ≡ true → GoodByte g → TwoWrongByte g (byte_at p k i) →
      reading_of p ≡ already_or p k 21
  pub two_triplet : (p : List ℕ) (k j g : ℕ) → 42 * k + 42 ≤ length p → member j thirteen ≡ true → GoodWord g → TwoWrongWord g (word_at p k j) →
      reading_of p ≡ already_or p k 21
  -- no page has more programmes
  pub at_most_103 : (p : List ℕ) (qs : List Programme) → reading_of p ≡ given qs → length qs ≤ most
  -- a page longer than seventeen packets reads as its first seventeen
  pub first_17 : (p : List ℕ) → 714 ≤ length p → reading_of p ≡ reading_of (take 714 p)
  -- a page that is read has whole packets, sixteen at most
  pub whole : (p : List ℕ) (qs : List Programme) → reading_of p ≡ given qs → (packets_of p ≤ 16) × (length p ≡ 42 * packets_of p)
  -- of a terminator nothing after it counts
  pub nothing_after : (gs hs : List Group) → active (gs ++ (Terminator ∷ hs)) ≡ active gs
  -- the PIL of a programme has its day, month, hour and minute
  pub parts : (q : Programme) (pil : ℕ) → pil_of q ≡ Some pil →
      (pil < 1048576) × (parts_of pil ≡ record { day = q.day; month = q.month; hour = q.hour; minute = q.minute })
  -- and where it has none, no PIL has them
  pub no_parts : (q : Programme) → pil_of q ≡ None → (pil : ℕ) →
      parts_of pil ≡ record { day = q.day; month = q.month; hour = q.hour; minute = q.minute } → ⊥
  -- each call's promise allows one outcome
  pub blank_unique : Unique (λ r. r ≡ blank)
  pub nothing_unique : Unique (λ r. r ≡ nothing)
  pub read_number_unique : (r : Refusal) → Unique (λ n. n ≡ read_number r)
  pub refusal_number_unique : (r : WriteRefusal) → Unique (λ n. n ≡ refusal_number r)
  pub written_number_unique : (w : Result ℕ WriteRefusal) → Unique (λ n. n ≡ written_number w)
  pub pil_unique : (q : Programme) → Unique (λ r. r ≡ pil_of q)
