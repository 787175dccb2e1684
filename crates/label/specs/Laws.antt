-- What is claimed of packet and PIL. Proved in proofs/Proved.antt.
use Rattle.std.specs.Prelude.{ℕ, ◌≤◌, ◌<◌, ◌≡◌, Bool, true, false, cond, not, List, [], ◌∷◌, eqb, ltb, length, get_or, Result}
use Rattle.answer.specs.Answer.{Answer, refused, given, and_then, Unique}
use Rattle.answer.specs.Lists.{member, count}
use Rattle.hamming.specs.Byte.{D, good, distance}
use Rattle.label.specs.declared.Label.{Label}
use Rattle.label.specs.declared.Received.{Received}
use Rattle.label.specs.declared.Refusal.{Refusal}
use Rattle.label.specs.declared.WriteRefusal.{WriteRefusal}
use Rattle.label.specs.declared.pil.Service.TheVariants.{Programme, TimerControl, InhibitTerminate, Interruption, Continuation, NoSpecificValue}
use Rattle.label.specs.Layout.{number_from}
use Rattle.label.specs.Packet.{refusal_number, reading_of, reception_of, write_refusal_number, written_number, writing_of, put, put_right, value_at, hamming_bytes}
use Rattle.label.specs.Pil.{parts_of, service_of}

-- something holds at each of the sixteen bytes
abbrev pub AtEach : (ℕ → Type 0) → Type 0
AtEach P = (i : ℕ) → member i hamming_bytes ≡ true → P i

-- a good byte
abbrev pub Good : ℕ → Type 0
Good g = (v : ℕ) × (v < 16) × (g ≡ good v)

-- b is the byte g with at most one wrong bit
abbrev pub OneWrong : ℕ → ℕ → Type 0
OneWrong g b = (b < 256) × (distance b g ≤ 1)

-- b is the byte g with n wrong bits
abbrev pub Wrong : ℕ → ℕ → ℕ → Type 0
Wrong n g b = (b < 256) × (distance b g ≡ n)

-- b is the byte g with two wrong bits
abbrev pub TwoWrong : ℕ → ℕ → Type 0
TwoWrong g b = Wrong 2 g b

-- the number of the refusal for a damaged byte
abbrev pub damage_number : ℕ → ℕ
damage_number i = cond (ltb i 2) 2 (cond (eqb i 2) 4 6)

-- 'the first that applies' of the refusal that an answer is, if it is one, and another
abbrev pub sooner : {A : Type 0} → Answer A → ℕ → ℕ
sooner (refused m) n = cond (ltb m n) m n
sooner (given a) n = n

pub record Laws : Type 0 where
  -- what the writer accepts, the reader gives back, whatever else stood in the buffer
  pub back : (l : Label) (p q : List ℕ) → writing_of l p ≡ given q → reading_of q ≡ given l
  -- what the reader accepts, written over it, is that packet with its sixteen bytes put right
  pub right : (l : Label) (p : List ℕ) → reading_of p ≡ given l → writing_of l p ≡ given (put (λ i. good (value_at p i)) hamming_bytes p)
  -- the writer keeps the length and every other byte
  pub kept : (l : Label) (p q : List ℕ) → writing_of l p ≡ given q →
      (length q ≡ length p) × ((i : ℕ) → member i hamming_bytes ≡ false → get_or q i 0 ≡ get_or p i 0)
  -- the reader looks at no byte but the sixteen
  pub only : (p q : List ℕ) → length p ≡ length q → AtEach (λ i. get_or p i 0 ≡ get_or q i 0) → reading_of p ≡ reading_of q
  -- one wrong bit in each of the sixteen bytes, in any number of them at once, reads as the same label, or is refused as before
  pub one : (p q : List ℕ) → length p ≡ length q → AtEach (λ i. Good (get_or p i 0)) → AtEach (λ i. OneWrong (get_or p i 0) (get_or q i 0)) →
      reading_of q ≡ reading_of p
  -- two wrong bits in one of them are refused with that byte's number, whatever single bits are wrong in the others;
  -- where the values were refused already, by the first of the two that applies
  pub two : (p q : List ℕ) (j : ℕ) → length p ≡ 42 → length q ≡ 42 → AtEach (λ i. Good (get_or p i 0)) →
      member j hamming_bytes ≡ true → TwoWrong (get_or p j 0) (get_or q j 0) → AtEach (λ i. (i ≡ j → ⊥) → OneWrong (get_or p i 0) (get_or q i 0)) →
      reading_of q ≡ refused (sooner (reading_of p) (damage_number j))
  -- two wrong bits in one of them are refused whatever the other bytes are, and however many: with that byte's number or an earlier one
  pub two_refused : (p : List ℕ) (j g : ℕ) → member j hamming_bytes ≡ true → Good g → TwoWrong g (get_or p j 0) →
      (n : ℕ) × (n ≤ damage_number j) × (reading_of p ≡ refused n)
  -- what is received has the label that is read, or is refused with the same number
  pub same_label : (p : List ℕ) → and_then (reception_of p) (λ r. given r.label) ≡ reading_of p
  -- the count of mended bytes is the number of the sixteen that differ from the packet put right, and 0 exactly where none does
  pub counted : (p : List ℕ) (r : Received) → AtEach (λ i. get_or p i 0 < 256) → reception_of p ≡ given r →
      r.mended ≡ count (λ i. not (eqb (get_or p i 0) (get_or (put_right p) i 0))) hamming_bytes
  pub counted_0 : (p : List ℕ) (r : Received) → AtEach (λ i. get_or p i 0 < 256) → reception_of p ≡ given r →
      (r.mended ≡ 0 → p ≡ put_right p) × (p ≡ put_right p → r.mended ≡ 0)
  -- what the writer wrote is received with none mended
  pub back_clean : (l : Label) (p q : List ℕ) → writing_of l p ≡ given q → reception_of q ≡ given (record { label = l; mended = 0 })
  -- one wrong bit in each of any of the sixteen bytes, whichever they are, and none in the others: as many are mended, or it is refused as before
  pub one_each : (p q : List ℕ) (wrong : ℕ → Bool) → length p ≡ length q → AtEach (λ i. Good (get_or p i 0)) →
      AtEach (λ i. Wrong (cond (wrong i) 1 0) (get_or p i 0) (get_or q i 0)) →
      reception_of q ≡ and_then (reading_of p) (λ l. given (record { label = l; mended = count wrong hamming_bytes }))
  -- no byte but the sixteen changes what is received
  pub only_received : (p q : List ℕ) → length p ≡ length q → AtEach (λ i. get_or p i 0 ≡ get_or q i 0) → reception_of p ≡ reception_of q
  -- no more than the sixteen are mended
  pub at_most_16 : (p : List ℕ) (r : Received) → reception_of p ≡ given r → r.mended ≤ 16
  -- the service codes are those of clause 6.2 e), bit by bit
  pub timer_control_lem : service_of 0b00000_1111_11111_111111 ≡ TimerControl
  pub inhibit_terminate_lem : service_of 0b00000_1111_11110_111111 ≡ InhibitTerminate
  pub interruption : service_of 0b00000_1111_11101_111111 ≡ Interruption
  pub continuation : service_of 0b00000_1111_11100_111111 ≡ Continuation
  pub no_specific_value_lem : service_of 0b11111_1111_11111_111111 ≡ NoSpecificValue
  -- and every other PIL is a programme's
  pub programme : (pil : ℕ) → (pil ≡ 0b00000_1111_11111_111111 → ⊥) → (pil ≡ 0b00000_1111_11110_111111 → ⊥) →
      (pil ≡ 0b00000_1111_11101_111111 → ⊥) → (pil ≡ 0b00000_1111_11100_111111 → ⊥) → (pil ≡ 0b11111_1111_11111_111111 → ⊥) → service_of pil ≡ Programme
  -- each call's promise allows one outcome
  pub turned_unique : (v : ℕ) → Unique (λ r. (r ≡ number_from 0 (D 1 v ∷ D 2 v ∷ D 3 v ∷ D 4 v ∷ [])) × (r < 16))
  pub refusal_number_unique : (r : Refusal) → Unique (λ n. n ≡ refusal_number r)
  pub write_refusal_number_unique : (r : WriteRefusal) → Unique (λ n. n ≡ write_refusal_number r)
  pub written_number_unique : (w : Result (Unit {0}) WriteRefusal) → Unique (λ n. n ≡ written_number w)
  pub parts_unique : (pil : ℕ) → Unique (λ r. r ≡ parts_of pil)
  pub service_unique : (pil : ℕ) → Unique (λ r. r ≡ service_of pil)
