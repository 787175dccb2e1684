-- The Hamming 8/4 byte (document 01, 'Packet layout'; 02, #102). Bit 1 of a byte is its lowest.
use Rattle.std.specs.Prelude.{ℕ, zero, suc, ◌+◌, ◌-◌, ◌*◌, ◌/◌, ◌%◌, ◌^◌, min, cond, List, [], ◌∷◌, map, ltb, eqb, Option, Some, None}
use Rattle.answer.specs.Answer.{Answer, refused, given, first_of}
use Rattle.hamming.specs.declared.Nibble.{Nibble}
use Rattle.hamming.specs.declared.Nibble.TheVariants.{Damaged, Clean, Mended}

-- data bit D1 to D4 of a value, 'with D1 lowest'
unfoldable pub D : ℕ → ℕ → ℕ
D k v = v / 2 ^ (k - 1) % 2

-- the good byte of a value: 'bits 1 to 8: P1 D1 P2 D2 P3 D3 P4 D4', by the four parity equations
unfoldable pub good : ℕ → ℕ
good v =
    let d₁ = D 1 v in
    let d₂ = D 2 v in
    let d₃ = D 3 v in
    let d₄ = D 4 v in
    let p₁ = (1 + d₁ + d₃ + d₄) % 2 in
    let p₂ = (1 + d₁ + d₂ + d₄) % 2 in
    let p₃ = (1 + d₁ + d₂ + d₃) % 2 in
    let p₄ = (1 + p₁ + d₁ + p₂ + d₂ + p₃ + d₃ + d₄) % 2 in
    p₁ + 2 * d₁ + 4 * p₂ + 8 * d₂ + 16 * p₃ + 32 * d₃ + 64 * p₄ + 128 * d₄

abbrev pub values : List ℕ
values = 0 ∷ 1 ∷ 2 ∷ 3 ∷ 4 ∷ 5 ∷ 6 ∷ 7 ∷ 8 ∷ 9 ∷ 10 ∷ 11 ∷ 12 ∷ 13 ∷ 14 ∷ 15 ∷ []

-- the good bytes of 'values 0 to 15' as the paper lists them
abbrev pub table : List ℕ
table = 0x15 ∷ 0x02 ∷ 0x49 ∷ 0x5E ∷ 0x64 ∷ 0x73 ∷ 0x38 ∷ 0x2F ∷ 0xD0 ∷ 0xC7 ∷ 0x8C ∷ 0x9B ∷ 0xA1 ∷ 0xB6 ∷ 0xFD ∷ 0xEA ∷ []

-- how many of the lowest k bits of two numbers differ
abbrev pub apart : ℕ → ℕ → ℕ → ℕ
apart zero a b = 0
apart (suc k) a b = cond (eqb (a % 2) (b % 2)) 0 1 + apart k (a / 2) (b / 2)

-- the distance of two bytes
unfoldable pub distance : ℕ → ℕ → ℕ
distance a b = apart 8 a b

-- the least of some numbers, and 0 of none
abbrev pub least : List ℕ → ℕ
least [] = 0
least (n ∷ []) = n
least (n ∷ (m ∷ ns)) = min n (least (m ∷ ns))

-- 'the distance to the nearest good byte', 'the least over the sixteen'
unfoldable pub away : ℕ → ℕ
away b = least (map (λ v. distance b (good v)) values)

-- the first listed value whose good byte is at the distance d from a byte, and 16, which is no value, where there is none
abbrev pub first_at : ℕ → ℕ → List ℕ → ℕ
first_at b d [] = 16
first_at b d (v ∷ vs) = cond (eqb (distance b (good v)) d) v (first_at b d vs)

-- the value of the nearest good byte, the first listed where several are as near
unfoldable pub nearest : ℕ → ℕ
nearest b = first_at b (away b) values

-- 'a byte at distance 0 or 1 from one of these has its value; the others are damaged', and 'clean with its value, mended with its
-- value, damaged': at distance 0 it is clean, and 'mended is at distance exactly 1'
unfoldable pub nibble_of : ℕ → Nibble
nibble_of b = cond (eqb (away b) 0) (Clean (nearest b)) (cond (eqb (away b) 1) (Mended (nearest b)) Damaged)

-- the paper's number of a value that is wider than its four bits
abbrev pub coded_answer : Option ℕ → Answer ℕ
coded_answer None = refused 16
coded_answer (Some b) = given b

-- what a value is sent as
unfoldable pub coding_of : ℕ → Answer ℕ
coding_of v = first_of ((ltb 15 v, 16) ∷ []) (good v)
