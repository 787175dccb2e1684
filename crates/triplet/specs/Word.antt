-- The Hamming 24/18 word (document 02, #103). Bit 1 of a word is its lowest, and D n w (as of the data bits of a byte) its bit n.
use Rattle.std.specs.Prelude.{ℕ, zero, suc, ◌+◌, ◌*◌, ◌/◌, ◌%◌, ◌≡◌, cond, List, [], ◌∷◌, ◌++◌, map, ltb, eqb, Option, None, Some}
use Rattle.answer.specs.Answer.{Answer, refused, given, first_of}
use Rattle.hamming.specs.Byte.{D, apart}
use Rattle.triplet.specs.declared.Triplet.{Triplet}
use Rattle.triplet.specs.declared.Triplet.TheVariants.{Damaged, Clean, Mended}

-- 'bits 1 to 24 of three bytes, bit 1 the lowest of the first'
abbrev pub word_of : ℕ → ℕ → ℕ → ℕ
word_of a b c = a + 256 * b + 65536 * c

-- the number whose bits are these, the lowest first
abbrev pub from_bits : List ℕ → ℕ
from_bits [] = 0
from_bits (b ∷ bs) = b + 2 * from_bits bs

-- ── the good words ─────────────────────────────────────────────────────────────────────────────────────────────────
-- a good word's bits 1 to 24: 'parity bits at positions 1, 2, 4, 8, 16, each making odd the number of ones among the positions
-- 1 to 23 whose number has that bit, and at 24, making odd that of all twenty-four'; 'data bits D1 to D18 at 3, 5 to 7, 9 to 15,
-- 17 to 23'
unfoldable pub layout : ℕ → List ℕ
layout v =
    let d₁ = D 1 v in
    let d₂ = D 2 v in
    let d₃ = D 3 v in
    let d₄ = D 4 v in
    let d₅ = D 5 v in
    let d₆ = D 6 v in
    let d₇ = D 7 v in
    let d₈ = D 8 v in
    let d₉ = D 9 v in
    let d₁₀ = D 10 v in
    let d₁₁ = D 11 v in
    let d₁₂ = D 12 v in
    let d₁₃ = D 13 v in
    let d₁₄ = D 14 v in
    let d₁₅ = D 15 v in
    let d₁₆ = D 16 v in
    let d₁₇ = D 17 v in
    let d₁₈ = D 18 v in
    let p₁ = (1 + d₁ + d₂ + d₄ + d₅ + d₇ + d₉ + d₁₁ + d₁₂ + d₁₄ + d₁₆ + d₁₈) % 2 in
    let p₂ = (1 + d₁ + d₃ + d₄ + d₆ + d₇ + d₁₀ + d₁₁ + d₁₃ + d₁₄ + d₁₇ + d₁₈) % 2 in
    let p₄ = (1 + d₂ + d₃ + d₄ + d₈ + d₉ + d₁₀ + d₁₁ + d₁₅ + d₁₆ + d₁₇ + d₁₈) % 2 in
    let p₈ = (1 + d₅ + d₆ + d₇ + d₈ + d₉ + d₁₀ + d₁₁) % 2 in
    let p₁₆ = (1 + d₁₂ + d₁₃ + d₁₄ + d₁₅ + d₁₆ + d₁₇ + d₁₈) % 2 in
    let upTo₁₅ = 1 + p₁ + p₂ + d₁ + p₄ + d₂ + d₃ + d₄ + p₈ + d₅ + d₆ + d₇ + d₈ + d₉ + d₁₀ + d₁₁ in
    let p₂₄ = (upTo₁₅ + p₁₆ + d₁₂ + d₁₃ + d₁₄ + d₁₅ + d₁₆ + d₁₇ + d₁₈) % 2 in
    p₁ ∷ p₂ ∷ d₁ ∷ p₄ ∷ d₂ ∷ d₃ ∷ d₄ ∷ p₈
    ∷ d₅ ∷ d₆ ∷ d₇ ∷ d₈ ∷ d₉ ∷ d₁₀ ∷ d₁₁ ∷ p₁₆
    ∷ d₁₂ ∷ d₁₃ ∷ d₁₄ ∷ d₁₅ ∷ d₁₆ ∷ d₁₇ ∷ d₁₈ ∷ p₂₄ ∷ []

-- the good word of a value
unfoldable pub good : ℕ → ℕ
good v = from_bits (layout v)

-- ── the checks ─────────────────────────────────────────────────────────────────────────────────────────────────────
-- k numbers, from n on
unfoldable pub run : ℕ → ℕ → List ℕ
run zero n = []
run (suc k) n = n ∷ run k (suc n)

-- the bits of a word at some positions
abbrev pub bits_at : List ℕ → ℕ → List ℕ
bits_at ns w = map (λ n. D n w) ns

-- how many of some bits are ones
abbrev pub ones_of : List ℕ → ℕ
ones_of [] = 0
ones_of (b ∷ bs) = b + ones_of bs

-- 'the number of ones among the positions'
abbrev pub ones_among : List ℕ → ℕ → ℕ
ones_among ns w = ones_of (bits_at ns w)

-- that number is odd
abbrev pub odd : List ℕ → ℕ → Type 0
odd ns w = ones_among ns w % 2 ≡ 1

-- those of some numbers that have the bit p, one of 1, 2, 4, 8 and 16
abbrev pub having : ℕ → List ℕ → List ℕ
having p [] = []
having p (n ∷ ns) = cond (eqb (n / p % 2) 1) (n ∷ []) [] ++ having p ns

-- 'the positions 1 to 23 whose number has that bit'
unfoldable pub covered : ℕ → List ℕ
covered p = having p (run 23 1)

-- 'all twenty-four'
unfoldable pub all : List ℕ
all = run 24 1

-- 'each making odd the number of ones', all six
abbrev pub checked : ℕ → Type 0
checked w = odd (covered 1) w × odd (covered 2) w × odd (covered 4) w × odd (covered 8) w × odd (covered 16) w × odd all w

-- ── what a word carries ────────────────────────────────────────────────────────────────────────────────────────────
unfoldable pub distance : ℕ → ℕ → ℕ
distance a b = apart 24 a b

-- the values of eighteen bits; a list to be spoken of, never computed
unfoldable pub values : List ℕ
values = run 262144 0

-- the first listed value whose good word is at the distance d from a word, and 262144, which is no value, where there is none
abbrev pub first_at : ℕ → ℕ → List ℕ → ℕ
first_at w d [] = 262144
first_at w d (v ∷ vs) = cond (eqb (distance w (good v)) d) v (first_at w d vs)

-- 'at distance 0 or 1 from a good word it has that word's value, every other word is damaged'; as with the byte it is clean at
-- distance 0, and mended at distance 1
unfoldable pub triplet_of : ℕ → Triplet
triplet_of w =
    let same = first_at w 0 values in
    let near = first_at w 1 values in
    cond (ltb same 262144) (Clean same) (cond (ltb near 262144) (Mended near) Damaged)

-- the paper's number of a value that is wider than its eighteen bits
abbrev pub coded_answer : Option ℕ → Answer ℕ
coded_answer None = refused 19
coded_answer (Some w) = given w

-- what a value is sent as
unfoldable pub coding_of : ℕ → Answer ℕ
coding_of v = first_of ((ltb 262143 v, 19) ∷ []) (good v)
