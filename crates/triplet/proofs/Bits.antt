-- A word and its bits.
use Prim.Native.Nat.{ℕ, zero, suc, ◌+◌, ◌-◌, ◌*◌, ◌/◌, ◌%◌, ◌^◌, ◌<◌}
use mathlib.Core.Path.{◌≡◌, refl, sym, ap, ◌∙◌}
use mathlib.Core.List.{List, [], ◌∷◌, ◌++◌, map}
use native.Mathlib.Omega.{arith}
use native.Mathlib.Nat.{pow-suc, pow-succ', div-div-eq-div-mul, zero-div, mod-one}
use lib.Arith.{mod-mul}
use lib.ListN.{length, get_or}
use lib.Pow.{pow_pos}
use Rattle.answer.proofs.Every.{All, all_of, map_same}
use Rattle.hamming.specs.Byte.{D}
use Rattle.hamming.proofs.Bits.{bit_at, bit_small, shifted}
use Rattle.triplet.specs.Word.{from_bits, run, bits_at, ones_of}

-- ── a bit ──────────────────────────────────────────────────────────────────────────────────────────────────────────
-- bit 0 is bit 1
bit_from : (n w : ℕ) → D n w ≡ D (suc (n - 1)) w
unfolding D
bit_from n w = sym (bit_at (n - 1) w)

bit_half : (j w : ℕ) → D (suc (suc j)) w ≡ D (suc j) (w / 2)
bit_half j w =
    bit_at (suc j) w
    ∙ ap (λ (x : ℕ). w / x % 2) (pow-succ' 2 j)
    ∙ ap (λ (x : ℕ). x % 2) (sym (div-div-eq-div-mul w 2 (2 ^ j)))
    ∙ sym (bit_at j (w / 2))

-- ── the number of some bits ────────────────────────────────────────────────────────────────────────────────────────
abbrev pub Bits : List ℕ → Type 0
Bits bs = All (λ b. b < 2) bs

pub bits_small : (ns : List ℕ) (w : ℕ) → Bits (bits_at ns w)
bits_small [] w = tt
bits_small (n ∷ ns) w = (bit_small n w, bits_small ns w)

pub number_small : (bs : List ℕ) → Bits bs → from_bits bs < 2 ^ length bs
number_small [] a = omega arith
number_small (b ∷ bs) a =
    let r = number_small bs a.1 in
    let l = a.0 in
    let p = pow-suc 2 (length bs) in
    omega arith

-- its bits are these
pub bit_of : (bs : List ℕ) → Bits bs → (j : ℕ) → D (suc j) (from_bits bs) ≡ get_or bs j 0
bit_of [] a j = bit_at j 0 ∙ ap (λ (x : ℕ). x % 2) (zero-div (2 ^ j))
bit_of (b ∷ bs) a zero = let l = a.0 in bit_at 0 (b + 2 * from_bits bs) ∙ omega arith
bit_of (b ∷ bs) a (suc j) =
    let l = a.0 in
    let h : (b + 2 * from_bits bs) / 2 ≡ from_bits bs = omega arith in
    bit_half j (b + 2 * from_bits bs) ∙ ap (D (suc j)) h ∙ bit_of bs a.1 j

-- those of a list's elements that stand at some positions, from 1 on
abbrev pub picked : List ℕ → List ℕ → List ℕ
picked bs ns = map (λ n. get_or bs (n - 1) 0) ns

pub bits_of_lem : (bs : List ℕ) → Bits bs → (ns : List ℕ) → bits_at ns (from_bits bs) ≡ picked bs ns
bits_of_lem bs a ns =
    map_same (λ n. D n (from_bits bs)) (λ n. get_or bs (n - 1) 0) ns (all_of (λ n. bit_from n (from_bits bs) ∙ bit_of bs a (n - 1)) ns)

-- a word's bits, one after the other, are that part of it
pub run_bits : (k j w : ℕ) → from_bits (bits_at (run k (suc j)) w) ≡ w / 2 ^ j % 2 ^ k
unfolding run
run_bits zero j w = sym (mod-one (w / 2 ^ j))
run_bits (suc k) j w =
    let x = w / 2 ^ j in
    let r = run_bits k (suc j) w ∙ ap (λ (y : ℕ). y % 2 ^ k) (shifted j w) in
    let m = mod-mul x {m = 2 ^ k} {c = 2} (pow_pos k) (omega arith) in
    let p : x % 2 ^ suc k ≡ x % (2 ^ k * 2) = ap (λ (y : ℕ). x % y) (pow-suc 2 k) in
    let b = bit_at j w in
    omega arith

-- ── parity ─────────────────────────────────────────────────────────────────────────────────────────────────────────
-- a sum as the equations have it: first, then one bit after the other
abbrev pub sum_from : ℕ → List ℕ → ℕ
sum_from n [] = n
sum_from n (b ∷ bs) = sum_from (n + b) bs

pub sum_ones : (n : ℕ) (bs : List ℕ) → sum_from n bs ≡ n + ones_of bs
sum_ones n [] = omega arith
sum_ones n (b ∷ bs) = let r = sum_ones (n + b) bs in omega arith

-- the bit that makes the ones odd in number, before and after the others
pub odd_first : (bs : List ℕ) → (sum_from 1 bs % 2 + ones_of bs) % 2 ≡ 1
odd_first bs = let s = sum_ones 1 bs in omega arith

pub ones_last : (b : ℕ) (bs : List ℕ) → ones_of (bs ++ (b ∷ [])) ≡ b + ones_of bs
ones_last b [] = refl
ones_last b (c ∷ bs) = let r = ones_last b bs in omega arith

pub odd_last : (bs : List ℕ) → ones_of (bs ++ (sum_from 1 bs % 2 ∷ [])) % 2 ≡ 1
odd_last bs = ap (λ (n : ℕ). n % 2) (ones_last (sum_from 1 bs % 2) bs) ∙ odd_first bs
