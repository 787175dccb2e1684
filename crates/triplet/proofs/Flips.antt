-- One bit of a word flipped: how far that is, and what it does to the ones among some positions.
use Prim.Native.Nat.{ℕ, zero, suc, ◌+◌, ◌-◌, ◌/◌, ◌%◌, ◌^◌, ◌<◌}
use mathlib.Core.Path.{◌≡◌, refl, sym, ap, ◌∙◌}
use mathlib.Core.Bool.{Bool, true, false, cond}
use mathlib.Core.List.{List, [], ◌∷◌}
use native.Mathlib.Omega.{arith}
use native.Mathlib.Nat.{pow-suc, zero-add}
use borrow.Author.Tests.{eq-eqb, ne_eqb, eqb-false}
use lib.Bits.{bit_xor, xor_shr, xor_mod, xor_zero_r, xor_lt, xor_comm, xor_add_and}
use lib.Count.{ones}
use lib.Dec.{eqb}
use lib.Pow.{pow-lt}
use Rattle.hamming.specs.Byte.{D, apart}
use Rattle.hamming.proofs.Ones.{xor_apart, apart_same}
use Rattle.triplet.specs.Word.{ones_among}

-- bit n + 1 flipped
abbrev pub flip : ℕ → ℕ → ℕ
flip n w = bit_xor w (2 ^ n)

pub flip_small : (n w : ℕ) → n < 24 → w < 2 ^ 24 → flip n w < 2 ^ 24
flip_small n w h l = xor_lt 24 w (2 ^ n) l (pow-lt h)

-- ── the distance ───────────────────────────────────────────────────────────────────────────────────────────────────
first_half : (a : ℕ) → flip 0 a / 2 ≡ a / 2
first_half a = xor_shr a 1 1 ∙ xor_zero_r (a / 2)

first_odd : (a : ℕ) → flip 0 a % 2 ≡ 1 - a % 2
first_odd a =
    let m = xor_mod a 1 1 in
    let s = xor_add_and (a % 2) 1 in
    let l = xor_lt 1 (a % 2) 1 (omega arith) (omega arith) in
    omega arith

later_half : (n a : ℕ) → flip (suc n) a / 2 ≡ flip n (a / 2)
later_half n a = let h : 2 ^ suc n / 2 ≡ 2 ^ n = omega (arith, pow-suc 2 n) in xor_shr a (2 ^ suc n) 1 ∙ ap (bit_xor (a / 2)) h

later_odd : (n a : ℕ) → flip (suc n) a % 2 ≡ a % 2
later_odd n a =
    let h : 2 ^ suc n % 2 ≡ 0 = omega (arith, pow-suc 2 n) in
    xor_mod a (2 ^ suc n) 1 ∙ ap (bit_xor (a % 2)) h ∙ xor_zero_r (a % 2)

-- one step nearer to b
pub nearer : (k d a b : ℕ) → apart k a b ≡ suc d → (n : ℕ) × (n < k) × (apart k (flip n a) b ≡ d)
nearer zero d a b e = absurd (omega arith)
nearer (suc k) d a b e = go (eqb (a % 2) (b % 2)) refl e (nearer k d (a / 2) (b / 2))
  where
    later : (n : ℕ) → eqb (a % 2) (b % 2) ≡ true → n < k → apart k (flip n (a / 2)) (b / 2) ≡ d →
        (n : ℕ) × (n < suc k) × (apart (suc k) (flip n a) b ≡ d)
    later n h l q = (suc n, omega arith, rw (later_odd n a, later_half n a, h) (zero-add _ ∙ q))

    go : (t : Bool) → eqb (a % 2) (b % 2) ≡ t → cond t 0 1 + apart k (a / 2) (b / 2) ≡ suc d →
        (apart k (a / 2) (b / 2) ≡ suc d → (n : ℕ) × (n < k) × (apart k (flip n (a / 2)) (b / 2) ≡ d)) →
        (n : ℕ) × (n < suc k) × (apart (suc k) (flip n a) b ≡ d)
    go true h z r =
        let s = r (omega arith) in
        later s.0 h s.1 s.2
    go false h z r =
        let f = first_odd a in
        let g : (a % 2 ≡ b % 2) → ⊥ = eqb-false (a % 2) (b % 2) h in
        let o : flip 0 a % 2 ≡ b % 2 = omega arith in
        (0, omega arith, rw (eq-eqb (flip 0 a % 2) (b % 2) o, first_half a) (omega arith))

-- a flipped word is one bit apart
pub once : (k n a : ℕ) → n < k → apart k (flip n a) a ≡ 1
once zero n a h = absurd (omega arith)
once (suc k) zero a h =
    let f = first_odd a in
    let g : (flip 0 a % 2 ≡ a % 2) → ⊥ = λ e. omega arith in
    rw (ne_eqb (flip 0 a % 2) (a % 2) g, first_half a, apart_same k (a / 2))
once (suc k) (suc n) a h = rw (later_odd n a, later_half n a, eq-eqb (a % 2) (a % 2) refl, once k n (a / 2) (omega arith))

pub apart_back : (k a b : ℕ) → a < 2 ^ k → b < 2 ^ k → apart k a b ≡ apart k b a
apart_back k a b p q = sym (xor_apart k a b p q) ∙ ap ones (xor_comm a b) ∙ xor_apart k b a q p

-- ── the ones ───────────────────────────────────────────────────────────────────────────────────────────────────────
pub bit_xor_lem : (n a b : ℕ) → D n (bit_xor a b) ≡ bit_xor (D n a) (D n b)
unfolding D
bit_xor_lem n a b = ap (λ (x : ℕ). x % 2) (xor_shr a b (n - 1)) ∙ xor_mod (a / 2 ^ (n - 1)) (b / 2 ^ (n - 1)) 1

-- the ones of an exclusive or, and those of the two, are even in number
pub ones_xor : (ns : List ℕ) (a b : ℕ) → (ones_among ns (bit_xor a b) + ones_among ns a + ones_among ns b) % 2 ≡ 0
ones_xor [] a b = refl
ones_xor (n ∷ ns) a b =
    let r = ones_xor ns a b in
    let x = bit_xor_lem n a b in
    let s = xor_add_and (D n a) (D n b) in
    omega arith
