-- A byte and its bits: D n is bit n of any number, as it is data bit n of a value.
use Prim.Native.Nat.{ℕ, zero, suc, ◌+◌, ◌-◌, ◌*◌, ◌/◌, ◌%◌, ◌^◌, ◌<◌}
use mathlib.Core.Path.{◌≡◌, refl, sym, ap, ap₂, ◌∙◌}
use native.Mathlib.Omega.{arith}
use native.Mathlib.Nat.{pow-suc, div-div-eq-div-mul, div-one}
use lib.Bits.{bit_and, and_shr, and_mod}
use lib.Count.{ones, ones_in, ones_step}
use Rattle.hamming.specs.Byte.{D}
use Rattle.hamming.proofs.Ones.{two_bits}

-- ── a bit ──────────────────────────────────────────────────────────────────────────────────────────────────────────
pub bit_at : (j w : ℕ) → D (suc j) w ≡ w / 2 ^ j % 2
unfolding D
bit_at j w = let e : suc j - 1 ≡ j = omega arith in rw e

pub bit_small : (n w : ℕ) → D n w < 2
unfolding D
bit_small n w = omega arith

pub shifted : (j w : ℕ) → w / 2 ^ suc j ≡ w / 2 ^ j / 2
shifted j w = ap (λ (x : ℕ). w / x) (pow-suc 2 j) ∙ sym (div-div-eq-div-mul w (2 ^ j) 2)

-- bit n of a mask, which antt computes
abbrev mark : ℕ → ℕ → ℕ
mark n m = m / 2 ^ (n - 1) % 2

both_bits : (x y : ℕ) → x < 2 → y < 2 → bit_and x y ≡ x * y
both_bits = two_bits (λ x y. bit_and x y ≡ x * y) refl refl refl refl

-- under a mask a number has the bits that both have
bit_under : (n w m : ℕ) → D n (bit_and w m) ≡ D n w * mark n m
unfolding D
bit_under n w m =
    ap (λ (x : ℕ). x % 2) (and_shr w m (n - 1))
    ∙ and_mod (w / 2 ^ (n - 1)) (m / 2 ^ (n - 1)) 1
    ∙ both_bits (D n w) (mark n m) (omega arith) (omega arith)

-- ── all bits ───────────────────────────────────────────────────────────────────────────────────────────────────────
-- the number of k bits, and how many of them are ones, from bit j + 1 on
abbrev weighed : (ℕ → ℕ) → ℕ → ℕ → ℕ
weighed f zero j = 0
weighed f (suc k) j = f (suc j) + 2 * weighed f k (suc j)

abbrev added : (ℕ → ℕ) → ℕ → ℕ → ℕ
added f zero j = 0
added f (suc k) j = f (suc j) + added f k (suc j)

module _ (w : ℕ) (f : ℕ → ℕ) (e : (n : ℕ) → D n w ≡ f n) where
  number_of : (k j : ℕ) → w / 2 ^ j < 2 ^ k → w / 2 ^ j ≡ weighed f k j
  number_of zero j h = omega arith
  number_of (suc k) j h =
      let s = shifted j w in
      let p = pow-suc 2 k in
      let r = number_of k (suc j) (omega arith) in
      let b = sym (bit_at j w) ∙ e (suc j) in
      omega arith

  ones_of_lem : (k j : ℕ) → w / 2 ^ j < 2 ^ k → ones (w / 2 ^ j) ≡ added f k j
  unfolding ones ones_in
  ones_of_lem zero j h = let z : w / 2 ^ j ≡ 0 = omega arith in rw z
  ones_of_lem (suc k) j h =
      let s = shifted j w in
      let p = pow-suc 2 k in
      let r = ap ones (sym s) ∙ ones_of_lem k (suc j) (omega arith) in
      let b = sym (bit_at j w) ∙ e (suc j) in
      ones_step (w / 2 ^ j) ∙ ap₂ (λ (x y : ℕ). x + y) b r

-- the eight of a byte
pub whole : (w : ℕ) → w < 256 → w ≡ weighed (λ n. D n w) 8 0
whole w h = sym (div-one w) ∙ number_of w (λ n. D n w) (λ n. refl) 8 0 (omega (arith, div-one w))

module _ (w m : ℕ) (h : bit_and w m < 256) where
  -- those under a mask
  pub under : bit_and w m ≡ weighed (λ n. D n w * mark n m) 8 0
  under = sym (div-one (bit_and w m)) ∙ number_of (bit_and w m) (λ n. D n w * mark n m) (λ n. bit_under n w m) 8 0 (omega (arith, div-one (bit_and w m)))

  pub ones_under : ones (bit_and w m) ≡ added (λ n. D n w * mark n m) 8 0
  ones_under =
      ap ones (sym (div-one (bit_and w m)))
      ∙ ones_of_lem (bit_and w m) (λ n. D n w * mark n m) (λ n. bit_under n w m) 8 0 (omega (arith, div-one (bit_and w m)))
