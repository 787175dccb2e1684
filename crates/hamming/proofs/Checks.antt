-- The four checks of a byte, P4's being the overall one. The bytes that all of them allow are the good bytes; which of them fail says
-- which bit is wrong.
use Prim.Native.Nat.{ℕ, zero, suc, ◌+◌, ◌*◌, ◌/◌, ◌%◌, ◌≤◌, ◌<◌}
use mathlib.Core.Path.{◌≡◌, refl, sym, ap, ◌∙◌}
use mathlib.Core.Bool.{Bool}
use mathlib.Core.List.{List, [], ◌∷◌}
use native.Mathlib.Omega.{arith}
use native.Mathlib.Nat.{mod-eq_of_lt}
use borrow.Author.Tests.{eqb-true}
use lib.Bits.{bit_and, bit_xor, and_le_r, and_mask, xor_lt}
use lib.Count.{ones, ones_in}
use lib.Dec.{T, eqb}
use Rattle.answer.proofs.All.{below, each}
use Rattle.answer.proofs.Every.{All, every, tested}
use Rattle.hamming.specs.Byte.{D, good, distance, nibble_of}
use Rattle.hamming.specs.declared.Nibble.TheVariants.{Damaged, Clean, Mended}
use Rattle.hamming.proofs.Ones.{xor_apart, apart_xor, ones_xor}
use Rattle.hamming.proofs.Bits.{bit_small, shifted, whole, under, ones_under}
use Rattle.hamming.proofs.Nearest.{passes}
use Rattle.hamming.proofs.Bytes.{good_small, distance_none, is_damaged_lem, near_mended, sent}

-- ── the equations ──────────────────────────────────────────────────────────────────────────────────────────────────
-- bits 1 to 8: P1 D1 P2 D2 P3 D3 P4 D4
abbrev pub laid : ℕ → ℕ → ℕ → ℕ → ℕ → ℕ → ℕ → ℕ → ℕ
laid p₁ d₁ p₂ d₂ p₃ d₃ p₄ d₄ = p₁ + 2 * d₁ + 4 * p₂ + 8 * d₂ + 16 * p₃ + 32 * d₃ + 64 * p₄ + 128 * d₄

-- the value of four data bits
abbrev pub valued : ℕ → ℕ → ℕ → ℕ → ℕ
valued d₁ d₂ d₃ d₄ = d₁ + 2 * d₂ + 4 * d₃ + 8 * d₄

-- the lowest four bits of a number
pub lowest_four : (v : ℕ) → valued (v % 2) (v / 2 % 2) (v / 4 % 2) (v / 8 % 2) ≡ v % 16
lowest_four v = let a = shifted 1 v in let b = shifted 2 v in let c = shifted 3 v in omega arith

-- data bits between the parity bits of their equations are a good byte
module _ (d₁ d₂ d₃ d₄ : ℕ) (l₁ : d₁ < 2) (l₂ : d₂ < 2) (l₃ : d₃ < 2) (l₄ : d₄ < 2) where
  abbrev value : ℕ
  value = valued d₁ d₂ d₃ d₄

  data_bits_lem : (D 1 value ≡ d₁) × (D 2 value ≡ d₂) × (D 3 value ≡ d₃) × (D 4 value ≡ d₄)
  unfolding D
  data_bits_lem = (omega arith, omega arith, omega arith, omega arith)

  pub laid_good : {p₁ p₂ p₃ p₄ : ℕ} →
      p₁ ≡ (1 + d₁ + d₃ + d₄) % 2 → p₂ ≡ (1 + d₁ + d₂ + d₄) % 2 → p₃ ≡ (1 + d₁ + d₂ + d₃) % 2 →
      p₄ ≡ (1 + p₁ + d₁ + p₂ + d₂ + p₃ + d₃ + d₄) % 2 →
      laid p₁ d₁ p₂ d₂ p₃ d₃ p₄ d₄ ≡ good value
  unfolding good
  laid_good e₁ e₂ e₃ e₄ = rw (data_bits_lem.0, data_bits_lem.1, data_bits_lem.2, data_bits_lem.3, ← e₁, ← e₂, ← e₃, ← e₄)

-- ── what each check counts ─────────────────────────────────────────────────────────────────────────────────────────
abbrev pub fails : ℕ → ℕ → ℕ
fails m b = (1 + ones (bit_and b m)) % 2

-- which of the first three fail, as one number
abbrev pub failing : ℕ → ℕ
failing b = fails 0xA3 b + 2 * fails 0x8E b + 4 * fails 0x3A b

module _ (b : ℕ) where
  small : (m : ℕ) → m < 256 → bit_and b m < 256
  small m h = let l = and_le_r b m in omega arith

  pub counts_1 : ones (bit_and b 0xA3) ≡ D 1 b + D 2 b + D 6 b + D 8 b
  counts_1 = ones_under b 0xA3 (small 0xA3 (omega arith)) ∙ omega arith

  pub counts_2 : ones (bit_and b 0x8E) ≡ D 3 b + D 2 b + D 4 b + D 8 b
  counts_2 = ones_under b 0x8E (small 0x8E (omega arith)) ∙ omega arith

  pub counts_3 : ones (bit_and b 0x3A) ≡ D 5 b + D 2 b + D 4 b + D 6 b
  counts_3 = ones_under b 0x3A (small 0x3A (omega arith)) ∙ omega arith

  pub counts_4 : ones (bit_and b 0xFF) ≡ D 1 b + D 2 b + D 3 b + D 4 b + D 5 b + D 6 b + D 7 b + D 8 b
  counts_4 = ones_under b 0xFF (small 0xFF (omega arith)) ∙ omega arith

  -- the data bits, as `data_bits` takes them
  abbrev pub own : ℕ
  own = valued (D 2 b) (D 4 b) (D 6 b) (D 8 b)

  pub D1-D3 : bit_and b 0x22 ≡ 2 * D 2 b + 32 * D 6 b
  D1-D3 = under b 0x22 (small 0x22 (omega arith)) ∙ omega arith

  pub D2-D4 : bit_and b 0x88 ≡ 8 * D 4 b + 128 * D 8 b
  D2-D4 = under b 0x88 (small 0x88 (omega arith)) ∙ omega arith

-- a check that holds is its equation
equation : (p x y z : ℕ) → p < 2 → (1 + (p + x + y + z)) % 2 ≡ 0 → p ≡ (1 + x + y + z) % 2
equation p x y z l e = omega arith

equation_4 : (p₁ d₁ p₂ d₂ p₃ d₃ p₄ d₄ : ℕ) → p₄ < 2 → (1 + (p₁ + d₁ + p₂ + d₂ + p₃ + d₃ + p₄ + d₄)) % 2 ≡ 0 →
    p₄ ≡ (1 + p₁ + d₁ + p₂ + d₂ + p₃ + d₃ + d₄) % 2
equation_4 p₁ d₁ p₂ d₂ p₃ d₃ p₄ d₄ l e = omega arith

-- a byte that all four allow is the good byte of its own data bits
pub allowed : (b : ℕ) → b < 256 → fails 0xA3 b ≡ 0 → fails 0x8E b ≡ 0 → fails 0x3A b ≡ 0 → fails 0xFF b ≡ 0 → b ≡ good (own b)
allowed b h e₁ e₂ e₃ e₄ =
    whole b h
    ∙ omega arith
    ∙ laid_good (D 2 b) (D 4 b) (D 6 b) (D 8 b) (bit_small 2 b) (bit_small 4 b) (bit_small 6 b) (bit_small 8 b)
    (equation _ _ _ _ (bit_small 1 b) (rw counts_1 at e₁))
    (equation _ _ _ _ (bit_small 3 b) (rw counts_2 at e₂))
    (equation _ _ _ _ (bit_small 5 b) (rw counts_3 at e₃))
    (equation_4 _ _ _ _ _ _ _ _ (bit_small 7 b) (rw counts_4 at e₄))

-- ── what is sent ───────────────────────────────────────────────────────────────────────────────────────────────────
module _ (p₁ d₁ p₂ d₂ p₃ d₃ p₄ d₄ : ℕ) where
  abbrev byte : ℕ
  byte = laid p₁ d₁ p₂ d₂ p₃ d₃ p₄ d₄

  laid_bits : p₁ < 2 → d₁ < 2 → p₂ < 2 → d₂ < 2 → p₃ < 2 → d₃ < 2 → p₄ < 2 → d₄ < 2 →
      (D 1 byte ≡ p₁) × (D 2 byte ≡ d₁) × (D 3 byte ≡ p₂) × (D 4 byte ≡ d₂)
      × (D 5 byte ≡ p₃) × (D 6 byte ≡ d₃) × (D 7 byte ≡ p₄) × (D 8 byte ≡ d₄)
  unfolding D
  laid_bits k₁ l₁ k₂ l₂ k₃ l₃ k₄ l₄ =
      (omega arith, omega arith, omega arith, omega arith, omega arith, omega arith, omega arith, omega arith)

-- the parity bits counted among the data bits, the last among the seven others
pub sent_good : (d₁ d₂ d₃ d₄ : ℕ) → d₁ < 2 → d₂ < 2 → d₃ < 2 → d₄ < 2 → (p₁ p₂ p₃ p₄ : ℕ) →
    p₁ ≡ fails 0xA3 (laid 0 d₁ 0 d₂ 0 d₃ 0 d₄) → p₂ ≡ fails 0x8E (laid 0 d₁ 0 d₂ 0 d₃ 0 d₄) →
    p₃ ≡ fails 0x3A (laid 0 d₁ 0 d₂ 0 d₃ 0 d₄) → p₄ ≡ fails 0xFF (laid p₁ d₁ p₂ d₂ p₃ d₃ 0 d₄) →
    laid p₁ d₁ p₂ d₂ p₃ d₃ p₄ d₄ ≡ good (valued d₁ d₂ d₃ d₄)
sent_good d₁ d₂ d₃ d₄ l₁ l₂ l₃ l₄ p₁ p₂ p₃ p₄ e₁ e₂ e₃ e₄ =
    let z : 0 < 2 = omega arith in
    let x = laid 0 d₁ 0 d₂ 0 d₃ 0 d₄ in
    let b = laid_bits 0 d₁ 0 d₂ 0 d₃ 0 d₄ z l₁ z l₂ z l₃ z l₄ in
    let y = laid p₁ d₁ p₂ d₂ p₃ d₃ 0 d₄ in
    let c = laid_bits p₁ d₁ p₂ d₂ p₃ d₃ 0 d₄ (omega arith) l₁ (omega arith) l₂ (omega arith) l₃ z l₄ in
    let f₁ : ones (bit_and x 0xA3) ≡ 0 + d₁ + d₃ + d₄ = counts_1 x ∙ rw (b.0, b.1, b.5, b.7) in
    let f₂ : ones (bit_and x 0x8E) ≡ 0 + d₁ + d₂ + d₄ = counts_2 x ∙ rw (b.2, b.1, b.3, b.7) in
    let f₃ : ones (bit_and x 0x3A) ≡ 0 + d₁ + d₂ + d₃ = counts_3 x ∙ rw (b.4, b.1, b.3, b.5) in
    let f₄ : ones (bit_and y 0xFF) ≡ p₁ + d₁ + p₂ + d₂ + p₃ + d₃ + 0 + d₄ =
    counts_4 y ∙ rw (c.0, c.1, c.2, c.3, c.4, c.5, c.6, c.7) in
    laid_good d₁ d₂ d₃ d₄ l₁ l₂ l₃ l₄
    (e₁ ∙ of_three _ _ _ _ f₁)
    (e₂ ∙ of_three _ _ _ _ f₂)
    (e₃ ∙ of_three _ _ _ _ f₃)
    (e₄ ∙ of_seven _ _ _ _ _ _ _ _ f₄)
  where
    of_three : (n x y z : ℕ) → n ≡ 0 + x + y + z → (1 + n) % 2 ≡ (1 + x + y + z) % 2
    of_three n x y z e = omega arith

    of_seven : (n s t u v w x y : ℕ) → n ≡ s + t + u + v + w + x + 0 + y → (1 + n) % 2 ≡ (1 + s + t + u + v + w + x + y) % 2
    of_seven n s t u v w x y e = omega arith

-- ── what they say of a byte ────────────────────────────────────────────────────────────────────────────────────────
own_small : (b : ℕ) → own b < 16
own_small b =
    let l₁ = bit_small 2 b in
    let l₂ = bit_small 4 b in
    let l₃ = bit_small 6 b in
    let l₄ = bit_small 8 b in
    omega arith

-- all four hold of a good byte
abbrev masks : List ℕ
masks = 0xA3 ∷ 0x8E ∷ 0x3A ∷ 0xFF ∷ []

holds : ℕ → Bool
holds v = every (λ m. eqb (fails m (good v)) 0) masks

all_hold : T (below holds 16)
unfolding holds D good ones ones_in
all_hold = tt

good_holds : (v : ℕ) → v < 16 → All (λ m. fails m (good v) ≡ 0) masks
unfolding holds
good_holds v h = tested (λ m. eqb (fails m (good v)) 0) (λ m. eqb-true (fails m (good v)) 0) masks (passes (holds v) (each holds 16 all_hold v h))

all_eight : (b : ℕ) → b < 256 → ones (bit_and b 0xFF) ≡ ones b
all_eight b h = ap ones (and_mask b 8 ∙ mod-eq_of_lt h)

-- one bit, which has a part in just the checks that fail
abbrev pub Tells : ℕ → ℕ → Type 0
Tells w n =
    (ones w ≡ 1) × (ones (bit_and w 0xA3) ≡ n % 2) × (ones (bit_and w 0x8E) ≡ n / 2 % 2) × (ones (bit_and w 0x3A) ≡ n / 4)

-- each of the three by that number
one_of : (x y z : ℕ) → let n = x % 2 + 2 * (y % 2) + 4 * (z % 2) in (n % 2 ≡ x % 2) × (n / 2 % 2 ≡ y % 2) × (n / 4 ≡ z % 2)
one_of x y z = (omega arith, omega arith, omega arith)

module _ (b : ℕ) where
  each_fails : (failing b % 2 ≡ fails 0xA3 b) × (failing b / 2 % 2 ≡ fails 0x8E b) × (failing b / 4 ≡ fails 0x3A b)
  each_fails = one_of (1 + ones (bit_and b 0xA3)) (1 + ones (bit_and b 0x8E)) (1 + ones (bit_and b 0x3A))

module _ (b : ℕ) (p : b < 256) where
  -- where all hold it is clean
  pub clean_told : failing b ≡ 0 → fails 0xFF b ≡ 0 → Clean (own b) ≡ nibble_of b
  clean_told n o =
      let e : b ≡ good (own b) = allowed b p (omega arith) (omega arith) (omega arith) o in
      sym (ap nibble_of e ∙ sent (own b) (own_small b))

  -- where the overall one holds and another fails, no good byte is near: one wrong bit would make the overall one fail
  pub damaged_told : (failing b ≡ 0 → ⊥) → fails 0xFF b ≡ 0 → Damaged ≡ nibble_of b
  unfolding distance
  damaged_told n o = sym (is_damaged_lem b (λ v q. none v q (distance b (good v)) refl))
    where
      none : (v : ℕ) → v < 16 → (d : ℕ) → distance b (good v) ≡ d → d ≤ 1 → ⊥
      none v q zero e l =
          let f = ap failing (distance_none b (good v) p (good_small v q) e) in
          let h = good_holds v q in
          let e₁ = h.0 in
          let e₂ = h.1.0 in
          let e₃ = h.1.1.0 in
          n (omega arith)
      none v q (suc zero) e l =
          let s = good_small v q in
          let x = ones_xor 8 0xFF b (good v) (omega arith) in
          let y = all_eight (bit_xor b (good v)) (xor_lt 8 b (good v) p s) ∙ xor_apart 8 b (good v) p s ∙ e in
          let z = (good_holds v q).1.1.1.0 in
          omega arith
      none v q (suc (suc d)) e l = omega arith

  -- where the overall one fails, the bit that has a part in just those that fail is put right
  module _ (w : ℕ) (q : w < 256) (t : Tells w (failing b)) where
    right : (m : ℕ) → m < 256 → ones (bit_and w m) ≡ fails m b → fails m (bit_xor b w) ≡ 0
    right m h e = let x = ones_xor 8 m b w h in omega arith

    pub mended_told : fails 0xFF b ≡ 1 → Mended (own (bit_xor b w)) ≡ nibble_of b
    unfolding distance
    mended_told o =
        let x = bit_xor b w in
        let l = xor_lt 8 b w p q in
        let f = each_fails b in
        let r₁ = right 0xA3 (omega arith) (t.1 ∙ f.0) in
        let r₂ = right 0x8E (omega arith) (t.2 ∙ f.1) in
        let r₃ = right 0x3A (omega arith) (t.3 ∙ f.2) in
        let r₄ = right 0xFF (omega arith) (all_eight w q ∙ t.0 ∙ sym o) in
        let g : x ≡ good (own x) = allowed x l r₁ r₂ r₃ r₄ in
        let d : distance b x ≡ 1 = apart_xor 8 b w q ∙ t.0 in
        sym (near_mended b (own x) p (own_small x) (rw g at d))
