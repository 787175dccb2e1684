-- What `decode` finds by the checks is what the word carries.
use Prim.Native.Nat.{ℕ, zero, suc, ◌+◌, ◌*◌, ◌/◌, ◌%◌, ◌^◌, ◌≤◌, ◌<◌}
use mathlib.Core.Path.{◌≡◌, refl, sym, ap, ◌∙◌}
use mathlib.Core.Bool.{true}
use mathlib.Core.List.{List}
use native.Mathlib.Omega.{arith}
use native.Mathlib.Nat.{pow-suc, zero-div, one-mul}
use borrow.Author.Tests.{eqb-true}
use lib.Bits.{bit_xor, xor_zero_r}
use lib.Dec.{eqb}
use lib.Pow.{shl_exact}
use Rattle.answer.proofs.Every.{All, all_map, tested, map_same}
use Rattle.hamming.specs.Byte.{D, apart}
use Rattle.triplet.specs.Word.{from_bits, run, ones_among, covered, all, odd, checked, good, distance, triplet_of}
use Rattle.triplet.specs.Checks.{places, data_of, wrong, five, spelt}
use Rattle.triplet.specs.declared.Triplet.TheVariants.{Damaged, Clean, Mended}
use Rattle.triplet.proofs.Flips.{flip, flip_small, once, apart_back, bit_xor_lem}
use Rattle.triplet.proofs.Good.{good_small, good_checked, data_small, checked_good}
use Rattle.triplet.proofs.Near.{Holds, Says, six_hold, says_spelt, flip_spelt, beside}
use Rattle.triplet.proofs.Words.{distance_same, distance_none, none_same, none_beside, is_damaged_lem, near_clean, near_mended}

-- the five checks as `wrong_bit` adds them up
pub spelt_sum : (w s₁ s₂ s₄ s₈ s₁₆ : ℕ) →
    s₁ ≡ wrong (covered 1) w → s₂ ≡ wrong (covered 2) w → s₄ ≡ wrong (covered 4) w → s₈ ≡ wrong (covered 8) w →
    s₁₆ ≡ wrong (covered 16) w →
    s₁ + 2 * s₂ + 4 * s₄ + 8 * s₈ + 16 * s₁₆ ≡ spelt w
unfolding spelt
spelt_sum w s₁ s₂ s₄ s₈ s₁₆ e₁ e₂ e₄ e₈ e₁₆ = omega arith

-- flipping bit 24 changes no data bit
data_last : (w : ℕ) → data_of (flip 23 w) ≡ data_of w
unfolding data_of places run D
data_last w =
    let k = tested (λ n. eqb (D n (2 ^ 23)) 0) kept places refl in
    ap from_bits (map_same (λ n. D n (flip 23 w)) (λ n. D n w) places k)
  where
    kept : (n : ℕ) → eqb (D n (2 ^ 23)) 0 ≡ true → D n (flip 23 w) ≡ D n w
    kept n e = bit_xor_lem n w (2 ^ 23) ∙ ap (bit_xor (D n w)) (eqb-true (D n (2 ^ 23)) 0 e) ∙ xor_zero_r (D n w)

-- the checks of all five hold exactly where they spell 0
none_wrong : (w : ℕ) → spelt w ≡ 0 → All (Holds w) five
none_wrong w e = all_map (Says w (spelt w)) (Holds w) one five (says_spelt w)
  where
    one : (p : ℕ) → Says w (spelt w) p → Holds w p
    one p d = let z : spelt w / p % 2 ≡ 0 = rw (e, zero-div p) in omega arith

all_right : (w : ℕ) → checked w → spelt w ≡ 0
unfolding spelt
all_right w c = let a = c.0 in let b = c.1 in let d = c.2 in let e = c.3 in let f = c.4 in omega arith

pub fails : {b : ℕ} (ns : List ℕ) (w : ℕ) → b ≡ wrong ns w → (b ≡ 0 → ⊥) → wrong ns w ≡ 1
fails ns w e n = omega arith

module _ (w : ℕ) (p : w < 2 ^ 24) where
  -- ── the overall check holds ──────────────────────────────────────────────────────────────────────────────────────
  module _ (o : wrong all w ≡ 0) where
    odd_ones : odd all w
    odd_ones = omega arith

    pub clean_told : spelt w ≡ 0 → Clean (data_of w) ≡ triplet_of w
    clean_told e =
        let g : w ≡ good (data_of w) = checked_good w p (six_hold w (none_wrong w e) odd_ones) in
        let d : distance w (good (data_of w)) ≡ 0 = ap (distance w) (sym g) ∙ distance_same w in
        sym (near_clean w (data_of w) p (data_small w) d)

    pub two_told : (spelt w ≡ 0 → ⊥) → Damaged ≡ triplet_of w
    two_told n = sym (is_damaged_lem w p same (none_beside w p odd_ones))
      where
        same : (v : ℕ) → v < 262144 → distance w (good v) ≡ 0 → ⊥
        same v h e =
            let g = distance_none w (good v) p (good_small v) e in
            n (ap spelt g ∙ all_right (good v) (good_checked v))

  -- ── it fails ─────────────────────────────────────────────────────────────────────────────────────────────────────
  module _ (o : wrong all w ≡ 1) where
    even_ones : ones_among all w % 2 ≡ 0
    even_ones = omega arith

    pub none_told : 23 < spelt w → Damaged ≡ triplet_of w
    unfolding distance
    none_told h = sym (is_damaged_lem w p (none_same w p even_ones) next)
      where
        next : (v : ℕ) → v < 262144 → distance w (good v) ≡ 1 → ⊥
        next v l e = let b = beside w (good v) p (good_small v) (good_checked v) e in let s = b.3 in omega arith

    put_right : (n : ℕ) → n < 24 → spelt w ≡ suc n % 24 → triplet_of w ≡ Mended (data_of (flip n w))
    unfolding distance
    put_right n h e =
        let x = flip n w in
        let l = flip_small n w h p in
        let g : x ≡ good (data_of x) = checked_good x l (flip_spelt n w h e o) in
        let d : apart 24 w x ≡ 1 = apart_back 24 w x p l ∙ once 24 n w h in
        near_mended w (data_of x) p (data_small x) (rw g at d)

    -- the bit that n spells, as the code shifts it to its place
    pub mended_told : (n : ℕ) → n ≡ spelt w → n ≤ 23 → Mended (data_of (bit_xor w (1 * 2 ^ n % 4294967296 / 2))) ≡ triplet_of w
    mended_told n e l = rw (shl_exact {a = 1} 1 n 32 (omega arith) (omega arith), one-mul (2 ^ n)) (go n (sym e) l)
      where
        go : (s : ℕ) → spelt w ≡ s → s ≤ 23 → Mended (data_of (bit_xor w (2 ^ s / 2))) ≡ triplet_of w
        go zero e l = sym (put_right 23 (omega arith) e ∙ ap Mended (data_last w ∙ ap data_of (sym (xor_zero_r w))))
        go (suc m) e l =
            let b : 2 ^ suc m / 2 ≡ 2 ^ m = omega (arith, pow-suc 2 m) in
            let s : spelt w ≡ suc m % 24 = omega arith in
            rw b (sym (put_right m (omega arith) s))
