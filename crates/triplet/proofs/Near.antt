-- Which words are one bit apart from a word that the checks allow, and how far two such words are apart.
use Prim.Native.Nat.{ℕ, zero, suc, ◌+◌, ◌-◌, ◌/◌, ◌%◌, ◌^◌, ◌≤◌, ◌<◌}
use mathlib.Core.Path.{◌≡◌, refl, sym, ap, ◌∙◌}
use mathlib.Core.Bool.{Bool}
use mathlib.Core.List.{List, [], ◌∷◌, map}
use native.Mathlib.Omega.{arith}
use native.Mathlib.Nat.{mod-eq_of_lt}
use lib.Bits.{bit_and, bit_xor, xor_lt, and_mask}
use lib.Count.{ones}
use lib.Dec.{T, eqb, eqb→eq}
use lib.ListN.{get_or}
use Rattle.answer.proofs.All.{below, each}
use Rattle.answer.proofs.Every.{All, map_same}
use Rattle.hamming.specs.Byte.{D, apart}
use Rattle.hamming.proofs.Ones.{xor_apart, apart_none}
use Rattle.triplet.specs.Word.{from_bits, run, ones_among, covered, all, odd, checked}
use Rattle.triplet.specs.Checks.{wrong, five, spelt}
use Rattle.triplet.proofs.Bits.{bit_of, run_bits}
use Rattle.triplet.proofs.Masks.{under}
use Rattle.triplet.proofs.Flips.{flip, flip_small, nearer, once, ones_xor}

-- ── what the checks say of a bit ───────────────────────────────────────────────────────────────────────────────────
-- position n + 1 is covered by those of the five whose bit its number has, position 24 by none
abbrev Covers : ℕ → ℕ → Type 0
Covers n p = ones_among (covered p) (2 ^ n) % 2 ≡ suc n % 24 / p % 2

covers : ℕ → ℕ → Bool
covers p n = eqb (ones_among (covered p) (2 ^ n) % 2) (suc n % 24 / p % 2)

covers_bit : (n : ℕ) → n < 24 → All (Covers n) five
unfolding D covered run covers
covers_bit n h = (k 1 tt, (k 2 tt, (k 4 tt, (k 8 tt, (k 16 tt, tt)))))
  where
    k : (p : ℕ) → T (below (covers p) 24) → Covers n p
    k p t = eqb→eq _ _ (each (covers p) 24 t n h)

-- and by the overall check
counts : ℕ → Bool
counts n = eqb (ones_among all (2 ^ n)) 1

counts_bit : (n : ℕ) → n < 24 → ones_among all (2 ^ n) ≡ 1
unfolding D all run counts
counts_bit n h = eqb→eq _ _ (each counts 24 tt n h)

-- the check of p holds; it fails exactly where a number has the bit p
abbrev pub Holds : ℕ → ℕ → Type 0
Holds w p = odd (covered p) w

abbrev pub Says : ℕ → ℕ → ℕ → Type 0
Says w s p = wrong (covered p) w ≡ s / p % 2

five_hold : (w : ℕ) → checked w → All (Holds w) five
five_hold w c = (c.0, (c.1, (c.2, (c.3, (c.4, tt)))))

pub six_hold : (w : ℕ) → All (Holds w) five → odd all w → checked w
six_hold w f o = (f.0, f.1.0, f.1.1.0, f.1.1.1.0, f.1.1.1.1.0, o)

-- each check by the number that they spell, and back
pub says_spelt : (w : ℕ) → All (Says w (spelt w)) five
unfolding D spelt
says_spelt w = (k 0, (k 1, (k 2, (k 3, (k 4, tt)))))
  where
    s : (n : ℕ) → n % 2 < 2
    s n = omega arith

    bs : List ℕ
    bs = map (λ p. wrong (covered p) w) five

    k : (j : ℕ) → get_or bs j 0 ≡ D (suc j) (from_bits bs)
    k j = sym (bit_of bs (s _, (s _, (s _, (s _, (s _, tt))))) j)

spelt_says : (w s : ℕ) → s < 32 → All (Says w s) five → spelt w ≡ s
unfolding D run spelt
spelt_says w s h a = ap from_bits (map_same (λ p. wrong (covered p) w) (λ p. s / p % 2) five a) ∙ run_bits 5 0 s ∙ omega arith

-- ── one bit flipped ────────────────────────────────────────────────────────────────────────────────────────────────
all_three : {A : Type 0} (P Q R : A → Type 0) → ((x : A) → P x → Q x → R x) → (xs : List A) → All P xs → All Q xs → All R xs
all_three P Q R h [] a b = tt
all_three P Q R h (x ∷ xs) a b = (h x a.0 b.0, all_three P Q R h xs a.1 b.1)

module _ (n w : ℕ) (h : n < 24) where
  -- where the flipped word is allowed, the checks spell the bit
  spelt_flip : All (Holds (flip n w)) five → spelt w ≡ suc n % 24
  spelt_flip f =
      spelt_says w (suc n % 24) (omega arith)
      (all_three (Covers n) (Holds (flip n w)) (Says w (suc n % 24)) one five (covers_bit n h) f)
    where
      one : (p : ℕ) → Covers n p → Holds (flip n w) p → Says w (suc n % 24) p
      one p s o = let x = ones_xor (covered p) w (2 ^ n) in omega arith

  -- and where they spell it and the overall one fails, the flipped word is allowed
  pub flip_spelt : spelt w ≡ suc n % 24 → wrong all w ≡ 1 → checked (flip n w)
  flip_spelt e o =
      six_hold (flip n w)
      (all_three (Covers n) (Says w (spelt w)) (Holds (flip n w)) one five (covers_bit n h) (says_spelt w))
      (let x = ones_xor all w (2 ^ n) in let b = counts_bit n h in omega arith)
    where
      one : (p : ℕ) → Covers n p → Says w (spelt w) p → Holds (flip n w) p
      one p s d =
          let x = ones_xor (covered p) w (2 ^ n) in
          let t : spelt w / p % 2 ≡ suc n % 24 / p % 2 = ap (λ (m : ℕ). m / p % 2) e in
          omega arith

-- ── words that the checks allow ────────────────────────────────────────────────────────────────────────────────────
everywhere : (x : ℕ) → ones (bit_and x (2 ^ 24 - 1)) ≡ ones_among all x
unfolding all run
everywhere x = under (2 ^ 24 - 1) x all (omega arith) refl

-- the distance is even exactly where the ones of both together are
pub overall : (a b : ℕ) → a < 2 ^ 24 → b < 2 ^ 24 → (ones_among all a + ones_among all b + apart 24 a b) % 2 ≡ 0
overall a b p q =
    let x = bit_xor a b in
    let s = ones_xor all a b in
    let m : bit_and x (2 ^ 24 - 1) ≡ x = and_mask x 24 ∙ mod-eq_of_lt (xor_lt 24 a b p q) in
    let o : ones_among all x ≡ apart 24 a b = sym (everywhere x) ∙ ap ones m ∙ xor_apart 24 a b p q in
    omega arith

-- a word beside one that is allowed: the bit that differs
pub beside : (w x : ℕ) → w < 2 ^ 24 → x < 2 ^ 24 → checked x → apart 24 w x ≡ 1 →
    (n : ℕ) × (n < 24) × (flip n w ≡ x) × (spelt w ≡ suc n % 24)
beside w x p q c e =
    let s = nearer 24 0 w x e in
    let n = s.0 in
    let f : flip n w ≡ x = apart_none 24 (flip n w) x (flip_small n w s.1 p) q s.2 in
    (n, s.1, f, spelt_flip n w s.1 (rw f (five_hold x c)))

-- no word is beside two
pub one_beside : (w x y : ℕ) → w < 2 ^ 24 → x < 2 ^ 24 → y < 2 ^ 24 → checked x → checked y →
    apart 24 w x ≡ 1 → apart 24 w y ≡ 1 → x ≡ y
one_beside w x y p q r c d e f =
    let s = beside w x p q c e in
    let t = beside w y p r d f in
    let l = s.1 in
    let m = t.1 in
    let g = s.3 in
    let h = t.3 in
    let b : s.0 ≡ t.0 = omega arith in
    sym s.2 ∙ ap (λ (n : ℕ). flip n w) b ∙ t.2

pub four_apart : (x y : ℕ) → x < 2 ^ 24 → y < 2 ^ 24 → checked x → checked y → (x ≡ y → ⊥) → 4 ≤ apart 24 x y
four_apart x y p q c d n = go (apart 24 x y) refl
  where
    two : apart 24 x y ≡ 2 → ⊥
    two e =
        let s = nearer 24 1 x y e in
        let m = flip s.0 x in
        n (one_beside m x y (flip_small s.0 x s.1 p) p q c d (once 24 s.0 x s.1) s.2)

    go : (k : ℕ) → apart 24 x y ≡ k → 4 ≤ k
    go zero e = absurd (n (apart_none 24 x y p q e))
    go (suc zero) e = absurd (let o = overall x y p q in let a = c.5 in let b = d.5 in omega arith)
    go (suc (suc zero)) e = absurd (two e)
    go (suc (suc (suc zero))) e = absurd (let o = overall x y p q in let a = c.5 in let b = d.5 in omega arith)
    go (suc (suc (suc (suc k)))) e = omega arith
