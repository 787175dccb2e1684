-- What a byte carries, by its distance from the good bytes: these are four bits apart, so no byte is near two.
use Prim.Native.Nat.{ℕ, zero, suc, ◌+◌, ◌<◌, ◌≤◌}
use mathlib.Core.Path.{◌≡◌, refl, sym, ap, ◌∙◌}
use mathlib.Core.Bool.{Bool, not}
use mathlib.Core.List.{map}
use native.Mathlib.Omega.{arith}
use borrow.Author.Tests.{ne_eqb, eqb-true, eqb-false}
use lib.Dec.{T, eqb, leb, ltb, leb→le, ltb→lt}
use Rattle.answer.proofs.All.{below, each, unless, asked}
use Rattle.answer.proofs.Cases.{by_test}
use Rattle.hamming.specs.Byte.{D, good, values, table, distance, away, nearest, nibble_of}
use Rattle.hamming.specs.declared.Nibble.{Nibble}
use Rattle.hamming.specs.declared.Nibble.TheVariants.{Damaged, Clean, Mended}
use Rattle.hamming.proofs.Ones.{apart_same, apart_none, apart_both}
use Rattle.hamming.proofs.Nearest.{no_nearer, nearest_at, only_clean}

-- ── the good bytes ─────────────────────────────────────────────────────────────────────────────────────────────────
pub equations : map good values ≡ table
unfolding D good
equations = refl

far_from : ℕ → Bool
far_from v = below (λ w. unless (not (eqb v w)) (leb 4 (distance (good v) (good w)))) 16

all_far : T (below far_from 16)
unfolding far_from D good distance
all_far = tt

pub far : (v w : ℕ) → v < 16 → w < 16 → (v ≡ w → ⊥) → 4 ≤ distance (good v) (good w)
unfolding far_from
far v w p q n =
    leb→le 4 _
    (asked (not (eqb v w)) _ (ap not (ne_eqb v w n))
    (each (λ u. unless (not (eqb v u)) (leb 4 (distance (good v) (good u)))) 16 (each far_from 16 all_far v p) w q))

byte_sized : ℕ → Bool
byte_sized v = ltb (good v) 256

all_byte_sized : T (below byte_sized 16)
unfolding byte_sized D good
all_byte_sized = tt

pub good_small : (v : ℕ) → v < 16 → good v < 256
unfolding byte_sized
good_small v h = ltb→lt (good v) 256 (each byte_sized 16 all_byte_sized v h)

-- ── a byte's distance from them ────────────────────────────────────────────────────────────────────────────────────
pub distance_same : (b : ℕ) → distance b b ≡ 0
unfolding distance
distance_same b = apart_same 8 b

pub distance_none : (a b : ℕ) → a < 256 → b < 256 → distance a b ≡ 0 → a ≡ b
unfolding distance
distance_none a b p q e = apart_none 8 a b p q e

-- two whose distances are less than four together have the same value
together : (b v w : ℕ) → v < 16 → w < 16 → distance b (good v) + distance b (good w) < 4 → v ≡ w
unfolding distance
together b v w p q h =
    by_test (eqb v w)
    (λ t. eqb-true v w t)
    (λ t. let f = far v w p q (eqb-false v w t) in let l = apart_both 8 b (good v) (good w) in absurd (omega arith))

pub one_near : (b v w : ℕ) → b < 256 → v < 16 → w < 16 → distance b (good v) ≤ 1 → distance b (good w) ≤ 1 → v ≡ w
one_near b v w h p q d e = together b v w p q (omega arith)

-- ── clean, mended, damaged ─────────────────────────────────────────────────────────────────────────────────────────
-- a byte that is near no good byte
pub is_damaged_lem : (b : ℕ) → ((v : ℕ) → v < 16 → distance b (good v) ≤ 1 → ⊥) → nibble_of b ≡ Damaged
unfolding nibble_of
is_damaged_lem b h =
    let n = nearest_at b in
    let e = n.1 in
    rw (ne_eqb (away b) 0 (λ z. h (nearest b) n.0 (omega arith)), ne_eqb (away b) 1 (λ z. h (nearest b) n.0 (omega arith)))

module _ (b v : ℕ) (p : b < 256) (q : v < 16) where
  -- where a good byte is near, it is the nearest
  is_nearest : distance b (good v) ≤ 1 → (nearest b ≡ v) × (away b ≡ distance b (good v))
  is_nearest h =
      let n = nearest_at b in
      let l = no_nearer b v q in
      let r = n.1 in
      let e = together b (nearest b) v n.0 q (omega arith) in
      (e, sym r ∙ ap (λ (x : ℕ). distance b (good x)) e)

  pub near_clean : distance b (good v) ≡ 0 → nibble_of b ≡ Clean v
  unfolding nibble_of
  near_clean e =
      let n = is_nearest (omega arith) in
      let z : away b ≡ 0 = n.1 ∙ e in
      rw (z, n.0)

  pub near_mended : distance b (good v) ≡ 1 → nibble_of b ≡ Mended v
  unfolding nibble_of
  near_mended e =
      let n = is_nearest (omega arith) in
      let z : away b ≡ 1 = n.1 ∙ e in
      rw (z, n.0)

  pub two : distance b (good v) ≡ 2 → nibble_of b ≡ Damaged
  two e = is_damaged_lem b none
    where
      none : (w : ℕ) → w < 16 → distance b (good w) ≤ 1 → ⊥
      none w l h =
          let s = together b w v l q (omega arith) in
          let d = ap (λ (x : ℕ). distance b (good x)) s in
          omega arith

  -- what holds of both holds of a near byte
  pub near_either : (P : Nibble → Type 0) → P (Clean v) → P (Mended v) → distance b (good v) ≤ 1 → P (nibble_of b)
  near_either P x y = go (distance b (good v)) refl
    where
      go : (d : ℕ) → distance b (good v) ≡ d → d ≤ 1 → P (nibble_of b)
      go zero e h = rw (near_clean e) x
      go (suc zero) e h = rw (near_mended e) y
      go (suc (suc d)) e h = absurd (omega arith)

pub sent : (v : ℕ) → v < 16 → nibble_of (good v) ≡ Clean v
sent v h = near_clean (good v) v (good_small v h) h (distance_same (good v))

-- a clean byte is the good byte of its value
pub clean_good : (b v : ℕ) → b < 256 → nibble_of b ≡ Clean v → b ≡ good v
clean_good b v h e = let o = only_clean b v e in distance_none b (good v) h (good_small v o.0) o.1
