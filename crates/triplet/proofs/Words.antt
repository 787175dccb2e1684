-- What a word carries, by its distance from the good words.
use Prim.Native.Nat.{ℕ, zero, suc, ◌+◌, ◌%◌, ◌^◌, ◌≤◌, ◌<◌}
use mathlib.Core.Path.{◌≡◌, refl, sym, ap, ◌∙◌}
use mathlib.Core.Logic.{◌⊎◌, inl, inr}
use mathlib.Core.Bool.{Bool, true, false, cond, or-true}
use mathlib.Core.List.{List, [], ◌∷◌}
use native.Mathlib.Omega.{arith}
use borrow.Author.Tests.{eqb-true, eqb-false, lt-ltb}
use lib.Dec.{eqb, ltb}
use Rattle.answer.specs.Lists.{member}
use Rattle.answer.proofs.Cases.{by_test}
use Rattle.answer.proofs.Every.{All, listed}
use Rattle.hamming.proofs.Ones.{apart_same, apart_none}
use Rattle.triplet.specs.Word.{good, run, ones_among, odd, all, checked, distance, values, first_at, triplet_of}
use Rattle.triplet.specs.Checks.{data_of}
use Rattle.triplet.specs.declared.Triplet.{Triplet}
use Rattle.triplet.specs.declared.Triplet.TheVariants.{Damaged, Clean, Mended}
use Rattle.triplet.proofs.Good.{good_small, good_checked, data_small, data_good, checked_good}
use Rattle.triplet.proofs.Near.{overall, one_beside, four_apart}

-- ── good words ─────────────────────────────────────────────────────────────────────────────────────────────────────
pub equations : (v : ℕ) → v < 262144 → (good v < 2 ^ 24) × checked (good v)
equations v h = (good_small v, good_checked v)

pub only_equations : (w : ℕ) → w < 2 ^ 24 → checked w → (v : ℕ) × (v < 262144) × (w ≡ good v)
only_equations w h c = (data_of w, data_small w, checked_good w h c)

one_value : (v u : ℕ) → v < 262144 → u < 262144 → good v ≡ good u → v ≡ u
one_value v u p q e = sym (data_good v p) ∙ ap data_of e ∙ data_good u q

pub far : (v u : ℕ) → v < 262144 → u < 262144 → (v ≡ u → ⊥) → 4 ≤ distance (good v) (good u)
unfolding distance
far v u p q n =
    four_apart (good v) (good u) (good_small v) (good_small u) (good_checked v) (good_checked u)
    (λ e. n (one_value v u p q e))

pub distance_same : (w : ℕ) → distance w w ≡ 0
unfolding distance
distance_same w = apart_same 24 w

pub distance_none : (a b : ℕ) → a < 2 ^ 24 → b < 2 ^ 24 → distance a b ≡ 0 → a ≡ b
unfolding distance
distance_none a b p q e = apart_none 24 a b p q e

-- ── what is near ───────────────────────────────────────────────────────────────────────────────────────────────────
module _ (w : ℕ) (p : w < 2 ^ 24) where
  -- the overall check by the distance
  told : (v : ℕ) {d : ℕ} → distance w (good v) ≡ d → (ones_among all w + 1 + d) % 2 ≡ 0
  unfolding distance
  told v e =
      let o = overall w (good v) p (good_small v) in
      let c = (good_checked v).5 in
      omega arith

  module _ (v u : ℕ) (q : v < 262144) (r : u < 262144) where
    both_same : distance w (good v) ≡ 0 → distance w (good u) ≡ 0 → v ≡ u
    both_same e f =
        one_value v u q r
        (sym (distance_none w (good v) p (good_small v) e) ∙ distance_none w (good u) p (good_small u) f)

    both_beside : distance w (good v) ≡ 1 → distance w (good u) ≡ 1 → v ≡ u
    unfolding distance
    both_beside e f =
        one_value v u q r
        (one_beside w (good v) (good u) p (good_small v) (good_small u) (good_checked v) (good_checked u) e f)

    same_or_beside : distance w (good v) ≡ 0 → distance w (good u) ≡ 1 → ⊥
    same_or_beside e f = let s = told v e in let t = told u f in omega arith

-- ── the value that is found ────────────────────────────────────────────────────────────────────────────────────────
run_below : (k n m : ℕ) → n + k ≤ m → All (λ v. v < m) (run k n)
unfolding run
run_below zero n m h = tt
run_below (suc k) n m h = (omega arith, run_below k (suc n) m (omega arith))

in_run : (k n v : ℕ) → n ≤ v → v < n + k → member v (run k n) ≡ true
unfolding run
in_run zero n v h l = absurd (omega arith)
in_run (suc k) n v h l =
    by_test (eqb v n)
    (λ t. rw t)
    (λ t. let x = eqb-false v n t in rw (in_run k (suc n) v (omega arith) (omega arith)) (or-true (eqb v n)))

values_below : All (λ v. v < 262144) values
unfolding values
values_below = run_below 262144 0 262144 (omega arith)

in_values : (v : ℕ) → v < 262144 → member v values ≡ true
unfolding values
in_values v h = in_run 262144 0 v (omega arith) (omega arith)

abbrev Found : ℕ → ℕ → ℕ → Type 0
Found w d v = (v < 262144) × (distance w (good v) ≡ d)

abbrev None : ℕ → ℕ → Type 0
None w d = (v : ℕ) → v < 262144 → distance w (good v) ≡ d → ⊥

module _ (w d : ℕ) where
  first_at_lem : (vs : List ℕ) → All (λ v. v < 262144) vs →
      Found w d (first_at w d vs) ⊎ ((first_at w d vs ≡ 262144) × All (λ v. distance w (good v) ≡ d → ⊥) vs)
  first_at_lem [] a = inr (refl, tt)
  first_at_lem (v ∷ vs) a = go (eqb (distance w (good v)) d) refl (first_at_lem vs a.1)
    where
      go : (t : Bool) → eqb (distance w (good v)) d ≡ t →
          Found w d (first_at w d vs) ⊎ ((first_at w d vs ≡ 262144) × All (λ v. distance w (good v) ≡ d → ⊥) vs) →
          Found w d (cond t v (first_at w d vs))
          ⊎ ((cond t v (first_at w d vs) ≡ 262144) × ((distance w (good v) ≡ d → ⊥) × All (λ v. distance w (good v) ≡ d → ⊥) vs))
      go true e r = inl (a.0, eqb-true (distance w (good v)) d e)
      go false e (inl f) = inl f
      go false e (inr n) = inr (n.0, (eqb-false (distance w (good v)) d e, n.1))

  found : Found w d (first_at w d values) ⊎ ((first_at w d values ≡ 262144) × None w d)
  found = go (first_at_lem values values_below)
    where
      go : Found w d (first_at w d values) ⊎ ((first_at w d values ≡ 262144) × All (λ v. distance w (good v) ≡ d → ⊥) values) →
          Found w d (first_at w d values) ⊎ ((first_at w d values ≡ 262144) × None w d)
      go (inl f) = inl f
      go (inr n) = inr (n.0, λ v h. listed (λ v. distance w (good v) ≡ d → ⊥) values n.1 v (in_values v h))

-- ── clean, mended, damaged ─────────────────────────────────────────────────────────────────────────────────────────
-- what it is for a word to be told as one of the three
abbrev Told : ℕ → Triplet → Type 0
Told w Damaged = None w 0 × None w 1
Told w (Clean v) = Found w 0 v
Told w (Mended v) = None w 0 × Found w 1 v

telling : (w : ℕ) → Told w (triplet_of w)
unfolding triplet_of
telling w = go (first_at w 0 values) (first_at w 1 values) (found w 0) (found w 1)
  where
    go : (s t : ℕ) → Found w 0 s ⊎ ((s ≡ 262144) × None w 0) → Found w 1 t ⊎ ((t ≡ 262144) × None w 1) →
        Told w (cond (ltb s 262144) (Clean s) (cond (ltb t 262144) (Mended t) Damaged))
    go s t (inl f) y = rw (lt-ltb s 262144 f.0) f
    go s t (inr n) (inl f) = rw (n.0, lt-ltb t 262144 f.0) (n.1, f)
    go s t (inr n) (inr m) = rw (n.0, m.0) (n.1, m.1)

module _ (w : ℕ) (p : w < 2 ^ 24) where
  one_told : (s t : Triplet) → Told w s → Told w t → s ≡ t
  one_told Damaged Damaged a b = refl
  one_told Damaged (Clean u) a b = absurd (a.0 u b.0 b.1)
  one_told Damaged (Mended u) a b = absurd (a.1 u b.1.0 b.1.1)
  one_told (Clean v) Damaged a b = absurd (b.0 v a.0 a.1)
  one_told (Clean v) (Clean u) a b = ap Clean (both_same w p v u a.0 b.0 a.1 b.1)
  one_told (Clean v) (Mended u) a b = absurd (b.0 v a.0 a.1)
  one_told (Mended v) Damaged a b = absurd (b.1 v a.1.0 a.1.1)
  one_told (Mended v) (Clean u) a b = absurd (a.0 u b.0 b.1)
  one_told (Mended v) (Mended u) a b = ap Mended (both_beside w p v u a.1.0 b.1.0 a.1.1 b.1.1)

  tells : (t : Triplet) → Told w t → triplet_of w ≡ t
  tells t h = one_told (triplet_of w) t (telling w) h

  pub is_damaged_lem : None w 0 → None w 1 → triplet_of w ≡ Damaged
  is_damaged_lem m n = tells Damaged (m, n)

  -- where the ones of all bits are odd in number, no good word is beside; where they are even, none is the same
  pub none_beside : odd all w → None w 1
  none_beside o v q e = let t = told w p v e in omega arith

  pub none_same : (ones_among all w % 2 ≡ 0) → None w 0
  none_same o v q e = let t = told w p v e in omega arith

module _ (w v : ℕ) (p : w < 2 ^ 24) (q : v < 262144) where
  pub near_clean : distance w (good v) ≡ 0 → triplet_of w ≡ Clean v
  near_clean e = tells w p (Clean v) (q, e)

  pub near_mended : distance w (good v) ≡ 1 → triplet_of w ≡ Mended v
  near_mended e = tells w p (Mended v) ((λ u r f. same_or_beside w p u v r q f e), (q, e))

  pub two : distance w (good v) ≡ 2 → triplet_of w ≡ Damaged
  two e = is_damaged_lem w p same beside
    where
      same : None w 0
      same u r f =
          let s : u ≡ v → ⊥ = λ (s : u ≡ v). let g = ap (λ (x : ℕ). distance w (good x)) s in omega arith in
          let l = far u v r q s in
          let g = ap (λ (x : ℕ). distance x (good v)) (distance_none w (good u) p (good_small u) f) in
          omega arith

      beside : None w 1
      beside u r f = let s = told w p v e in let t = told w p u f in omega arith

  -- what holds of both holds of a near word
  pub near_either : (P : Triplet → Type 0) → P (Clean v) → P (Mended v) → distance w (good v) ≤ 1 → P (triplet_of w)
  near_either P x y = go (distance w (good v)) refl
    where
      go : (d : ℕ) → distance w (good v) ≡ d → d ≤ 1 → P (triplet_of w)
      go zero e h = rw (near_clean e) x
      go (suc zero) e h = rw (near_mended e) y
      go (suc (suc d)) e h = absurd (omega arith)

abbrev value : Triplet → ℕ
value Damaged = 262144
value (Clean v) = v
value (Mended v) = v

pub one_near : (w v u : ℕ) → w < 2 ^ 24 → v < 262144 → u < 262144 → distance w (good v) ≤ 1 → distance w (good u) ≤ 1 → v ≡ u
one_near w v u p q r d e = sym (has v q d) ∙ has u r e
  where
    has : (x : ℕ) → x < 262144 → distance w (good x) ≤ 1 → value (triplet_of w) ≡ x
    has x s = near_either w x p s (λ t. value t ≡ x) refl refl

pub only_clean : (w v : ℕ) → triplet_of w ≡ Clean v → (v < 262144) × (distance w (good v) ≡ 0)
only_clean w v e = rw e at (telling w)

pub only_mended : (w v : ℕ) → triplet_of w ≡ Mended v → (v < 262144) × (distance w (good v) ≡ 1)
only_mended w v e = let t : Told w (Mended v) = rw e at (telling w) in t.1

pub sent : (v : ℕ) → v < 262144 → triplet_of (good v) ≡ Clean v
sent v h = near_clean (good v) v (good_small v) h (distance_same (good v))

-- a clean word is the good word of its value
pub clean_good : (w v : ℕ) → w < 2 ^ 24 → triplet_of w ≡ Clean v → w ≡ good v
clean_good w v h e = let o = only_clean w v e in distance_none w (good v) h (good_small v) o.1
