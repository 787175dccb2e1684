-- The nearest good byte: no other is nearer, its value is what is found, and clean, mended and damaged by its distance.
use Prim.Native.Nat.{ℕ, ◌≤◌, ◌<◌, min}
use mathlib.Core.Path.{◌≡◌, refl, sym, ap, ◌∙◌, subst}
use mathlib.Core.Bool.{Bool, true, false, cond, ◌||◌, or-true}
use mathlib.Core.List.{List, [], ◌∷◌, map}
use native.Mathlib.Omega.{arith}
use borrow.Author.Tests.{eq-eqb, eqb-true, leb-true, leb-false, ltb-true}
use lib.Dec.{T, eqb, leb, ltb}
use Rattle.answer.specs.Lists.{some, member}
use Rattle.answer.proofs.All.{each}
use Rattle.answer.proofs.Cases.{by_test}
use Rattle.answer.proofs.Every.{no_way, All, all_map, tested, listed}
use Rattle.hamming.specs.Byte.{good, values, distance, least, away, first_at, nearest, nibble_of}
use Rattle.hamming.specs.declared.Nibble.{Nibble}
use Rattle.hamming.specs.declared.Nibble.TheVariants.{Damaged, Clean, Mended}

-- ── the least ──────────────────────────────────────────────────────────────────────────────────────────────────────
-- a number is that of one listed
abbrev Among : (ℕ → ℕ) → ℕ → List ℕ → Type 0
Among f m vs = some (λ v. eqb (f v) m) vs ≡ true

module _ (f : ℕ → ℕ) where
  least_all : (vs : List ℕ) → All (λ v. least (map f vs) ≤ f v) vs
  least_all [] = tt
  least_all (v ∷ []) = (omega arith, tt)
  least_all (v ∷ (w ∷ vs)) = (
    omega arith,
    all_map (λ x. least (map f (w ∷ vs)) ≤ f x) (λ x. min (f v) (least (map f (w ∷ vs))) ≤ f x) (λ x h. omega arith) (w ∷ vs) (least_all (w ∷ vs)),
  )

  least_one : (v : ℕ) (vs : List ℕ) → Among f (least (map f (v ∷ vs))) (v ∷ vs)
  least_one v [] = rw (eq-eqb (f v) (f v) refl)
  least_one v (w ∷ vs) = go (least (map f (w ∷ vs))) (least_one w vs)
    where
      after : (a b : Bool) → b ≡ true → (a || b) ≡ true
      after a b e = rw e (or-true a)

      go : (m : ℕ) → Among f m (w ∷ vs) → Among f (min (f v) m) (v ∷ (w ∷ vs))
      go m k =
          by_test (leb (f v) m)
          (λ t. let l = leb-true (f v) m t in let e : min (f v) m ≡ f v = omega arith in rw e (rw (eq-eqb (f v) (f v) refl)))
          (λ t. let l = leb-false (f v) m t in let e : min (f v) m ≡ m = omega arith in
          subst (λ x. Among f x (v ∷ (w ∷ vs))) (sym e) (after (eqb (f v) m) (some (λ x. eqb (f x) m) (w ∷ vs)) k))

-- ── the value that is found ────────────────────────────────────────────────────────────────────────────────────────
abbrev pub Found : ℕ → ℕ → ℕ → Type 0
Found b d v = (v < 16) × (distance b (good v) ≡ d)

first_at_lem : (b d : ℕ) (vs : List ℕ) → All (λ v. v < 16) vs → Among (λ v. distance b (good v)) d vs → Found b d (first_at b d vs)
first_at_lem b d [] a e = no_way (sym e)
first_at_lem b d (v ∷ vs) a e = go (eqb (distance b (good v)) d) refl e (first_at_lem b d vs a.1)
  where
    go : (t : Bool) → eqb (distance b (good v)) d ≡ t → (t || some (λ v. eqb (distance b (good v)) d) vs) ≡ true →
        (Among (λ v. distance b (good v)) d vs → Found b d (first_at b d vs)) → Found b d (cond t v (first_at b d vs))
    go true h k r = (a.0, eqb-true (distance b (good v)) d h)
    go false h k r = r k

pub nearest_at : (b : ℕ) → Found b (away b) (nearest b)
unfolding nearest away
nearest_at b =
    first_at_lem b (away b) values (tested (λ v. ltb v 16) (λ v e. ltb-true v 16 e) values refl)
    (least_one (λ v. distance b (good v)) 0 (1 ∷ 2 ∷ 3 ∷ 4 ∷ 5 ∷ 6 ∷ 7 ∷ 8 ∷ 9 ∷ 10 ∷ 11 ∷ 12 ∷ 13 ∷ 14 ∷ 15 ∷ []))

pub passes : (t : Bool) → T t → t ≡ true
passes true h = refl
passes false h = absurd h

pub no_nearer : (b v : ℕ) → v < 16 → away b ≤ distance b (good v)
unfolding away
no_nearer b v h =
    listed (λ v. away b ≤ distance b (good v)) values (least_all (λ v. distance b (good v)) values) v
    (passes (member v values) (each (λ v. member v values) 16 tt v h))

pub reached : (b : ℕ) → (v : ℕ) × (v < 16) × (away b ≡ distance b (good v))
reached b = (nearest b, (nearest_at b).0, sym (nearest_at b).1)

-- ── by the distance ────────────────────────────────────────────────────────────────────────────────────────────────
module _ (b : ℕ) where
  -- the three by two tests
  abbrev by_tests : Bool → Bool → Nibble
  by_tests s t = cond s (Clean (nearest b)) (cond t (Mended (nearest b)) Damaged)

  at_nearest : (v d : ℕ) → nearest b ≡ v → eqb (away b) d ≡ true → Found b d v
  at_nearest v d w h =
      let n = nearest_at b in
      let z = eqb-true (away b) d h in
      (rw w at n.0, ap (λ (x : ℕ). distance b (good x)) (sym w) ∙ n.1 ∙ z)

  pub only_clean : (v : ℕ) → nibble_of b ≡ Clean v → (v < 16) × (distance b (good v) ≡ 0)
  unfolding nibble_of
  only_clean v e = go (eqb (away b) 0) (eqb (away b) 1) refl e
    where
      go : (s t : Bool) → eqb (away b) 0 ≡ s → by_tests s t ≡ Clean v → (v < 16) × (distance b (good v) ≡ 0)
      go true t h q = let w : nearest b ≡ v = cc in at_nearest v 0 w h
      go false true h q = absurd (let z : ◌≡◌ {A = ℕ} 0 1 = cc in omega arith)
      go false false h q = absurd (let z : ◌≡◌ {A = ℕ} 0 1 = cc in omega arith)

  pub only_mended : (v : ℕ) → nibble_of b ≡ Mended v → (v < 16) × (distance b (good v) ≡ 1)
  unfolding nibble_of
  only_mended v e = go (eqb (away b) 0) (eqb (away b) 1) refl e
    where
      go : (s t : Bool) → eqb (away b) 1 ≡ t → by_tests s t ≡ Mended v → (v < 16) × (distance b (good v) ≡ 1)
      go false true h q = let w : nearest b ≡ v = cc in at_nearest v 1 w h
      go true t h q = absurd (let z : ◌≡◌ {A = ℕ} 0 1 = cc in omega arith)
      go false false h q = absurd (let z : ◌≡◌ {A = ℕ} 0 1 = cc in omega arith)

abbrev pub is_mended : Nibble → Bool
is_mended Damaged = false
is_mended (Clean v) = false
is_mended (Mended v) = true

-- a byte is mended exactly at distance 1
pub mended_away : (b : ℕ) → is_mended (nibble_of b) ≡ eqb (away b) 1
unfolding nibble_of
mended_away b = go (eqb (away b) 0) (eqb (away b) 1) refl refl
  where
    go : (s t : Bool) → eqb (away b) 0 ≡ s → eqb (away b) 1 ≡ t → is_mended (by_tests b s t) ≡ t
    go true true h k = absurd (let x = eqb-true (away b) 0 h in let y = eqb-true (away b) 1 k in omega arith)
    go true false h k = refl
    go false true h k = refl
    go false false h k = refl
