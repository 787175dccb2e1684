-- An element after a store, and how many elements pass a test.
use Prim.Native.Nat.{ℕ, zero, suc, ◌+◌, ◌≤◌, ◌<◌}
use mathlib.Core.Path.{◌≡◌, refl, ap}
use mathlib.Core.Bool.{Bool, true, false, cond}
use mathlib.Core.List.{List, [], ◌∷◌}
use mathlib.Core.Logic.{◌⊎◌, inl, inr}
use native.Mathlib.Omega.{arith}
use lib.ListN.{get_or, set, replicate}
use Rattle.answer.specs.Lists.{count}

-- the element is the one stored, or the one before
abbrev Stored : {A : Type 0} → A → A → List A → ℕ → ℕ → Type 0
Stored z v xs i j = ((j ≡ i) × (get_or (set xs i v) j z ≡ v)) ⊎ (get_or (set xs i v) j z ≡ get_or xs j z)

pub get_d_set : {A : Type 0} (z v : A) (xs : List A) (i j : ℕ) → Stored z v xs i j
get_d_set z v [] i j = inr refl
get_d_set z v (x ∷ xs) zero zero = inl (refl, refl)
get_d_set z v (x ∷ xs) zero (suc j) = inr refl
get_d_set z v (x ∷ xs) (suc i) zero = inr refl
get_d_set z v (x ∷ xs) (suc i) (suc j) = go (get_d_set z v xs i j)
  where
    go : Stored z v xs i j → Stored z v (x ∷ xs) (suc i) (suc j)
    go (inl h) = inl (ap suc h.0, h.1)
    go (inr e) = inr e

pub get_d_same : {A : Type 0} (z : A) (n i : ℕ) → get_or (replicate n z) i z ≡ z
get_d_same z zero i = refl
get_d_same z (suc n) zero = refl
get_d_same z (suc n) (suc i) = get_d_same z n i

-- ── how many pass ──────────────────────────────────────────────────────────────────────────────────────────────────
module _ {A : Type 0} (f : A → Bool) (z : A) where
  count_none : (xs : List A) → ((i : ℕ) → f (get_or xs i z) ≡ true → ⊥) → count f xs ≡ 0
  count_none [] h = refl
  count_none (x ∷ xs) h = go (f x) refl (count_none xs (λ i. h (suc i)))
    where
      go : (b : Bool) → f x ≡ b → count f xs ≡ 0 → cond b 1 0 + count f xs ≡ 0
      go true e ih = absurd (h 0 e)
      go false e ih = omega arith

  -- at most one, where no two do
  pub count_one : (xs : List A) → ((i j : ℕ) → i < j → f (get_or xs i z) ≡ true → f (get_or xs j z) ≡ true → ⊥) → count f xs ≤ 1
  count_one [] h = omega arith
  count_one (x ∷ xs) h = go (f x) refl (count_one xs (λ i j l. h (suc i) (suc j) (omega arith)))
    where
      go : (b : Bool) → f x ≡ b → count f xs ≤ 1 → cond b 1 0 + count f xs ≤ 1
      go true e ih = omega (arith, count_none xs (λ i k. h 0 (suc i) (omega arith) e k))
      go false e ih = omega arith
