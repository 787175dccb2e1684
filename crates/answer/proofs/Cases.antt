-- Laws of tests.
use Prim.Native.Nat.{ℕ, zero, suc, ◌≤◌}
use mathlib.Core.Bool.{Bool, true, false, ◌&&◌, ◌||◌}
use mathlib.Core.Path.{◌≡◌, refl}
use native.Mathlib.Omega.{arith}

pub by_test : (t : Bool) {P : Type 0} → (t ≡ true → P) → (t ≡ false → P) → P
by_test true f g = f refl
by_test false f g = g refl

pub both_true : (a b : Bool) → (a && b) ≡ true → (a ≡ true) × (b ≡ true)
both_true true b e = (refl, e)
both_true false b e = (e, cc)

pub both_false : (a b : Bool) → (a || b) ≡ false → (a ≡ false) × (b ≡ false)
both_false true b e = (e, cc)
both_false false b e = (refl, e)

-- m is none of the numbers below k, in the shape of a match that has tried them
abbrev pub Tried : ℕ → ℕ → Type 0
Tried zero m = Unit {0}
Tried (suc k) m = Tried k m × (m ≡ k → ⊥)

pub past : (k m : ℕ) → Tried k m → k ≤ m
past zero m t = omega arith
past (suc k) m t = up (past k m t.0) t.1
  where
    up : k ≤ m → (m ≡ k → ⊥) → suc k ≤ m
    up h n = omega arith

pub either_true : (a b : Bool) {P : Type 0} → (a || b) ≡ true → (a ≡ true → P) → (b ≡ true → P) → P
either_true true b e f g = f refl
either_true false b e f g = g e
