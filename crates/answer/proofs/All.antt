-- A rule of every number below n, proved by one test that antt computes over all of them.
use Prim.Native.Nat.{ℕ, zero, suc, ◌<◌}
use mathlib.Core.Path.{◌≡◌, refl}
use mathlib.Core.Bool.{Bool, true, false}
use native.Mathlib.Omega.{arith}
use native.Mathlib.Decide.{dec_lt}
use lib.Dec.{T}

abbrev pub both : Bool → Bool → Bool
both true b = b
both false b = false

pub both_left : (a b : Bool) → T (both a b) → T a
both_left true b t = tt
both_left false b t = t

pub both_right : (a b : Bool) → T (both a b) → T b
both_right true b t = t
both_right false b t = absurd t

-- the test passes at each number below n
abbrev pub below : (ℕ → Bool) → ℕ → Bool
below f zero = true
below f (suc n) = both (f n) (below f n)

pub each : (f : ℕ → Bool) (n : ℕ) → T (below f n) → (k : ℕ) → k < n → T (f k)
each f zero t k h = absurd (omega arith)
each f (suc n) t k h =
    elim (dec_lt k n) [
      | yes l ↦ each f n (both_right (f n) (below f n) t) k l
      | no l ↦ let e : k ≡ n = omega arith in rw e (both_left (f n) (below f n) t)
    ]

pub all_below : (f : ℕ → Bool) (n : ℕ) → ((k : ℕ) → k < n → f k ≡ true) → below f n ≡ true
all_below f zero h = refl
all_below f (suc n) h =
    let a = h n (omega arith) in
    rw a (all_below f n (λ k l. h k (omega arith)))

-- a test that is only asked where another passes
abbrev pub unless : Bool → Bool → Bool
unless true b = b
unless false b = true

pub asked : (a b : Bool) → a ≡ true → T (unless a b) → T b
asked true b e t = t
asked false b e t = absurd (let z : ◌≡◌ {A = Bool} false true = e in let y : ◌≡◌ {A = ℕ} 0 1 = cc in omega arith)
