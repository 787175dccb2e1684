-- The first refusal that applies.
use Prim.Native.Nat.{ℕ, zero, suc}
use mathlib.Core.Path.{◌≡◌, refl, ap}
use mathlib.Core.Bool.{Bool, true, false, not}
use mathlib.Core.List.{List, [], ◌∷◌}
use native.Mathlib.Omega.{arith}
use borrow.Author.Tests.{eq-eqb, ne_eqb}
use lib.Dec.{eqb}
use lib.ListN.{length}
use Rattle.answer.specs.Answer.{refused, given, Row, first_of}

abbrev pub test_at : ℕ → List Row → Bool
test_at k [] = false
test_at zero (row ∷ rows) = row.0
test_at (suc k) (row ∷ rows) = test_at k rows

abbrev pub number_at : ℕ → List Row → ℕ
number_at k [] = 0
number_at zero (row ∷ rows) = row.1
number_at (suc k) (row ∷ rows) = number_at k rows

-- none of the first k rows applies
abbrev pub Passed : ℕ → List Row → Type 0
Passed zero rows = Unit {0}
Passed (suc k) rows = Passed k rows × (test_at k rows ≡ false)

later : (k : ℕ) (row : Row) (rows : List Row) → Passed (suc k) (row ∷ rows) → (row.0 ≡ false) × Passed k rows
later zero row rows h = (h.1, tt)
later (suc k) row rows h = let t = later k row rows h.0 in (t.0, (t.1, h.1))

-- the row after them applies
pub refused_at : {A : Type 0} (k : ℕ) (rows : List Row) (a : A) → Passed k rows → test_at k rows ≡ true → refused (number_at k rows) ≡ first_of rows a
refused_at k [] a h e = absurd (let z : ◌≡◌ {A = ℕ} 0 1 = cc in omega arith)
refused_at zero (row ∷ rows) a h e = rw e
refused_at (suc k) (row ∷ rows) a h e = let t = later k row rows h in rw t.0 (refused_at k rows a t.1 e)

-- no row applies
pub given_past : {A : Type 0} (rows : List Row) (a : A) → Passed (length rows) rows → given a ≡ first_of rows a
given_past [] a h = refl
given_past (row ∷ rows) a h = let t = later (length rows) row rows h in rw t.0 (given_past rows a t.1)

-- the row of the length
pub other_length : (p : List ℕ) {n : ℕ} → (length p ≡ n → ⊥) → not (eqb (length p) n) ≡ true
other_length p h = ap not (ne_eqb _ _ h)

pub that_length : (p : List ℕ) {n : ℕ} → length p ≡ n → not (eqb (length p) n) ≡ false
that_length p h = ap not (eq-eqb _ _ h)
