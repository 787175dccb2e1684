-- Texts stored one after the other are their concatenation stored at once; how long a number is as text.
use Prim.Native.Nat.{ℕ, zero, suc, ◌+◌, ◌-◌, ◌/◌, ◌≤◌, ◌<◌}
use mathlib.Core.Bool.{Bool, true, false, cond}
use mathlib.Core.Path.{◌≡◌, refl, sym, ◌∙◌}
use mathlib.Core.List.{List, [], ◌∷◌, ◌++◌}
use native.Mathlib.Nat.{add-zero, add-suc, suc-add}
use native.Mathlib.Omega.{arith}
use borrow.Author.Tests.{lt-ltb, le-ltb}
use lib.Dec.{ltb}
use lib.ListN.{length, set, length-append}
use lib.Seq.{sets}
use Rattle.answer.specs.Text.{digit, decimal_in, Stored}

pub sets_append : (l : List ℕ) (i : ℕ) (x y : List ℕ) → sets l i (x ++ y) ≡ sets (sets l i x) (i + length x) y
sets_append l i [] y = rw add-zero
sets_append l i (a ∷ x) y = rw (add-suc, ← suc-add) (sets_append (set l i a) (suc i) x y)

-- a text, and then another
pub then : (out : List ℕ) (at : ℕ) (x y : List ℕ) {r s : ℕ} {mid after : List ℕ} →
    Stored out at x r mid → Stored mid r y s after → Stored out at (x ++ y) s after
then out at x y {r} {s} p q =
    (omega (arith, p.0, q.0, length-append x y), q.1 ∙ rw (p.0, p.1) (sym (sets_append out at x y)))

pub decimal_short : (k n : ℕ) → length (decimal_in k n) ≤ k
unfolding decimal_in
decimal_short zero n = omega arith
decimal_short (suc k) n = go (ltb n 10) (decimal_short k (n / 10))
  where
    go : (t : Bool) → length (decimal_in k (n / 10)) ≤ k → length (cond t (digit n ∷ []) (decimal_in k (n / 10) ++ (digit n ∷ []))) ≤ suc k
    go true h = omega arith
    go false h = omega (arith, length-append (decimal_in k (n / 10)) (digit n ∷ []))

-- a number in decimal by its last digit
pub no_digit : (k n : ℕ) → k ≡ 0 → decimal_in k n ≡ []
unfolding decimal_in
no_digit k n e = rw e

pub one_digit : (n : ℕ) → decimal_in 1 n ≡ digit n ∷ []
unfolding decimal_in
one_digit n = go (ltb n 10)
  where
    go : (t : Bool) → cond t (digit n ∷ []) (digit n ∷ []) ≡ digit n ∷ []
    go true = refl
    go false = refl

pub last_digit : (k n : ℕ) → 0 < k → n < 10 → decimal_in k n ≡ digit n ∷ []
unfolding decimal_in
last_digit zero n h l = absurd (omega arith)
last_digit (suc k) n h l = rw (lt-ltb n 10 l)

pub more_digits : (k n : ℕ) → 0 < k → 10 ≤ n → decimal_in k n ≡ decimal_in (k - 1) (n / 10) ++ (digit n ∷ [])
unfolding decimal_in
more_digits zero n h l = absurd (omega arith)
more_digits (suc k) n h l = let e : suc k - 1 ≡ k = omega arith in rw (le-ltb n 10 l, e)
