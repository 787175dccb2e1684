-- The answer where one more row of the table of refusals applies.
use Prim.Native.Nat.{ℕ, ◌≤◌}
use mathlib.Core.Path.{◌≡◌, refl, sym, ap}
use mathlib.Core.Bool.{Bool, true, false, cond}
use mathlib.Core.List.{List, [], ◌∷◌, ◌++◌}
use native.Mathlib.Omega.{arith}
use borrow.Author.Tests.{ltb-true, le-ltb}
use lib.Dec.{ltb}
use Rattle.answer.specs.Answer.{Answer, refused, given, Row, first_of}
use Rattle.answer.proofs.Cases.{by_test, both_true}
use Rattle.answer.proofs.Every.{every}
use Rattle.label.specs.Laws.{sooner}

-- that row's number, or an earlier one's
module _ {A : Type 0} (a b : A) (n : ℕ) where
  later : (rows : List Row) → every (λ row. ltb n row.1) rows ≡ true → sooner (first_of rows a) n ≡ n
  later [] e = refl
  later (row ∷ rows) e = go row.0 (later rows (both_true (ltb n row.1) _ e).1)
    where
      go : (t : Bool) → sooner (first_of rows a) n ≡ n → sooner (cond t (refused row.1) (first_of rows a)) n ≡ n
      go true k = let l = ltb-true n row.1 (both_true (ltb n row.1) _ e).0 in rw (le-ltb row.1 n (omega arith))
      go false k = k

  pub one_more : (before rest after : List Row) → every (λ row. ltb row.1 n) before ≡ true → every (λ row. ltb n row.1) after ≡ true →
      first_of (before ++ ((true, n) ∷ rest)) b ≡ refused (sooner (first_of (before ++ ((false, n) ∷ after)) a) n)
  one_more [] rest after e h = ap refused (sym (later after h))
  one_more (row ∷ before) rest after e h = go row.0 (one_more before rest after (both_true (ltb row.1 n) _ e).1 h)
    where
      go : (t : Bool) → first_of (before ++ ((true, n) ∷ rest)) b ≡ refused (sooner (first_of (before ++ ((false, n) ∷ after)) a) n) →
          cond t (refused row.1) (first_of (before ++ ((true, n) ∷ rest)) b)
          ≡ refused (sooner (cond t (refused row.1) (first_of (before ++ ((false, n) ∷ after)) a)) n)
      go true k = rw (both_true (ltb row.1 n) _ e).0
      go false k = k

-- the first of two that apply is no later than the second
pub sooner_le : {A : Type 0} (a : Answer A) (n : ℕ) → sooner a n ≤ n
sooner_le (refused m) n = by_test (ltb m n) (λ e. let l = ltb-true m n e in rw e (omega arith)) (λ e. rw e (omega arith))
sooner_le (given a) n = omega arith
