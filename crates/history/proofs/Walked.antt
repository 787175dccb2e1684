-- What a wait reports is the least number of seconds until the desk is quiet, or the whole wait.
use Prim.Native.Nat.{ℕ, zero, suc, ◌+◌, ◌≤◌, ◌<◌}
use mathlib.Core.Path.{◌≡◌, refl, sym, ◌∙◌}
use mathlib.Core.Bool.{Bool, true, false, cond, true≢false}
use native.Mathlib.Nat.{zero-add, suc-add, le_of_suc-le-suc, not-suc-le-zero}
use native.Mathlib.Omega.{arith}
use Rattle.desk.specs.declared.Desk.{Desk}
use Rattle.desk.specs.Moments.{next_second, walk, quiet, walked_in}
use Rattle.desk.proofs.Jump.{quiet_walk, walked_in_quiet}
use Rattle.history.specs.Laws.{Walked}

pub walked_least : (n : ℕ) (d : Desk) → Walked n d (walked_in n d)
unfolding walked_in walk
walked_least zero d = record { within = omega arith; before = λ j h. absurd (not-suc-le-zero h); then_quiet = λ h. absurd (not-suc-le-zero h) }
walked_least (suc n) d = go (quiet d) refl (walked_least n (next_second d))
  where
    go : (b : Bool) → quiet d ≡ b → Walked n (next_second d) (walked_in n (next_second d)) →
        Walked (suc n) d (cond b 0 (suc (walked_in n (next_second d))))
    go true e ih = record { within = omega arith; before = λ j h. absurd (not-suc-le-zero h); then_quiet = λ h. e }
    go false e ih = record {
      within = omega (arith, ih.within);
      before = λ j. elim j as (λ k. k < suc (walked_in n (next_second d)) → quiet (walk k d) ≡ false) [ zero ↦ λ h. e | suc i ↦ λ h. ih.before i (le_of_suc-le-suc h) ];
      then_quiet = λ h. ih.then_quiet (le_of_suc-le-suc h);
    }

-- of two such numbers neither is less
not_less : (n j k : ℕ) (d : Desk) → Walked n d j → Walked n d k → ¬ (j < k)
not_less n j k d a b h = true≢false (sym (a.then_quiet (omega (arith, b.within))) ∙ b.before j h)

pub walked_unique : (n k : ℕ) (d : Desk) → Walked n d k → k ≡ walked_in n d
walked_unique n k d a =
    let b = walked_least n d in
    omega (arith, not_less n k (walked_in n d) d a b, not_less n (walked_in n d) k d b a)

-- no longer than it takes to be quiet
pub walked_in_le : (n k : ℕ) (d : Desk) → quiet (walk k d) ≡ true → walked_in n d ≤ k
walked_in_le n k d q =
    let x : ¬ (k < walked_in n d) = λ l. true≢false (sym q ∙ (walked_least n d).before k l) in
    omega arith

-- the counts of two parts of a wait add up
pub walked_in_add : (m n : ℕ) (d : Desk) → walked_in (m + n) d ≡ walked_in m d + walked_in n (walk m d)
unfolding walked_in walk
walked_in_add zero n d = rw (zero-add n, zero-add (walked_in n d))
walked_in_add (suc m) n d = rw suc-add (go (quiet d) refl (walked_in_add m n (next_second d)))
  where
    go : (b : Bool) → quiet d ≡ b → walked_in (m + n) (next_second d) ≡ walked_in m (next_second d) + walked_in n (walk m (next_second d)) →
        cond b 0 (suc (walked_in (m + n) (next_second d))) ≡ cond b 0 (suc (walked_in m (next_second d))) + walked_in n (walk m (next_second d))
    go true e ih = sym (zero-add (walked_in n (walk m (next_second d))) ∙ walked_in_quiet n (walk m (next_second d)) (quiet_walk (suc m) d e))
    go false e ih = omega arith
