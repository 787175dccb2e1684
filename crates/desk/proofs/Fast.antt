-- The passing of seconds by steps that are worth computing: a second while the desk is not quiet, and then all the rest at once.
use Prim.Native.Nat.{ℕ, zero, suc}
use mathlib.Core.Path.{◌≡◌, refl, sym, ◌∙◌}
use mathlib.Core.Bool.{Bool, true, false, cond}
use borrow.Author.Tests.{leb-true, leb-false}
use lib.Dec.{leb}
use Rattle.desk.specs.Moments.{moment, clocked_at, next_second, pass_to, quiet}
use Rattle.desk.specs.declared.Desk.{Desk}
use Rattle.desk.proofs.Turns.{turn_pass, jump_pass, end_pass}

-- at most k seconds one by one
unfoldable pub fast_to : ℕ → ℕ → Desk → Desk
fast_to zero t d = pass_to t d
fast_to (suc k) t d =
    let jump = moment (clocked_at t d) in
    let more = fast_to k t (next_second d) in
    let on = cond (quiet d) jump more in
    cond (leb t d.clock) d on

pub fast_pass : (k t : ℕ) (d : Desk) → fast_to k t d ≡ pass_to t d
unfolding fast_to
fast_pass zero t d = refl
fast_pass (suc k) t d = go (leb t d.clock) refl (quiet d) refl (fast_pass k t (next_second d))
  where
    go : (l : Bool) → leb t d.clock ≡ l → (q : Bool) → quiet d ≡ q → fast_to k t (next_second d) ≡ pass_to t (next_second d) →
        cond l d (cond q (moment (clocked_at t d)) (fast_to k t (next_second d))) ≡ pass_to t d
    go true e q f r = sym (end_pass t d (leb-true t d.clock e))
    go false e true f r = sym (jump_pass t d (leb-false t d.clock e) f)
    go false e false f r = r ∙ sym (turn_pass t d (next_second d) refl (leb-false t d.clock e))
