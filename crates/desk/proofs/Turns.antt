-- The seconds up to t, turn by turn: one that is walked, the jump from a quiet desk, and the end.
use Prim.Native.Nat.{ℕ, suc, ◌+◌, ◌-◌, ◌≤◌, ◌<◌}
use mathlib.Core.Path.{◌≡◌, sym, ap, ◌∙◌}
use mathlib.Core.Bool.{true, false}
use native.Mathlib.Omega.{arith}
use native.Mathlib.Numerals.{add-one}
use Rattle.desk.specs.Moments.{moment, clocked_at, next_second, walk, pass_to, quiet, walked_in, walked_to}
use Rattle.desk.specs.declared.Desk.{Desk}
use Rattle.desk.proofs.Jump.{quiet_jump, walked_in_quiet}

module _ (t : ℕ) (d : Desk) where
  more : d.clock < t → t - d.clock ≡ suc (t - suc d.clock)
  more h = omega arith

  -- e is the desk a second later
  module _ (e : Desk) (q : e ≡ next_second d) where
    pub turn_clock : e.clock ≡ suc d.clock
    unfolding next_second moment
    turn_clock = rw q

    pub turn_pass : d.clock < t → pass_to t d ≡ pass_to t e
    unfolding pass_to walk next_second moment
    turn_pass h = rw (q, more h)

    pub turn_walked : d.clock < t → quiet d ≡ false → walked_to t d ≡ walked_to t e + 1
    unfolding walked_to walked_in next_second moment
    turn_walked h n = rw (q, more h, n) (sym (add-one _))

  pub jump_pass : d.clock < t → quiet d ≡ true → pass_to t d ≡ moment (clocked_at t d)
  unfolding pass_to
  jump_pass h e =
      let n = t - suc d.clock in
      let z : d.clock + suc n ≡ t = omega arith in
      rw (more h) (quiet_jump n d e ∙ ap (λ s. moment (clocked_at s d)) z)

  pub jump_walked : quiet d ≡ true → walked_to t d ≡ 0
  unfolding walked_to
  jump_walked e = walked_in_quiet (t - d.clock) d e

  pub end_pass : t ≤ d.clock → pass_to t d ≡ d
  unfolding pass_to walk
  end_pass h = let z : t - d.clock ≡ 0 = omega arith in rw z

  pub end_walked : t ≤ d.clock → walked_to t d ≡ 0
  unfolding walked_to walked_in
  end_walked h = let z : t - d.clock ≡ 0 = omega arith in rw z
