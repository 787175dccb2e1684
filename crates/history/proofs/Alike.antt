-- Seconds that pass change neither what is held nor a booking, so that an update is judged before them as after them.
use Prim.Native.Nat.{ℕ, ◌-◌}
use mathlib.Core.Path.{◌≡◌, refl, sym, ◌∙◌}
use mathlib.Core.List.{List, [], ◌∷◌, map}
use lib.ListN.{get_or-map}
use Rattle.places.specs.declared.Stamped.{Stamped}
use Rattle.rule.specs.declared.Timer.{Timer}
use Rattle.rule.specs.Rule.{next_timer}
use Rattle.sixteen.specs.Sixteen.{no_timer}
use Rattle.moving.proofs.Update.{key_of}
use Rattle.desk.specs.declared.Desk.{Desk}
use Rattle.desk.specs.Moments.{moment, next_second, pass_to}
use Rattle.desk.specs.Calls.{timer_at}
use Rattle.desk.proofs.Settle.{walk_keeps}
use Rattle.history.proofs.Next.{next_is, next_held}

keys_next : (s : ℕ) (ls : List Stamped) (ts : List Timer) → map key_of (map (next_timer s ls) ts) ≡ map key_of ts
unfolding next_timer
keys_next s ls [] = refl
keys_next s ls (t ∷ ts) = rw (next_held _ _ _ (next_is s ls t.booking t.copy), keys_next s ls ts)

module _ (t : ℕ) (d : Desk) where
  pub keys_pass : map key_of (pass_to t d).timers ≡ map key_of d.timers
  unfolding pass_to next_second moment
  keys_pass = walk_keeps (λ e. map key_of e.timers ≡ map key_of d.timers) (λ e h. keys_next _ _ e.timers ∙ h) (t - d.clock) d refl

  pub key_pass : (slot : ℕ) → key_of (timer_at (pass_to t d) slot) ≡ key_of (timer_at d slot)
  key_pass slot =
      sym (get_or-map key_of (pass_to t d).timers slot no_timer) ∙ rw keys_pass (get_or-map key_of d.timers slot no_timer)
