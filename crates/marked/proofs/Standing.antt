-- Examples 8 and 10 for every t and label: how long a label stands, and what a continuation code does to it.
use Prim.Native.Nat.{ℕ, ◌+◌, ◌-◌, ◌≤◌, ◌<◌}
use mathlib.Core.Path.{◌≡◌, refl}
use mathlib.Core.Bool.{true, false}
use native.Mathlib.Omega.{arith}
use borrow.Author.Tests.{le-leb, lt-leb}
use Rattle.label.specs.declared.Label.{Label}
use Rattle.label.specs.declared.pil.Service.TheVariants.{Continuation}
use Rattle.label.specs.Pil.{service_of}
use Rattle.places.specs.Places.{stand_for, stands, heard_at}
use Rattle.places.specs.declared.Stamped.{Stamped}
use Rattle.marked.specs.Marked.{StampedAt, restamped}

module _ (t s : ℕ) (l : Stamped) (h : StampedAt t l) where
  pub standing : s ≤ t + 5 → stands s l ≡ true
  unfolding stands
  standing k = rw (h.0, h.1) (le-leb (s - t) stand_for (omega arith))

  pub lapsed : t + 5 < s → stands s l ≡ false
  unfolding stands
  lapsed k = rw (h.0, h.1) (lt-leb (s - t) stand_for (omega arith))

-- a continuation code at second s, and the label at second u
module _ (t s : ℕ) (l : Stamped) (c : Label) (h : StampedAt t l) (code : service_of c.pil ≡ Continuation) where
  pub renews : s ≤ t + 5 → heard_at s c l ≡ restamped s l
  unfolding heard_at
  renews k = rw (code, standing t s l h k)

  pub renews_not : t + 5 < s → heard_at s c l ≡ l
  unfolding heard_at
  renews_not k = rw (code, lapsed t s l h k)

  pub kept : (u : ℕ) → s ≤ t + 5 → u ≤ s + 5 → stands u (heard_at s c l) ≡ true
  kept u k m = rw (renews k) (standing s u (restamped s l) (h.0, refl) m)

  pub kept_until : (u : ℕ) → s ≤ t + 5 → s + 5 < u → stands u (heard_at s c l) ≡ false
  kept_until u k m = rw (renews k) (lapsed s u (restamped s l) (h.0, refl) m)
