-- Both months are those of the PILs' parts.
use Prim.Native.Nat.{ℕ, ◌+◌}
use mathlib.Core.Bool.{Bool, cond, true, false, ◌&&◌}
use mathlib.Core.Path.{◌≡◌, refl}
use native.Mathlib.Omega.{arith}
use lib.Dec.{eqb}
use Rattle.label.specs.declared.pil.Announced.{Announced}
use Rattle.label.specs.Pil.{parts_of}
use Rattle.matching.specs.declared.Booking.{Booking}
use Rattle.moving.specs.Moving.{year_for}
use Rattle.moving.proofs.judging.year_for.Goals as goal

tested : (b : Booking) (pil : ℕ) (p q : Announced) (t : Bool) → p ≡ parts_of b.pil → q ≡ parts_of pil → (eqb p.month 12 && eqb q.month 1) ≡ t →
    b.year + cond t 1 0 ≡ year_for b pil
unfolding year_for
tested b pil p q t e f g = rw (← g, e, f) refl

pub returns-then-parts : goal.returns-then-parts
returns-then-parts c =
    let a = c.args in
    tested a.b a.pil _ _ true c.parts.ensures c.parts-2.ensures c.if-parts.true

pub returns : goal.returns
returns c =
    let a = c.args in
    omega (arith, tested a.b a.pil _ _ false c.parts.ensures c.parts-2.ensures c.if-parts.false)
