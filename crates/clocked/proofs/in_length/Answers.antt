-- By whether the announced second has come.
use Prim.Native.Nat.{◌*◌, ◌≤◌, ◌<◌}
use mathlib.Core.Bool.{false}
use mathlib.Core.Path.{◌≡◌, sym}
use lib.Dec.{leb}
use native.Mathlib.Omega.{arith}
use borrow.Author.Tests.{le-leb, lt-leb}
use Rattle.calendar.specs.Calendar.{announced_at}
use Rattle.places.proofs.Ages.{below}
use Rattle.clocked.specs.Clocked.{in_length}
use Rattle.clocked.proofs.in_length.Goals as goal

pub returns-else-begins-now : goal.returns-else-begins-now
unfolding in_length
returns-else-begins-now c =
    let a = c.args in
    let early : a.s < announced_at a.b.pil a.b.year = rw c.announced_of-begins.ensures at c.if-begins-now.false in
    let not_yet : leb (announced_at a.b.pil a.b.year) a.s ≡ false = lt-leb (announced_at a.b.pil a.b.year) a.s early in
    rw (c.announced_of-begins.ensures, not_yet)

pub returns-then-begins-now : goal.returns-then-begins-now
unfolding in_length
returns-then-begins-now c =
    let a = c.args in
    let begun : announced_at a.b.pil a.b.year ≤ a.s = rw c.announced_of-begins.ensures at c.if-begins-now.true in
    rw (c.announced_of-begins.ensures, le-leb (announced_at a.b.pil a.b.year) a.s begun)
    (sym (below a.s (announced_at a.b.pil a.b.year) (60 * a.b.length) (λ l. absurd (omega arith))))
