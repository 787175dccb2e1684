-- The four places of the tuner; past the last tuner every place is without a label.
use Prim.Native.Nat.{ℕ, ◌+◌, ◌*◌}
use native.Mathlib.Nat.{add-zero}
use lib.ListN.{get_or, get_or-eq_default}
use mathlib.Core.Path.{◌≡◌, refl}
use borrow.Author.Rules.{rules}
use Rattle.places.specs.Places.{no_label, stands, timer_control, labels_fail}
use Rattle.places.proofs.failing.labels_fail.Goals as goal

pub returns-then-tuner-gt3 : goal.returns-then-tuner-gt3
unfolding labels_fail stands timer_control
returns-then-tuner-gt3 c =
    let a = c.args in
    let past : (lci : ℕ) → get_or a.places (a.tuner * 4 + lci) no_label ≡ no_label =
    λ lci. get_or-eq_default a.places no_label {n = a.tuner * 4 + lci} (search rules) in
    rw (past 0, past 1, past 2, past 3) refl

pub returns : goal.returns
unfolding labels_fail
returns c = rw (add-zero) c.fail_at.ensures
