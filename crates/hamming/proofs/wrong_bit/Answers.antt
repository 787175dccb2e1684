-- `wrong_bit`: each of the eight bits has a part in just the checks that fail where it is wrong.
use Prim.Native.Nat.{ℕ}
use mathlib.Core.Path.{◌≡◌, refl}
use native.Mathlib.Omega.{arith}
use lib.Count.{ones, ones_in}
use Rattle.hamming.proofs.Checks.{Tells}
use Rattle.hamming.proofs.wrong_bit.Goals as goal

told : (w k : ℕ) {failing : ℕ} → failing ≡ k → Tells w k → Tells w failing
told w k e t = rw e t

pub returns-in-0 : goal.returns-in-0
unfolding ones ones_in
returns-in-0 c = told 0x40 0 c.in-0.is (refl, refl, refl, refl)

pub returns-in-1 : goal.returns-in-1
unfolding ones ones_in
returns-in-1 c = told 0x01 1 c.in-1.is (refl, refl, refl, refl)

pub returns-in-2 : goal.returns-in-2
unfolding ones ones_in
returns-in-2 c = told 0x04 2 c.in-2.is (refl, refl, refl, refl)

pub returns-in-3 : goal.returns-in-3
unfolding ones ones_in
returns-in-3 c = told 0x80 3 c.in-3.is (refl, refl, refl, refl)

pub returns-in-4 : goal.returns-in-4
unfolding ones ones_in
returns-in-4 c = told 0x10 4 c.in-4.is (refl, refl, refl, refl)

pub returns-in-5 : goal.returns-in-5
unfolding ones ones_in
returns-in-5 c = told 0x20 5 c.in-5.is (refl, refl, refl, refl)

pub returns-in-6 : goal.returns-in-6
unfolding ones ones_in
returns-in-6 c = told 0x08 6 c.in-6.is (refl, refl, refl, refl)

pub returns-in_default : goal.returns-in_default
unfolding ones ones_in
returns-in_default c = told 0x02 7 (omega (arith, c.in_default, c.requires)) (refl, refl, refl, refl)
