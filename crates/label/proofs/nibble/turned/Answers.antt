-- `turned` has a row for each value, whose number is that of the data bits, D1 first: one test of the sixteen.
use Prim.Native.Nat.{ℕ, ◌%◌, ◌<◌}
use mathlib.Core.List.{[], List, ◌∷◌}
use mathlib.Core.Path.{◌≡◌, subst}
use native.Mathlib.Omega.{arith}
use lib.ListN.{get_or}
use Rattle.hamming.specs.Byte.{D}
use Rattle.label.proofs.Nibbles.{turned, turning}
use Rattle.label.proofs.nibble.turned.Goals as goal

abbrev table : List ℕ
table = 0 ∷ 8 ∷ 4 ∷ 12 ∷ 2 ∷ 10 ∷ 6 ∷ 14 ∷ 1 ∷ 9 ∷ 5 ∷ 13 ∷ 3 ∷ 11 ∷ 7 ∷ 15 ∷ []

looked : (v k : ℕ) → v % 16 ≡ k → (get_or table k 0 ≡ turned v) × (get_or table k 0 < 16)
unfolding D
looked v k e = subst (λ (m : ℕ). (get_or table m 0 ≡ turned v) × (get_or table m 0 < 16)) e (turning table tt v)

pub returns-in-0 : goal.returns-in-0
returns-in-0 c = looked _ 0 c.in-0.is

pub returns-in-1 : goal.returns-in-1
returns-in-1 c = looked _ 1 c.in-1.is

pub returns-in-2 : goal.returns-in-2
returns-in-2 c = looked _ 2 c.in-2.is

pub returns-in-3 : goal.returns-in-3
returns-in-3 c = looked _ 3 c.in-3.is

pub returns-in-4 : goal.returns-in-4
returns-in-4 c = looked _ 4 c.in-4.is

pub returns-in-5 : goal.returns-in-5
returns-in-5 c = looked _ 5 c.in-5.is

pub returns-in-6 : goal.returns-in-6
returns-in-6 c = looked _ 6 c.in-6.is

pub returns-in-7 : goal.returns-in-7
returns-in-7 c = looked _ 7 c.in-7.is

pub returns-in-8 : goal.returns-in-8
returns-in-8 c = looked _ 8 c.in-8.is

pub returns-in-9 : goal.returns-in-9
returns-in-9 c = looked _ 9 c.in-9.is

pub returns-in-10 : goal.returns-in-10
returns-in-10 c = looked _ 10 c.in-10.is

pub returns-in-11 : goal.returns-in-11
returns-in-11 c = looked _ 11 c.in-11.is

pub returns-in-12 : goal.returns-in-12
returns-in-12 c = looked _ 12 c.in-12.is

pub returns-in-13 : goal.returns-in-13
returns-in-13 c = looked _ 13 c.in-13.is

pub returns-in-14 : goal.returns-in-14
returns-in-14 c = looked _ 14 c.in-14.is

pub returns-in_default : goal.returns-in_default
returns-in_default c = let v = c.args.v in let last : v % 16 ≡ 15 = omega (arith, c.in_default) in looked v 15 last
