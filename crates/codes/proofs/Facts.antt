-- Facts of figures.
use Prim.Native.Nat.{ℕ, ◌≤◌}
use mathlib.Core.Bool.{true, false}
use mathlib.Core.Path.{◌≡◌}
use native.Mathlib.Omega.{arith}
use borrow.Author.Tests.{leb-true}
use lib.Dec.{leb}
use Rattle.answer.proofs.Cases.{by_test, both_true}
use Rattle.codes.specs.Codes.{is_decimal, is_letter, figure}

pub decimal_within : (c : ℕ) → is_decimal c ≡ true → (48 ≤ c) × (c ≤ 57)
decimal_within c e =
    let t = both_true (leb 48 c) (leb c 57) e in
    (leb-true 48 c t.0, leb-true c 57 t.1)

pub letter_within : (c : ℕ) → is_letter c ≡ true → (65 ≤ c) × (c ≤ 70)
letter_within c e =
    let t = both_true (leb 65 c) (leb c 70) e in
    (leb-true 65 c t.0, leb-true c 70 t.1)

pub figure_small : (c : ℕ) → figure c ≤ 15
figure_small c = by_test (is_decimal c) decimal other
  where
    decimal : is_decimal c ≡ true → figure c ≤ 15
    decimal e = rw e (omega (arith, decimal_within c e))

    other : is_decimal c ≡ false → figure c ≤ 15
    other e = rw e (by_test (is_letter c) (λ t. rw t (omega (arith, letter_within c t))) (λ t. rw t (omega arith)))
