-- The parts of a triplet's eighteen bits, put in and taken out again.
use Prim.Native.Nat.{ℕ, ◌+◌, ◌<◌, ◌≤◌, ◌^◌}
use mathlib.Core.Path.{◌≡◌, refl, sym, ap}
use mathlib.Core.Bool.{Bool, true, false}
use native.Mathlib.Omega.{arith}
use borrow.Author.Tests.{le-leb, lt-leb, ne_eqb, eqb-true, eqb-false, leb-true}
use lib.Dec.{leb, eqb}
use Rattle.answer.proofs.Cases.{by_test, both_true}
use Rattle.group.specs.Group.{word_a, mode, word_b, joined, row_of, address_of, decimal, figures}
use Rattle.group.specs.Group.{top_bit, six_bits, flagged, offset_of, offset_bits}
use Rattle.group.specs.Laws.{fits_offset}
use Rattle.group.specs.declared.Offset.{Offset}
use Rattle.group.specs.declared.Offset.TheVariants.{East, West}

-- ── the three words ────────────────────────────────────────────────────────────────────────────────────────────────
-- what is joined has eighteen bits, and they are its parts again
pub joined_apart : (a m b : ℕ) → a < 64 → m < 32 → b < 128 →
    (joined a m b < 2 ^ 18) × (word_a (joined a m b) ≡ a) × (mode (joined a m b) ≡ m) × (word_b (joined a m b) ≡ b)
joined_apart a m b p q r = omega arith

-- ── rows ───────────────────────────────────────────────────────────────────────────────────────────────────────────
-- the address of a row has six bits, is a row's, and this row's
pub addressed : (row : ℕ) → 1 ≤ row → row ≤ 24 → (address_of row < 64) × (40 ≤ address_of row) × (row_of (address_of row) ≡ row)
addressed row p q =
    by_test (eqb row 24)
    (λ t. rw t (omega arith, omega arith, sym (eqb-true row 24 t)))
    (λ t.
    let n = eqb-false row 24 t in
    rw (t, ne_eqb (40 + row) 40 (λ (e : 40 + row ≡ 40). omega arith)) (omega arith, omega arith, omega arith))

-- ── figures ────────────────────────────────────────────────────────────────────────────────────────────────────────
pub decimal_figures : (n : ℕ) → decimal (figures n) ≡ n
decimal_figures n = omega arith

-- ── the top bit and the six below it ───────────────────────────────────────────────────────────────────────────────
pub flag_apart : (low : ℕ) (flag : Bool) → low < 64 →
    (flagged low flag < 128) × (six_bits (flagged low flag) ≡ low) × (top_bit (flagged low flag) ≡ flag)
flag_apart low true h = (omega arith, omega arith, le-leb 64 (low + 64) (omega arith))
flag_apart low false h = (omega arith, omega arith, lt-leb 64 low h)

-- an offset is sent as its quarter hours, flagged where it is west
pub offset_back : (o : Offset) → fits_offset o ≡ true → (offset_bits o < 128) × (offset_of (offset_bits o) ≡ o)
offset_back (East q) e =
    let six : q < 64 = omega (arith, leb-true) in
    let f = flag_apart q false six in
    (f.0, rw f.2 (ap East f.1))
offset_back (West q) e =
    let b = both_true (leb 1 q) (leb q 63) e in
    let p = leb-true 1 q b.0 in
    let l = leb-true q 63 b.1 in
    let f = flag_apart q true (omega arith) in
    (f.0, rw (f.2, f.1, ne_eqb q 0 (λ (z : q ≡ 0). omega arith)) refl)
