-- The values of bytes, and their four data bits.
use Prim.Native.Nat.{ℕ, ◌<◌, ◌%◌}
use mathlib.Core.Path.{◌≡◌, refl, sym, ap, ◌∙◌}
use mathlib.Core.Bool.{Bool}
use mathlib.Core.List.{List, [], ◌∷◌}
use native.Mathlib.Omega.{arith}
use native.Mathlib.Nat.{zero-add}
use borrow.Author.Tests.{le-ltb}
use lib.Dec.{T, ltb, eqb, eqb→eq}
use lib.ListN.{get_or}
use Rattle.hamming.specs.Byte.{D, nibble_of}
use Rattle.hamming.specs.declared.Nibble.{Nibble}
use Rattle.hamming.specs.declared.Nibble.TheVariants.{Damaged, Clean, Mended}
use Rattle.answer.proofs.All.{below, each}
use Rattle.hamming.proofs.Nearest.{only_clean, only_mended}
use Rattle.label.specs.Layout.{number_from, four}
use Rattle.label.specs.Packet.{damaged, value_of}
use Rattle.label.proofs.Digits.{of_digits}

-- the number 16 stands for a damaged byte alone
pub over : (b : ℕ) {v : ℕ} → v ≡ value_of (nibble_of b) → ltb 15 v ≡ damaged (nibble_of b)
over b h = ap (ltb 15) h ∙ go (nibble_of b) refl
  where
    go : (n : Nibble) → nibble_of b ≡ n → ltb 15 (value_of n) ≡ damaged n
    go Damaged e = refl
    go (Clean v) e = let h = only_clean b v e in le-ltb 15 v (omega arith)
    go (Mended v) e = let h = only_mended b v e in le-ltb 15 v (omega arith)

-- the number of the data bits, D4 first, is that of the four lowest bits
pub low_four : (v : ℕ) → v % 16 ≡ number_from 0 (D 4 v ∷ D 3 v ∷ D 2 v ∷ D 1 v ∷ [])
unfolding D
low_four v = sym (of_digits 4 0 v ∙ zero-add (v % 16))

-- four bits as a number, the first highest, and as a value, the first lowest
pub four_number : (a b c d : ℕ) → number_from 0 (a ∷ b ∷ c ∷ d ∷ []) ≡ four d c b a
four_number a b c d = omega arith

-- the data bits are those of the four lowest bits
low_bits : (v : ℕ) → (D 1 (v % 16) ≡ D 1 v) × (D 2 (v % 16) ≡ D 2 v) × (D 3 (v % 16) ≡ D 3 v) × (D 4 (v % 16) ≡ D 4 v)
unfolding D
low_bits v = (omega arith, omega arith, omega arith, omega arith)

-- the number of the data bits, D1 first
abbrev pub turned : ℕ → ℕ
turned v = number_from 0 (D 1 v ∷ D 2 v ∷ D 3 v ∷ D 4 v ∷ [])

turned_small : (v : ℕ) → turned v < 16
unfolding D
turned_small v = omega arith

abbrev turns : List ℕ → ℕ → Bool
turns t v = eqb (get_or t v 0) (turned v)

-- a table that has this number at each value gives it for every number
pub turning : (t : List ℕ) → T (below (turns t) 16) → (v : ℕ) → (get_or t (v % 16) 0 ≡ turned v) × (get_or t (v % 16) 0 < 16)
turning t h v =
    let b = low_bits v in
    let e = eqb→eq (get_or t (v % 16) 0) (turned (v % 16)) (each (turns t) 16 h (v % 16) (omega arith)) in
    let s = turned_small v in
    (omega arith, omega arith)

-- the data bits of four bits are these
pub four_bits : (a b c d : ℕ) → a < 2 → b < 2 → c < 2 → d < 2 →
    let v = four a b c d in
    (D 1 v ≡ a) × (D 2 v ≡ b) × (D 3 v ≡ c) × (D 4 v ≡ d)
unfolding D
four_bits a b c d ha hb hc hd = (omega arith, omega arith, omega arith, omega arith)

-- and their number with its bits in the other order is the value
pub turned_back : (a b c d : ℕ) → a < 2 → b < 2 → c < 2 → d < 2 → turned (number_from 0 (a ∷ b ∷ c ∷ d ∷ [])) % 16 ≡ four a b c d
turned_back a b c d ha hb hc hd =
    let p = four_bits d c b a hd hc hb ha in
    ap (λ (m : ℕ). turned m % 16) (four_number a b c d) ∙ omega arith

pub four_small : (a b c d : ℕ) → a < 2 → b < 2 → c < 2 → d < 2 → four a b c d < 16
four_small a b c d ha hb hc hd = omega arith
