-- `decode` goes by the checks: the overall one, and the bit that the other three tell.
use borrow.Author.Rules.{rules}
use Prim.Native.Nat.{ℕ, ◌+◌, ◌*◌, ◌%◌}
use mathlib.Core.Path.{◌≡◌, sym, ap, ◌∙◌}
use native.Mathlib.Omega.{arith}
use lib.Bits.{bit_xor}
use Rattle.hamming.specs.declared.Nibble.TheVariants.{Clean, Mended}
use Rattle.hamming.proofs.Checks.{own, fails, failing, Tells, clean_told, damaged_told, mended_told}
use Rattle.hamming.proofs.decode.Goals as goal
use Rattle.hamming.proofs.decode.Goals.{After-even-overall}

-- the four checks of the byte
module _ (s : After-even-overall) where
  abbrev byte : ℕ
  byte = s.args.b

  three : s.even.result + 2 * s.even-2.result + 4 * s.even-3.result ≡ failing byte
  three =
      let f₁ : s.even.result ≡ fails 0xA3 byte = s.even.ensures in
      let f₂ : s.even-2.result ≡ fails 0x8E byte = s.even-2.ensures in
      let f₃ : s.even-3.result ≡ fails 0x3A byte = s.even-3.ensures in
      omega arith

  overall : s.even-overall.result ≡ fails 0xFF byte
  overall = s.even-overall.ensures

not_0 : {f : ℕ} (n : ℕ) → f ≡ n % 2 → (f ≡ 0 → ⊥) → n % 2 ≡ 1
not_0 n e l = omega arith

pub returns-then-failing-eq0 : goal.returns-then-failing-eq0
returns-then-failing-eq0 c =
    let n : failing (byte (goal.at.returns-then-failing-eq0 c).After-even-overall) ≡ 0 = sym (three (goal.at.returns-then-failing-eq0 c).After-even-overall) ∙ c.if-failing-eq0.true in
    let o : fails 0xFF (byte (goal.at.returns-then-failing-eq0 c).After-even-overall) ≡ 0 = sym (overall (goal.at.returns-then-failing-eq0 c).After-even-overall) ∙ c.if-overall-eq0.true in
    ap Clean c.data_bits.ensures ∙ clean_told (byte (goal.at.returns-then-failing-eq0 c).After-even-overall) (search rules) n o

pub returns-then-overall-eq0 : goal.returns-then-overall-eq0
returns-then-overall-eq0 c =
    let n : failing (byte (goal.at.returns-then-overall-eq0 c).After-even-overall) ≡ 0 → ⊥ = λ z. c.if-failing-eq0.false (three (goal.at.returns-then-overall-eq0 c).After-even-overall ∙ z) in
    let o : fails 0xFF (byte (goal.at.returns-then-overall-eq0 c).After-even-overall) ≡ 0 = sym (overall (goal.at.returns-then-overall-eq0 c).After-even-overall) ∙ c.if-overall-eq0.true in
    damaged_told (byte (goal.at.returns-then-overall-eq0 c).After-even-overall) (search rules) n o

pub returns : goal.returns
returns c =
    let o : fails 0xFF (byte (goal.at.returns c).After-even-overall) ≡ 1 = not_0 _ (overall (goal.at.returns c).After-even-overall) c.if-overall-eq0.false in
    let w = c.wrong_bit-wrong in
    let t : Tells w.result (failing (byte (goal.at.returns c).After-even-overall)) = rw (three (goal.at.returns c).After-even-overall) at w.ensures in
    let v : c.data_bits-2.result ≡ own (bit_xor (byte (goal.at.returns c).After-even-overall) w.result) = c.data_bits-2.ensures in
    ap Mended v ∙ mended_told (byte (goal.at.returns c).After-even-overall) (search rules) w.result (search rules) t o
