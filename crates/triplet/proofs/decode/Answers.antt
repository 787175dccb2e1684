-- `decode` goes by the checks: the overall one, and the bit that the five spell.
use borrow.Author.Rules.{rules}
use Prim.Native.Nat.{ℕ, ◌*◌, ◌/◌, ◌%◌, ◌^◌, ◌<◌}
use mathlib.Core.Path.{◌≡◌, refl, sym, ap, ◌∙◌}
use native.Mathlib.Omega.{arith}
use lib.Bits.{bit_xor}
use Rattle.triplet.specs.Word.{word_of, run, all}
use Rattle.triplet.specs.Checks.{data_of, wrong, spelt}
use Rattle.triplet.specs.declared.Triplet.TheVariants.{Clean, Mended}
use Rattle.triplet.proofs.Masks.{check}
use Rattle.triplet.proofs.Decoded.{fails, clean_told, two_told, none_told, mended_told}
use Rattle.triplet.proofs.decode.Goals as goal
use Rattle.triplet.proofs.decode.Goals.{After-even-overall}

abbrev word : After-even-overall → ℕ
word s = let t = s.args in word_of t.a t.b t.c

overall : (s : After-even-overall) → s.even-overall.result ≡ wrong all (word s)
unfolding all run
overall s = s.even-overall.ensures ∙ check all _ (word s) (omega arith) refl

pub returns-then-n-eq0 : goal.returns-then-n-eq0
returns-then-n-eq0 c =
    let o : wrong all (word (goal.at.returns-then-n-eq0 c).After-even-overall) ≡ 0 = sym (overall (goal.at.returns-then-n-eq0 c).After-even-overall) ∙ c.if-overall-eq0.true in
    let n : spelt (word (goal.at.returns-then-n-eq0 c).After-even-overall) ≡ 0 = sym c.wrong_bit-n.ensures ∙ c.if-n-eq0.true in
    ap Clean c.data_bits.ensures ∙ clean_told (word (goal.at.returns-then-n-eq0 c).After-even-overall) (search rules) o n

pub returns-then-overall-eq0 : goal.returns-then-overall-eq0
returns-then-overall-eq0 c =
    let o : wrong all (word (goal.at.returns-then-overall-eq0 c).After-even-overall) ≡ 0 = sym (overall (goal.at.returns-then-overall-eq0 c).After-even-overall) ∙ c.if-overall-eq0.true in
    let n : spelt (word (goal.at.returns-then-overall-eq0 c).After-even-overall) ≡ 0 → ⊥ = λ z. c.if-n-eq0.false (c.wrong_bit-n.ensures ∙ z) in
    two_told (word (goal.at.returns-then-overall-eq0 c).After-even-overall) (search rules) o n

pub returns-then-n-gt23 : goal.returns-then-n-gt23
returns-then-n-gt23 c =
    let o : wrong all (word (goal.at.returns-then-n-gt23 c).After-even-overall) ≡ 1 = fails all (word (goal.at.returns-then-n-gt23 c).After-even-overall) (overall (goal.at.returns-then-n-gt23 c).After-even-overall) c.if-overall-eq0.false in
    let n : 23 < spelt (word (goal.at.returns-then-n-gt23 c).After-even-overall) = rw c.wrong_bit-n.ensures at c.if-n-gt23.true in
    none_told (word (goal.at.returns-then-n-gt23 c).After-even-overall) (search rules) o n

pub returns : goal.returns
returns c =
    let o : wrong all (word (goal.at.returns c).After-even-overall) ≡ 1 = fails all (word (goal.at.returns c).After-even-overall) (overall (goal.at.returns c).After-even-overall) c.if-overall-eq0.false in
    let n = c.wrong_bit-n.result in
    let v : c.data_bits-2.result ≡ data_of (bit_xor (word (goal.at.returns c).After-even-overall) (1 * 2 ^ n % 4294967296 / 2)) = c.data_bits-2.ensures in
    ap Mended v ∙ mended_told (word (goal.at.returns c).After-even-overall) (search rules) o n c.wrong_bit-n.ensures c.if-n-gt23.false
