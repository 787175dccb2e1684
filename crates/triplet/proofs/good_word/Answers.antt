-- `good_word`: the data bits at their places, and the parity bits of the equations between them.
use mathlib.Core.Path.{◌≡◌, refl, ◌∙◌}
use Prim.Native.Nat.{◌+◌, ◌%◌}
use native.Mathlib.Omega.{arith}
use lib.Bits.{bit_and}
use lib.Count.{ones}
use Rattle.triplet.specs.Word.{run, covered, all}
use Rattle.triplet.proofs.Masks.{check}
use Rattle.triplet.proofs.Laid.{laid, most, laid_good}
use Rattle.triplet.proofs.good_word.Goals as goal

pub returns : goal.returns
unfolding covered all run
returns c =
    let d = c.args.v % 262144 in
    let f₁ : c.even-p1.result ≡ (1 + ones (bit_and (laid d) 0x555555)) % 2 = c.even-p1.ensures in
    let m = most c.even-p1.result c.even-p2.result c.even-p4.result c.even-p8.result c.even-p16.result d in
    let f₂₄ : c.even-p24.result ≡ (1 + ones (bit_and m 0xFFFFFF)) % 2 = c.even-p24.ensures in
    laid_good d _ _ _ _ _ _
    (f₁ ∙ check (covered 1) _ (laid d) (omega arith) refl)
    (c.even-p2.ensures ∙ check (covered 2) _ (laid d) (omega arith) refl)
    (c.even-p4.ensures ∙ check (covered 4) _ (laid d) (omega arith) refl)
    (c.even-p8.ensures ∙ check (covered 8) _ (laid d) (omega arith) refl)
    (c.even-p16.ensures ∙ check (covered 16) _ (laid d) (omega arith) refl)
    (f₂₄ ∙ check all _ m (omega arith) refl)
