-- `wrong_bit`: each mask marks the positions that its parity bit covers.
use mathlib.Core.Path.{refl, ◌∙◌}
use native.Mathlib.Omega.{arith}
use Rattle.triplet.specs.Word.{run, covered}
use Rattle.triplet.proofs.Masks.{check}
use Rattle.triplet.proofs.Decoded.{spelt_sum}
use Rattle.triplet.proofs.wrong_bit.Goals as goal

pub returns : goal.returns
unfolding covered run
returns c =
    let w = c.args.w in
    spelt_sum w _ _ _ _ _
    (c.even.ensures ∙ check (covered 1) _ w (omega arith) refl)
    (c.even-2.ensures ∙ check (covered 2) _ w (omega arith) refl)
    (c.even-3.ensures ∙ check (covered 4) _ w (omega arith) refl)
    (c.even-4.ensures ∙ check (covered 8) _ w (omega arith) refl)
    (c.even-5.ensures ∙ check (covered 16) _ w (omega arith) refl)
