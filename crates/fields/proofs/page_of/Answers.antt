-- `page_of` takes the programmes one after the other; what it keeps is `Taken`.
use borrow.Author.Rules.{rules}
use mathlib.Core.Path.{refl}
use Rattle.fields.proofs.Taken.{taken_none, taken_more, taken_all}
use Rattle.fields.proofs.page_of.Goals as goal

pub loop-i-init : goal.loop-i-init
loop-i-init c = taken_none _ _ (search rules) refl

pub loop-i-preserved : goal.loop-i-preserved
loop-i-preserved c =
    taken_more _ _ c.loop-i.invariant (search rules) c.programme_at.ensures

pub returns : goal.returns
returns c =
    (refl, taken_all _ _ c.loop-i.invariant (search rules))
