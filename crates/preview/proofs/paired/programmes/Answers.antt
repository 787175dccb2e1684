-- `programmes` pairs the first n one after the other.
use borrow.Author.Rules.{rules}
use native.Mathlib.Numerals.{add-one}
use Rattle.preview.proofs.Pairs.{first_more}
use Rattle.preview.proofs.paired.programmes.Goals as goal

pub loop-i-preserved : goal.loop-i-preserved
loop-i-preserved c =
    let a = c.args in
    rw (c.loop-i.invariant, c.programme_by.ensures, add-one c.loop-i.i) (first_more a.a a.o c.loop-i.i _ _ (search rules) (search rules))
