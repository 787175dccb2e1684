-- The look begins at the first place with the PIL, and misses nothing before it.
use Rattle.std.proofs.Common.{rules}
use Rattle.matching.proofs.Sights.{seen_first}
use Rattle.matching.proofs.seeing.look.Goals as goal

pub loop-i-init : goal.loop-i-init
loop-i-init c = let a = c.args in (search rules, seen_first a.s a.b a.places a.from c.requires)
