-- `fed`: each byte of a piece leaves one less.
use mathlib.Core.Path.{ap}
use native.Mathlib.Omega.{arith}
use Rattle.collected.specs.declared.Collected.{Collected}
use Rattle.collected.proofs.Keeping.{length_more}
use Rattle.collected.proofs.CollectedCollecting.fed.Goals as goal

pub returns-clause-less : goal.returns-clause-less
returns-clause-less c =
    let a = c.args in
    omega (arith, ap (λ (r : Collected). r.held.length) c.feed.ensures.value, length_more a.piece.now a.self)
