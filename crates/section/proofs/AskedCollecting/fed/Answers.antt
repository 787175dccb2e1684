-- `fed`: each byte of a piece leaves one less.
use Rattle.section.proofs.Left.{left_after}
use Rattle.section.proofs.AskedCollecting.fed.Goals as goal

pub returns-clause-less : goal.returns-clause-less
returns-clause-less c =
    let a = c.args in
    rw c.feed.ensures.value (left_after a.piece.now a.self)
