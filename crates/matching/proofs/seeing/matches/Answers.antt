-- A match is a label of the programme and an open window.
use Rattle.matching.proofs.Sights.{match_named}
use Rattle.matching.proofs.seeing.matches.Goals as goal

pub returns-then-named : goal.returns-then-named
returns-then-named c = rw (match_named, ← c.named.ensures, c.if-named.true) c.open_at.ensures

pub returns-else-named : goal.returns-else-named
returns-else-named c = rw (match_named, ← c.named.ensures, c.if-named.false)
