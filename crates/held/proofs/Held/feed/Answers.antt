-- `feed`: what is stored is what finds room.
use borrow.Author.Rules.{rules}
use Rattle.held.proofs.Keeping.{all_kept}
use Rattle.held.proofs.Held.feed.Goals as goal

pub returns-clause-value : goal.returns-clause-value
returns-clause-value g c =
    let a = c.args in
    all_kept g.row.N a.piece.now a.self c.least-start.result c.least-more.result c.copy_from_slice.new.self (search rules) c.least-start.ensures
    c.least-more.ensures c.copy_from_slice.ensures.after
