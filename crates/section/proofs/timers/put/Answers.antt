-- `put`: the bytes are stored at their place.
use borrow.Author.Rules.{rules}
use Rattle.held.proofs.Keeping.{stored}
use Rattle.section.proofs.timers.put.Goals as goal

pub returns : goal.returns
returns c =
    let a = c.args in
    stored a.bytes a.entry c.copy_from_slice.new.self a.at 9 (search rules) (search rules) c.copy_from_slice.ensures.after
