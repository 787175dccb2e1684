-- `put`: the bytes are stored at their place.
use borrow.Author.Rules.{rules}
use Rattle.viewed.proofs.Stored.{stored_at}
use Rattle.viewed.proofs.programme.put.Goals as goal

pub returns : goal.returns
returns c =
    let a = c.args in
    stored_at a.out.now a.bytes c.copy_from_slice.new.self a.at 16 (search rules) (search rules) c.copy_from_slice.ensures.after
