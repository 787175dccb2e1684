-- `closed`: where there is room, `close` stores the last line.
use Rattle.std.proofs.Common.{◌∙◌, sym}
use Rattle.sheet.proofs.Rooms.{closed}
use Rattle.play.proofs.closed.Goals as goal

pub unwrap-requires : goal.unwrap-requires
unwrap-requires c =
    let a = c.args in
    rw c.close.ensures.0 (closed a.ended a.out.now a.at a.sheet c.requires).0

pub returns : goal.returns
returns c =
    let a = c.args in
    rw (sym c.close.ensures.0 ∙ c.unwrap.ensures) at (closed a.ended a.out.now a.at a.sheet c.requires).1
