-- `taken`: where there is room, `feed` takes the piece.
use Rattle.std.proofs.Common.{◌∙◌, sym}
use Rattle.sheet.proofs.Rooms.{fed}
use Rattle.play.proofs.taken.Goals as goal

pub unwrap-requires : goal.unwrap-requires
unwrap-requires c =
    let a = c.args in
    rw c.feed.ensures.value.0 (fed a.piece.now a.out.now a.at a.sheet c.requires).0

pub returns : goal.returns
returns c =
    let a = c.args in
    rw (sym c.feed.ensures.value.0 ∙ c.unwrap.ensures) at (fed a.piece.now a.out.now a.at a.sheet c.requires).1
