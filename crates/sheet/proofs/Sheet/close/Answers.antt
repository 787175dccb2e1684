-- `close`: the last line where there is room, and else nothing changes.
use Rattle.std.proofs.Common.{◌≡◌, refl, sym, ◌∙◌}
use Rattle.items.specs.Pieces.{whole_at}
use Rattle.sheet.specs.Pieces.{end_told, closed_by, out_closed}
use Rattle.sheet.proofs.Sheet.close.Goals as goal

pub returns-then-has_room : goal.returns-then-has_room
unfolding closed_by out_closed end_told
returns-then-has_room c =
    let e : c.whole.result ≡ whole_at c.args.ended c.args.self.split = c.whole.ensures in
    rw (
      sym c.has_room.ensures ∙ c.if-has_room.true,
      ← e,
      c.letter-letter.ensures c.args.self.desk,
      ← c.live.ensures,
      c.last_line.ensures.0,
    )
    (refl, c.last_line.ensures.1)

pub returns : goal.returns
unfolding closed_by out_closed
returns c = rw (sym c.has_room.ensures ∙ c.if-has_room.false) (refl, refl)
