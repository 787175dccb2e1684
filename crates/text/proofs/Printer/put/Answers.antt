-- A byte that finds room is stored, and one that finds none leaves all as it was.
use Rattle.std.specs.Prelude.{[], ◌∷◌, ◌≤◌, length}
use Rattle.std.proofs.Common.{rules, refl, sym}
use Rattle.text.specs.Printed.{Follows}
use Rattle.text.proofs.Storing.{place_one, place_stays, sets_past}
use Rattle.text.proofs.Printer.put.Goals as goal

pub returns-then-self : goal.returns-then-self
unfolding Follows
returns-then-self c = (refl, (refl, place_one (length c.args.self.now.buffer.now) c.args.self.now.at (search rules)))

pub returns-else-self : goal.returns-else-self
unfolding Follows
returns-else-self c =
    let past : length c.args.self.now.buffer.now ≤ c.args.self.now.at = search rules in
    let buffer = sym (sets_past c.args.self.now.buffer.now c.args.self.now.at (c.args.b ∷ []) past) in
    let place = sym (place_stays (length c.args.self.now.buffer.now) c.args.self.now.at 1 past) in
    (refl, (buffer, place))
