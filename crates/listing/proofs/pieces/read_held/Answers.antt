-- `read_held`: the bytes held, as the reader reads them.
use borrow.Author.Rules.{rules}
use mathlib.Core.Path.{◌≡◌, sym}
use lib.Seq.{length-take-le}
use Rattle.listing.specs.Pieces.{held_in}
use Rattle.listing.proofs.pieces.read_held.Goals as goal

pub slice_bounds-read-end : goal.slice_bounds-read-end
slice_bounds-read-end c = sym (length-take-le _ _ (search rules))

pub returns : goal.returns
returns c =
    let a = c.args in
    let end : c.least-end.result ≡ held_in a.n = c.least-end.ensures in
    rw (← end) c.read.ensures.result_value
