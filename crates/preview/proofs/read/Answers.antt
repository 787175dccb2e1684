-- `read` goes through the rows; what it keeps is the table of those before row r. Each exit is a row of the answer.
use native.Mathlib.Omega.{arith}
use mathlib.Core.Path.{◌≡◌, sym, ◌∙◌}
use Rattle.preview.specs.declared.Refusal.TheVariants.{Length, Unreadable, WrongWord}
use Rattle.preview.proofs.Whole.{none_held, row_more, refused_as, answer_23, Rest, unreadable, disagreed, room, read_whole}
use Rattle.preview.proofs.read.Goals as goal
use Rattle.preview.proofs.read.Goals.{After-is_readable}

-- what the rows have left
rest : (c : After-is_readable) → Rest c.args.bytes.now c.loop-r.t c.is_readable.result
rest c =
    let all : c.loop-r.r ≡ 24 = omega (arith, c.loop-r-test.false) in
    record { sized = c.if-bytes-ne960.false; held = rw all at c.loop-r.invariant; known = c.is_readable.ensures }

pub returns-then-bytes-ne960-clause-read_as : goal.returns-then-bytes-ne960-clause-read_as
returns-then-bytes-ne960-clause-read_as c =
    let page = c.args.bytes.now in
    refused_as _ Length (answer_23 page c.if-bytes-ne960.true)

pub loop-r-init : goal.loop-r-init
loop-r-init c = c.new-t.ensures ∙ none_held _

pub loop-r-preserved : goal.loop-r-preserved
loop-r-preserved c = row_more _ _ c.loop-r.invariant c.take_row-t.ensures

pub returns-then-t-is_readable-clause-read_as : goal.returns-then-t-is_readable-clause-read_as
returns-then-t-is_readable-clause-read_as c =
    refused_as _ Unreadable (unreadable (rest (goal.at.returns-then-t-is_readable-clause-read_as c).After-is_readable) c.if-t-is_readable.true)

pub returns-then-not-agree-clause-read_as : goal.returns-then-not-agree-clause-read_as
returns-then-not-agree-clause-read_as c =
    let differs = sym c.agree.ensures ∙ c.if-not-agree.true in
    refused_as _ WrongWord (disagreed (rest (goal.at.returns-then-not-agree-clause-read_as c).After-is_readable) c.if-t-is_readable.false differs)

pub page_of-requires : goal.page_of-requires
page_of-requires c = room (rest (goal.at.page_of-requires c).After-is_readable) c.if-t-is_readable.false

pub returns-clause-read_as : goal.returns-clause-read_as
returns-clause-read_as c =
    let same = sym c.agree.ensures ∙ c.if-not-agree.false in
    read_whole (rest (goal.at.returns-clause-read_as c).After-is_readable) c.if-t-is_readable.false same c.page_of.result c.page_of.ensures
