-- `read_into` answers as the reader does, where its buffer has room for the programmes.
use mathlib.Core.Path.{sym, ap, ◌∙◌}
use Rattle.answer.specs.Answer.{number, after}
use Rattle.preview.specs.Taken.{reading_answer}
use Rattle.viewed.proofs.Through.{told_bytes, read_stopped, read_through, read_few}
use Rattle.viewed.proofs.read_into.Goals as goal

pub returns-then-out-ne385-clause-read_into : goal.returns-then-out-ne385-clause-read_into
returns-then-out-ne385-clause-read_into c = let a = c.args in read_stopped a.page.now a.out.now c.if-out-ne385.true

pub returns-in-Err-clause-read_into : goal.returns-in-Err-clause-read_into
returns-in-Err-clause-read_into c =
    let a = c.args in
    let told = sym (ap (λ r. told_bytes (reading_answer r)) c.in-Err.is) in
    read_through a.page.now a.out.now c.read.result c.read.ensures.read_as c.if-out-ne385.false (c.number.ensures ∙ ap number told) (ap (after a.out.now) told)

pub fill-requires : goal.fill-requires
fill-requires c = (c.if-out-ne385.false, read_few c.args.page.now c.read.ensures.read_as c.in-Ok.is)

pub returns-in-Ok-clause-read_into : goal.returns-in-Ok-clause-read_into
returns-in-Ok-clause-read_into c =
    let a = c.args in
    let told = sym (ap (λ r. told_bytes (reading_answer r)) c.in-Ok.is) in
    read_through a.page.now a.out.now c.read.result c.read.ensures.read_as c.if-out-ne385.false (ap number told) (c.fill.ensures ∙ ap (after a.out.now) told)
