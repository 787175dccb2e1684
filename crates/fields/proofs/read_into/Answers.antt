-- `read_into` answers as the reader does, where its buffer has room for the fields.
use Rattle.std.proofs.Common.{sym, ap, ◌∙◌}
use Rattle.programmes.specs.Page.{reading_answer}
use Rattle.fields.proofs.Through.{as_both, read_stopped, read_told, read_few}
use Rattle.fields.proofs.read_into.Goals as goal

pub returns-then-out-ne1649-clause-value : goal.returns-then-out-ne1649-clause-value
returns-then-out-ne1649-clause-value c =
    let a = c.args in
    as_both a.out.now (read_stopped a.page.now a.out.now c.if-out-ne1649.true)

pub fill-requires : goal.fill-requires
fill-requires c = (c.if-out-ne1649.false, read_few c.args.page.now (sym (ap reading_answer c.in-Ok.is) ∙ c.read.ensures.result_value))

pub returns-in-Ok-clause-value : goal.returns-in-Ok-clause-value
returns-in-Ok-clause-value c =
    let a = c.args in
    let t = read_told a.page.now a.out.now c.if-out-ne1649.false (sym (ap reading_answer c.in-Ok.is) ∙ c.read.ensures.result_value) in
    (t.0, c.fill.ensures ∙ t.1)

pub returns-in-Err-clause-value : goal.returns-in-Err-clause-value
returns-in-Err-clause-value c =
    let a = c.args in
    let t = read_told a.page.now a.out.now c.if-out-ne1649.false (sym (ap reading_answer c.in-Err.is) ∙ c.read.ensures.result_value) in
    (c.number.ensures ∙ t.0, t.1)
