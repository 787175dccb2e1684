-- `write_from` answers as the writer does, where it is given all the fields.
use Rattle.std.proofs.Common.{ℕ, ◌*◌, sym, ap, ◌∙◌}
use Rattle.programmes.specs.Written.{written_answer}
use Rattle.fields.proofs.Through.{write_stopped, written}
use Rattle.fields.proofs.write_from.Goals as goal

pub returns-then-fields-ne1650-clause-value : goal.returns-then-fields-ne1650-clause-value
returns-then-fields-ne1650-clause-value c = let a = c.args in write_stopped a.fields.now a.buf.now c.if-fields-ne1650.true

pub returns-in-Ok-clause-value : goal.returns-in-Ok-clause-value
returns-in-Ok-clause-value c =
    let a = c.args in
    let e = sym (ap written_answer c.in-Ok.is) ∙ c.write.ensures.0 in
    written a.fields.now a.buf.now c.if-fields-ne1650.false c.page_of-page.ensures (e, c.write.ensures.1)

pub returns-in-Err-clause-value : goal.returns-in-Err-clause-value
returns-in-Err-clause-value c =
    let a = c.args in
    let e = sym (ap written_answer c.in-Err.is) ∙ c.write.ensures.0 in
    let w = written a.fields.now a.buf.now c.if-fields-ne1650.false c.page_of-page.ensures (e, c.write.ensures.1) in
    (ap (λ (n : ℕ). n * 256) c.number.ensures ∙ w.0, w.1)
