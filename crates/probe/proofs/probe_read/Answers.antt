-- `probe_read` answers as the reader does, where its buffer has fourteen bytes.
use mathlib.Core.Path.{sym, ap, ◌∙◌}
use Rattle.label.specs.Packet.{reading_answer}
use Rattle.fields.proofs.Through.{as_both}
use Rattle.probe.proofs.Through.{read_stopped, read_through}
use Rattle.probe.proofs.probe_read.Goals as goal

pub returns-then-out-ne14-clause-value : goal.returns-then-out-ne14-clause-value
returns-then-out-ne14-clause-value c = let a = c.args in as_both a.out.now (read_stopped a.bytes.now a.out.now c.if-out-ne14.true)

pub returns-in-Err-clause-value : goal.returns-in-Err-clause-value
returns-in-Err-clause-value c =
    let a = c.args in
    let e = sym (ap reading_answer c.in-Err.is) ∙ c.read.ensures.result_value in
    let t = as_both a.out.now (read_through a.bytes.now a.out.now _ c.if-out-ne14.false e) in
    (c.number.ensures ∙ t.0, t.1)

pub returns-in-Ok-clause-value : goal.returns-in-Ok-clause-value
returns-in-Ok-clause-value c =
    let a = c.args in
    let e = sym (ap reading_answer c.in-Ok.is) ∙ c.read.ensures.result_value in
    let t = as_both a.out.now (read_through a.bytes.now a.out.now _ c.if-out-ne14.false e) in
    (t.0, c.fill.ensures ∙ t.1)
