-- `probe_write` answers as the writer does, where it is given thirteen bytes.
use mathlib.Core.Path.{◌∙◌}
use Rattle.fields.proofs.Through.{as_both}
use Rattle.probe.proofs.Through.{write_stopped, written}
use Rattle.probe.proofs.probe_write.Goals as goal

pub returns-then-fields-ne13-clause-value : goal.returns-then-fields-ne13-clause-value
returns-then-fields-ne13-clause-value c = let a = c.args in as_both a.buf.now (write_stopped a.fields.now a.buf.now c.if-fields-ne13.true)

pub returns-clause-value : goal.returns-clause-value
returns-clause-value c =
    let a = c.args in
    let w = c.write.ensures in
    written a.fields.now a.buf.now c.if-fields-ne13.false c.label_of.ensures (c.written_number.ensures ∙ w.0) w.1
