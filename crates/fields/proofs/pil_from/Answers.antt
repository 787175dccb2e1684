-- `pil_from` takes the PIL apart, where it is given sixteen bytes.
use Rattle.std.proofs.Common.{ap, ◌∙◌}
use Rattle.programmes.specs.Timer.{pil_of}
use Rattle.fields.specs.Fields.{plain, pil_number}
use Rattle.fields.proofs.Through.{pil_stopped, pil_through}
use Rattle.fields.proofs.pil_from.Goals as goal

pub returns-then-fields-ne16-clause-value : goal.returns-then-fields-ne16-clause-value
returns-then-fields-ne16-clause-value c = ap (plain 16777216) (pil_stopped c.args.fields.now c.if-fields-ne16.true)

pub returns-clause-value : goal.returns-clause-value
returns-clause-value c =
    let f = c.args.fields.now in
    let e = ap pil_number (c.pil_of.ensures ∙ ap pil_of c.programme_at.ensures) in
    pil_through f c.if-fields-ne16.false (c.unwrap_or.ensures ∙ e)
