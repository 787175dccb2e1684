-- `is_full`: no byte is left.
use mathlib.Core.Path.{◌∙◌}
use Rattle.section.proofs.Left.{full_left}
use Rattle.section.proofs.AskedCollecting.is_full.Goals as goal

pub returns : goal.returns
returns c = c.full.ensures ∙ full_left c.args.self
