-- `probe_decode` takes the decoded nibble apart.
use borrow.Author.Rules.{rules}
use mathlib.Core.Path.{sym, ap, ◌∙◌}
use Rattle.hamming.proofs.Nearest.{only_mended}
use Rattle.probe.specs.Plain.{nibble_number}
use Rattle.probe.proofs.probe_decode.Goals as goal

-- a value has four bits
pub overflow_add-result : goal.overflow_add-result
overflow_add-result c =
    let m = only_mended c.args.b _ (sym c.decode.ensures ∙ c.in-Mended.is) in
    search rules

pub returns-in-Damaged : goal.returns-in-Damaged
returns-in-Damaged c = ap nibble_number (sym c.in-Damaged.is ∙ c.decode.ensures)

pub returns-in-Clean : goal.returns-in-Clean
returns-in-Clean c = ap nibble_number (sym c.in-Clean.is ∙ c.decode.ensures)

pub returns-in-Mended : goal.returns-in-Mended
returns-in-Mended c = ap nibble_number (sym c.in-Mended.is ∙ c.decode.ensures)
