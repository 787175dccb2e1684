-- `probe_triplet` takes the decoded word apart.
use borrow.Author.Rules.{rules}
use mathlib.Core.Path.{sym, ap, ◌∙◌}
use Rattle.triplet.specs.Word.{word_of}
use Rattle.triplet.proofs.Words.{only_mended}
use Rattle.probe.specs.Plain.{triplet_number}
use Rattle.probe.proofs.probe_triplet.Goals as goal

-- a value has eighteen bits
pub overflow_add-result : goal.overflow_add-result
overflow_add-result c =
    let a = c.args in
    let m = only_mended (word_of a.a a.b a.c) _ (sym c.decode-t.ensures ∙ c.in-Mended.is) in
    search rules

pub returns-in-Damaged : goal.returns-in-Damaged
returns-in-Damaged c = ap triplet_number (sym c.in-Damaged.is ∙ c.decode-t.ensures)

pub returns-in-Clean : goal.returns-in-Clean
returns-in-Clean c = ap triplet_number (sym c.in-Clean.is ∙ c.decode-t.ensures)

pub returns-in-Mended : goal.returns-in-Mended
returns-in-Mended c = ap triplet_number (sym c.in-Mended.is ∙ c.decode-t.ensures)
