-- `probe_triplet_word` takes the coded word apart.
use mathlib.Core.Path.{sym, ap, ◌∙◌}
use Rattle.triplet.specs.Word.{coded_answer}
use Rattle.fields.specs.Fields.{plain}
use Rattle.probe.proofs.probe_triplet_word.Goals as goal

pub returns-in-None : goal.returns-in-None
returns-in-None c = ap (plain 16777216) (sym (ap coded_answer c.in-None.is) ∙ c.encode.ensures)

pub returns-in-Some : goal.returns-in-Some
returns-in-Some c = ap (plain 16777216) (sym (ap coded_answer c.in-Some.is) ∙ c.encode.ensures)
