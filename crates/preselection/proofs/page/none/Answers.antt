use mathlib.Core.Path.{refl}
use Rattle.programmes.specs.Page.{most, blank, page_of}
use Rattle.answer.proofs.Filled.{filled_none}
use Rattle.preselection.proofs.page.none.Goals as goal

pub returns : goal.returns
unfolding page_of
returns c = rw (c.blank.ensures, filled_none blank most) refl
