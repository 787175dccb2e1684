-- `Sights.sight_look` carries it: the window is added at the end. Where no place has the PIL, `sight_without` does.
use mathlib.Core.Path.{sym, ◌∙◌}
use Rattle.matching.proofs.Sights.{sight_look, sight_nothing, sight_without}
use Rattle.matching.proofs.seeing.sight_of.Goals as goal

pub returns-in_default : goal.returns-in_default
returns-in_default c = let a = c.args in sym (sight_without a.s a.places a.b (sym c.first_with.ensures ∙ c.in_default.is))

pub returns-in-Nothing : goal.returns-in-Nothing
returns-in-Nothing c = sym (sight_nothing _ _ _ (sym c.look.ensures ∙ c.in-Nothing.is))

pub returns-in_default-look : goal.returns-in_default-look
returns-in_default-look c = rw (sight_look, ← c.look.ensures) c.if_open.ensures
