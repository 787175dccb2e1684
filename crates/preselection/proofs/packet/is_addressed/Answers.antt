-- `is_addressed`: the tests of the definition, on the values of three bytes and of the first packet's first.
use mathlib.Core.Path.{refl}
use Rattle.programmes.specs.Page.{is_addressed}
use Rattle.preselection.proofs.packet.is_addressed.Goals as goal

pub returns : goal.returns
unfolding is_addressed
returns c =
    rw (c.value_at-first.ensures, c.value_at-magazine.ensures, c.value_at-packet.ensures, c.value_at-designation.ensures) refl
