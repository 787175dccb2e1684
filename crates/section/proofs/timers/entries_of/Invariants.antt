-- `entries_of`'s loop: the timers of the programmes passed are entered.
use mathlib.Core.Path.{◌≡◌}
use lib.ListN.{take}
use Rattle.section.specs.Section.{timers_of}
use Rattle.section.specs.Taken.{entered}
use Rattle.section.proofs.timers.entries_of.Given as goal

abbrev pub invariant-loop-q : goal.invariant-loop-q
invariant-loop-q l = l.had ≡ entered l.tuner (timers_of (take l.q-index l.q-items))
