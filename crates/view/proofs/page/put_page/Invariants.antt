-- `put_page`'s loop: the lines of the programmes passed are printed.
use Rattle.std.proofs.Common.{take}
use Rattle.text.specs.Printed.{Printed}
use Rattle.view.specs.View.{programme_lines}
use Rattle.view.proofs.page.put_page.Given as goal

abbrev pub invariant-loop-q : goal.invariant-loop-q
invariant-loop-q l = Printed l.initial.out (programme_lines (take l.q-index l.shown)) l.out
