-- By cases of the copy; `Steps` says why one that is not live need not ask for its window.
use Prim.Native.Nat.{ℕ}
use mathlib.Core.Path.{◌≡◌, sym, ◌∙◌}
use mathlib.Core.List.{List}
use mathlib.Core.Logic.{◌⊎◌, inl, inr}
use Rattle.places.specs.declared.Stamped.{Stamped}
use Rattle.matching.specs.declared.Booking.{Booking}
use Rattle.matching.specs.Matching.{sight_of}
use Rattle.rule.specs.declared.Copy.{Copy}
use Rattle.rule.specs.declared.Copy.TheVariants.{Waiting, ByTheClock}
use Rattle.rule.specs.Rule.{not_live, next_copy}
use Rattle.rule.proofs.Steps.{next_waiting, next_prepared, next_by_clock}
use Rattle.rule.proofs.copies.next_copy.Goals as goal

one_of_two : (s : ℕ) (ls : List Stamped) (b : Booking) (c : Copy) → (c ≡ Waiting) ⊎ (c ≡ ByTheClock) →
    next_copy s ls b c ≡ not_live s ls b (sight_of s ls b)
one_of_two s ls b c (inl e) = rw e (next_waiting s ls b)
one_of_two s ls b c (inr e) = rw e (next_by_clock s ls b)

pub returns-in-Free : goal.returns-in-Free
unfolding next_copy
returns-in-Free c = rw c.in-Free.is

pub returns-in-Waiting : goal.returns-in-Waiting
returns-in-Waiting c = let a = c.args in c.from_waiting.ensures ∙ sym (one_of_two a.s a.places a.b a.c c.in-Waiting.is)

pub returns-in-Prepared : goal.returns-in-Prepared
returns-in-Prepared c = rw (c.in-Prepared.is, next_prepared) c.from_prepared.ensures
