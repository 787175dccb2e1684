-- Texts printed one after the other are printed at once, and the buffer keeps its length.
use Rattle.std.specs.Prelude.{ℕ, ◌+◌, ◌≤◌, ◌≡◌, List, [], ◌++◌, length}
use Rattle.std.proofs.Common.{ap, refl, sym, ◌∙◌}
use lib.ListN.{length-append}
use Rattle.answer.proofs.Texts.{no_digit, last_digit, more_digits}
use lib.Seq.{length-sets}
use Rattle.answer.specs.Text.{Stored}
use Rattle.text.specs.declared.Printer.{Printer}
use Rattle.text.specs.Printed.{Follows}
use Rattle.text.proofs.Storing.{sets_after, place_twice, place_fits, place_none}

pub same_length : (p q : Printer) (x : List ℕ) → Follows p x q → length q.buffer.now ≡ length p.buffer.now
unfolding Follows
same_length p q x d = ap length d.0 ∙ length-sets p.buffer.now p.at x

pub then : (p q r : Printer) (x y : List ℕ) → Follows p x q → Follows q y r → Follows p (x ++ y) r
unfolding Follows
then p q r x y d e = (
  e.0 ∙ rw (d.0, d.1) (sets_after p.buffer.now p.at x y),
  e.1 ∙ rw (same_length p q x d, d.1, length-append x y) (place_twice (length p.buffer.now) p.at (length x) (length y)),
)

-- and a third one
pub then_third : (p q r s : Printer) (x y z : List ℕ) → Follows p x q → Follows q y r → Follows r z s → Follows p (x ++ (y ++ z)) s
then_third p q r s x y z d e f = then p q s x (y ++ z) d (then q r s y z e f)

-- nothing printed
pub nothing : (p : Printer) → Follows p [] p
unfolding Follows
nothing p = (refl, place_none (length p.buffer.now) p.at)

-- what finds room is stored whole
pub stored : (p q : Printer) (x : List ℕ) → p.at + length x ≤ length p.buffer.now → Follows p x q → Stored p.buffer.now p.at x q.at q.buffer.now
unfolding Follows
stored p q x h d = (d.1 ∙ place_fits (length p.buffer.now) p.at (length x) h, d.0)

-- a promise allows one outcome
pub one_outcome : (p : Printer) (x : List ℕ) (q r : Printer) → Follows p x q → Follows p x r → (q.at ≡ r.at) × (q.buffer.now ≡ r.buffer.now)
unfolding Follows
one_outcome p x q r d e = (d.1 ∙ sym e.1, d.0 ∙ sym e.0)

-- what proves a writer of several texts
pub ruleset printing = (then, then_third, nothing)

-- what proves a writer of digits, by the last of them
pub ruleset digits = (printing, no_digit, last_digit, more_digits)
