-- One outcome for a promise that is an equation.
use mathlib.Core.Path.{◌≡◌, sym, ap, ◌∙◌}
use Rattle.answer.specs.Answer.{Unique}

pub equation : {A : Type 0} (d : A) → Unique (λ r. r ≡ d)
equation d r s p q = p ∙ sym q

-- through a definition of the answer's numbers that can be turned back
pub numbered : {A B : Type 0} (f : A → B) (back : B → A) → ((a : A) → back (f a) ≡ a) → (d : B) → Unique (λ r. f r ≡ d)
numbered f back e d r s p q = sym (e r) ∙ ap back (p ∙ sym q) ∙ e s

-- of an answer and what is left of a buffer, each by itself
pub paired : {A B : Type 0} (P : A → Type 0) (Q : B → Type 0) → Unique P → Unique Q → Unique {A = A × B} (λ o. P o.0 × Q o.1)
paired P Q u v r s p q = λ i. (u r.0 s.0 p.0 q.0 i, v r.1 s.1 p.1 q.1 i)
