-- What is claimed of the rule for one timer, over the definitions of Rule alone. Proved in proofs/Proved.antt.
use Rattle.std.specs.Prelude.{ℕ, ◌≡◌, List}
use Rattle.answer.specs.Answer.{Unique}
use Rattle.places.specs.declared.Stamped.{Stamped}
use Rattle.rule.specs.declared.Copy.{Copy}
use Rattle.rule.specs.declared.Timer.{Timer}
use Rattle.rule.specs.Rule.{next_timer, held, by_labels, is_live}

pub record Laws : Type 0 where
  -- each call's promise allows one outcome
  pub next_timer_unique : (s : ℕ) (ls : List Stamped) (t : Timer) → Unique (λ r. r ≡ next_timer s ls t)
  pub is_held_unique : (c : Copy) → Unique (λ r. r ≡ held c)
  pub is_by_labels_unique : (c : Copy) → Unique (λ r. r ≡ by_labels c)
  pub is_live_unique : (c : Copy) → Unique (λ r. r ≡ is_live c)
