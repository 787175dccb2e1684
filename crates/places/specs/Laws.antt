-- What is claimed of the places, over the definitions of Places alone. Proved in proofs/Proved.antt.
use Rattle.std.specs.Prelude.{ℕ, ◌≡◌, true, List, get_or, set}
use Rattle.answer.specs.Answer.{Unique}
use Rattle.answer.specs.Lists.{some}
use Rattle.label.specs.declared.Label.{Label}
use Rattle.label.specs.declared.pil.Service.TheVariants.{Continuation}
use Rattle.label.specs.Pil.{service_of}
use Rattle.places.specs.declared.Stamped.{Stamped}
use Rattle.places.specs.Places.{no_label, stands, stamped, heard_at, labels_fail}

pub record Laws : Type 0 where
  -- 'other service codes and no-specific-value stand as labels'
  pub codes_stand : (t : ℕ) (l : Label) (old : Stamped) → (service_of l.pil ≡ Continuation → ⊥) →
      (heard_at t l old ≡ stamped t l) × (stands t (heard_at t l old) ≡ true)
  -- each call's promise allows one outcome
  pub no_label_unique : Unique (λ r. r ≡ no_label)
  pub stands_unique : (s : ℕ) (l : Stamped) → Unique (λ r. r ≡ stands s l)
  pub heard_at_unique : (t : ℕ) (l : Label) (old : Stamped) → Unique (λ r. r ≡ heard_at t l old)
  pub label_at_unique : (ls : List Stamped) (p : ℕ) → Unique (λ r. r ≡ get_or ls p no_label)
  pub put_label_unique : (ls : List Stamped) (p : ℕ) (l : Stamped) → Unique (λ r. r ≡ set ls p l)
  pub any_stands_unique : (s : ℕ) (ls : List Stamped) → Unique (λ r. r ≡ some (stands s) ls)
  pub labels_fail_unique : (s : ℕ) (ls : List Stamped) (tuner : ℕ) → Unique (λ r. r ≡ labels_fail s ls tuner)
