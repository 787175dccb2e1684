-- What is claimed of the table: each promise allows one outcome. Proved in proofs/Proved.antt.
use Rattle.std.specs.Prelude.{ℕ, Bool, ◌≡◌}
use Rattle.answer.specs.Answer.{Unique}
use Rattle.figures.specs.declared.Found.{Found}
use Rattle.table.specs.declared.Words.{Words}
use Rattle.table.specs.declared.Table.{Table}
use Rattle.table.specs.Table.{agreed, table_start, after_format, titled_at, with_code}

pub record Laws : Type 0 where
  pub agree_unique : (w : Words) (sum : ℕ) → Unique (λ (r : Bool). r ≡ agreed w sum)
  pub new_unique : Unique (λ r. r ≡ table_start)
  pub format_unique : (t : Table) (f : Found) → Unique (λ r. r ≡ after_format t f)
  pub titled_unique : (t : Table) (row column : ℕ) → Unique (λ r. r ≡ titled_at t row column)
  pub coded_unique : (t : Table) (c : ℕ) → Unique (λ r. r ≡ with_code t c)
