-- What is claimed of the triplets of programmes: each promise allows one outcome. Proved in proofs/Proved.antt.
use Rattle.std.specs.Prelude.{◌≡◌}
use Rattle.answer.specs.Answer.{Unique}
use Rattle.answer.specs.Lists.{some}
use Rattle.programmes.specs.declared.Programme.{Programme}
use Rattle.programmes.specs.declared.Page.{Page}
use Rattle.programmes.specs.Written.{outside, programmes_of}
use Rattle.sending.specs.Sending.{words_of}

pub record Laws : Type 0 where
  pub outside_unique : (q : Programme) → Unique (λ r. r ≡ outside q)
  pub any_outside_unique : (page : Page) → Unique (λ r. r ≡ some outside (programmes_of page))
  pub words_unique : (page : Page) → Unique (λ r. r ≡ words_of (programmes_of page))
