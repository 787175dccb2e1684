-- What is claimed of the groups taken one at a time: it is what they mean. Proved in proofs/Proved.antt.
use Rattle.std.specs.Prelude.{◌≡◌, List, []}
use Rattle.answer.specs.Answer.{Unique}
use Rattle.group.specs.declared.Group.{Group}
use Rattle.programmes.specs.Meaning.{active, nothing, lacks, programmes_in}
use Rattle.sequence.specs.declared.State.{State}
use Rattle.sequence.specs.Sequence.{start, state_after, state_from, change_by, programmes_from}

pub record Laws : Type 0 where
  -- the programmes that a page's groups make one at a time are those that they mean
  pub made : (gs : List Group) → programmes_from start [] gs ≡ programmes_in nothing (active gs)
  -- and a group lacks its source or date exactly where one does
  pub lacking : (gs : List Group) → (state_from start gs).lacking ≡ lacks nothing (active gs)
  -- each call's promise allows one outcome
  pub new_unique : Unique (λ r. r ≡ start)
  pub next_unique : (s : State) (g : Group) → Unique (λ r. r ≡ state_after s g)
  pub change_unique : (s : State) (g : Group) → Unique (λ r. r ≡ change_by s g)
