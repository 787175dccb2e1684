-- Groups taken after others.
use mathlib.Core.Path.{◌≡◌, refl}
use mathlib.Core.List.{List, [], ◌∷◌, ◌++◌}
use Rattle.group.specs.declared.Group.{Group}
use Rattle.programmes.specs.declared.Programme.{Programme}
use Rattle.sequence.specs.declared.State.{State}
use Rattle.sequence.specs.Sequence.{state_after, state_from, change_by, changed, programmes_from}

pub state_append : (s : State) (gs hs : List Group) → state_from s (gs ++ hs) ≡ state_from (state_from s gs) hs
unfolding state_from
state_append s [] hs = refl
state_append s (g ∷ gs) hs = state_append (state_after s g) gs hs

pub programmes_append : (s : State) (qs : List Programme) (gs hs : List Group) →
    programmes_from s qs (gs ++ hs) ≡ programmes_from (state_from s gs) (programmes_from s qs gs) hs
unfolding state_from programmes_from
programmes_append s qs [] hs = refl
programmes_append s qs (g ∷ gs) hs = programmes_append (state_after s g) (changed (change_by s g) qs) gs hs

-- one more
pub state_more : (s : State) (gs : List Group) (g : Group) → state_from s (gs ++ (g ∷ [])) ≡ state_after (state_from s gs) g
unfolding state_from
state_more s gs g = state_append s gs (g ∷ [])

pub programmes_more : (s : State) (qs : List Programme) (gs : List Group) (g : Group) →
    programmes_from s qs (gs ++ (g ∷ [])) ≡ changed (change_by (state_from s gs) g) (programmes_from s qs gs)
unfolding programmes_from
programmes_more s qs gs g = programmes_append s qs gs (g ∷ [])
