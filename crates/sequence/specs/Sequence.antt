-- A page's data groups taken one at a time, as the reader takes them. What they mean is said in `programmes`, Meaning.antt; the laws
-- say that this is the same.
use Rattle.std.specs.Prelude.{ℕ, Bool, false, cond, not, ◌&&◌, ◌||◌, List, [], ◌∷◌, ◌++◌, Option, None, Some}
use Rattle.std.specs.Option.{is_some}
use Rattle.group.specs.declared.Group.{Group}
use Rattle.group.specs.declared.Group.TheVariants as group
use Rattle.programmes.specs.declared.Finish.{Finish}
use Rattle.programmes.specs.declared.Finish.TheVariants as finish
use Rattle.programmes.specs.declared.Programme.{Programme}
use Rattle.programmes.specs.declared.InForce.{InForce}
use Rattle.programmes.specs.Meaning.{is_terminator, is_start, nothing, in_force, programme_by}
use Rattle.sequence.specs.declared.Change.{Change}
use Rattle.sequence.specs.declared.Change.TheVariants.{Nothing, Begins, Finishes, InSeries}
use Rattle.sequence.specs.declared.State.{State}

-- ── the state ──────────────────────────────────────────────────────────────────────────────────────────────────────
abbrev pub start : State
start = record { force = nothing; held = group.Other; ended = false; lacking = false }

-- a Starting or Finishing Hours group is held until the next group
abbrev pub held_after : Group → Group → Group
held_after held group.Other = held
held_after held (group.Source c s) = group.Other
held_after held (group.Date m d) = group.Other
held_after held (group.Offset r o) = group.Other
held_after held (group.Start r h c) = group.Start r h c
held_after held (group.Minutes c m) = group.Other
held_after held (group.Finish r h d) = group.Finish r h d
held_after held (group.Series k) = group.Other
held_after held group.Terminator = group.Other

unfoldable pub state_after : State → Group → State
state_after s g =
    cond s.ended s (record {
      force = in_force s.force g;
      held = held_after s.held g;
      ended = is_terminator g;
      lacking = s.lacking || (is_start g && not (is_some s.force.source && is_some s.force.date));
    })

unfoldable pub state_from : State → List Group → State
state_from s [] = s
state_from s (g ∷ gs) = state_from (state_after s g) gs

-- ── what a group does to the programmes ────────────────────────────────────────────────────────────────────────────
abbrev pub finish_of : ℕ → ℕ → Bool → Finish
finish_of hour minute duration = cond duration (finish.Duration hour minute) (finish.Time hour minute)

abbrev pub pair_by : InForce → Group → ℕ → ℕ → Change
pair_by f group.Other column minute = Nothing
pair_by f (group.Source c s) column minute = Nothing
pair_by f (group.Date m d) column minute = Nothing
pair_by f (group.Offset r o) column minute = Nothing
pair_by f (group.Start r h c) column minute = Begins (programme_by f r h c column minute finish.Absent None)
pair_by f (group.Minutes c m) column minute = Nothing
pair_by f (group.Finish r h d) column minute = Finishes (finish_of h minute d)
pair_by f (group.Series k) column minute = Nothing
pair_by f group.Terminator column minute = Nothing

abbrev pub change_of : InForce → Group → Group → Change
change_of f held group.Other = Nothing
change_of f held (group.Source c s) = Nothing
change_of f held (group.Date m d) = Nothing
change_of f held (group.Offset r o) = Nothing
change_of f held (group.Start r h c) = Nothing
change_of f held (group.Minutes c m) = pair_by f held c m
change_of f held (group.Finish r h d) = Nothing
change_of f held (group.Series k) = InSeries k
change_of f held group.Terminator = Nothing

unfoldable pub change_by : State → Group → Change
change_by s g = cond s.ended Nothing (change_of s.force s.held g)

-- ── the programmes so far ──────────────────────────────────────────────────────────────────────────────────────────
abbrev pub with_finish : Finish → Programme → Programme
with_finish x q = record {
  row = q.row;
  column = q.column;
  day = q.day;
  month = q.month;
  hour = q.hour;
  minute = q.minute;
  finish = x;
  country = q.country;
  source = q.source;
  offset = q.offset;
  controlled = q.controlled;
  series = q.series;
}

abbrev pub with_series : Option ℕ → Programme → Programme
with_series x q = record {
  row = q.row;
  column = q.column;
  day = q.day;
  month = q.month;
  hour = q.hour;
  minute = q.minute;
  finish = q.finish;
  country = q.country;
  source = q.source;
  offset = q.offset;
  controlled = q.controlled;
  series = x;
}

-- the last programme made anew, if there is one
abbrev pub on_last : (Programme → Programme) → List Programme → List Programme
on_last f [] = []
on_last f (q ∷ []) = f q ∷ []
on_last f (q ∷ (r ∷ qs)) = q ∷ on_last f (r ∷ qs)

abbrev pub changed : Change → List Programme → List Programme
changed Nothing qs = qs
changed (Begins q) qs = qs ++ (q ∷ [])
changed (Finishes x) qs = on_last (with_finish x) qs
changed (InSeries k) qs = on_last (with_series (Some k)) qs

unfoldable pub programmes_from : State → List Programme → List Group → List Programme
programmes_from s qs [] = qs
programmes_from s qs (g ∷ gs) = programmes_from (state_after s g) (changed (change_by s g) qs) gs
