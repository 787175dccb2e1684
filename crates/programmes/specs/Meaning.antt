-- What a page's data groups mean, in the order in which they are sent: EN 300 231 clause 7.3.2.3 b) (document 02, #103).
use Rattle.std.specs.Prelude.{ℕ, Bool, true, false, cond, not, ◌&&◌, ◌||◌, List, [], ◌∷◌, ◌++◌, Option, None, Some}
use Rattle.std.specs.Option.{is_some, unwrap_or}
use Rattle.group.specs.declared.Offset.TheVariants.{East}
use Rattle.group.specs.declared.Group.{Group}
use Rattle.group.specs.declared.Group.TheVariants as group
use Rattle.programmes.specs.declared.Finish.{Finish}
use Rattle.programmes.specs.declared.Finish.TheVariants as finish
use Rattle.programmes.specs.declared.Programme.{Programme}
use Rattle.programmes.specs.declared.InForce.{InForce}

-- ── the groups that count ──────────────────────────────────────────────────────────────────────────────────────────
abbrev pub is_terminator : Group → Bool
is_terminator group.Other = false
is_terminator (group.Source c s) = false
is_terminator (group.Date m d) = false
is_terminator (group.Offset r o) = false
is_terminator (group.Start r h c) = false
is_terminator (group.Minutes c m) = false
is_terminator (group.Finish r h d) = false
is_terminator (group.Series k) = false
is_terminator group.Terminator = true

abbrev pub is_other : Group → Bool
is_other group.Other = true
is_other (group.Source c s) = false
is_other (group.Date m d) = false
is_other (group.Offset r o) = false
is_other (group.Start r h c) = false
is_other (group.Minutes c m) = false
is_other (group.Finish r h d) = false
is_other (group.Series k) = false
is_other group.Terminator = false

abbrev pub is_start : Group → Bool
is_start group.Other = false
is_start (group.Source c s) = false
is_start (group.Date m d) = false
is_start (group.Offset r o) = false
is_start (group.Start r h c) = true
is_start (group.Minutes c m) = false
is_start (group.Finish r h d) = false
is_start (group.Series k) = false
is_start group.Terminator = false

-- 'any other triplet is passed over'; of a terminator 'nothing after it counts'
unfoldable pub active : List Group → List Group
active [] = []
active (g ∷ gs) = cond (is_terminator g) [] (cond (is_other g) (active gs) (g ∷ active gs))

-- ── what is in force ───────────────────────────────────────────────────────────────────────────────────────────────
-- before the first group: no source, no date, and 'in the case that no LTO is transmitted, UTC is presumed'
abbrev pub nothing : InForce
nothing = record { source = None; date = None; offset = East 0 }

-- 'these three data groups activate their functions in the sequence and remain until redefined'
unfoldable pub in_force : InForce → Group → InForce
in_force f group.Other = f
in_force f (group.Source c s) = record { source = Some (c, s); date = f.date; offset = f.offset }
in_force f (group.Date m d) = record { source = f.source; date = Some (m, d); offset = f.offset }
in_force f (group.Offset r o) = record { source = f.source; date = f.date; offset = o }
in_force f (group.Start r h c) = f
in_force f (group.Minutes c m) = f
in_force f (group.Finish r h d) = f
in_force f (group.Series k) = f
in_force f group.Terminator = f

-- 'a Starting Hours group .. where no source or no date has come yet, whatever follows it'
unfoldable pub lacks : InForce → List Group → Bool
lacks f [] = false
lacks f (g ∷ gs) = (is_start g && not (is_some f.source && is_some f.date)) || lacks (in_force f g) gs

-- ── what a pair makes ──────────────────────────────────────────────────────────────────────────────────────────────
-- the column and minute of a Minutes group that comes next
pub data Next : Type 0 where
  none : Next
  minutes : ℕ → ℕ → Next

abbrev pub next_in : List Group → Next
next_in [] = none
next_in (group.Other ∷ gs) = none
next_in (group.Source c s ∷ gs) = none
next_in (group.Date m d ∷ gs) = none
next_in (group.Offset r o ∷ gs) = none
next_in (group.Start r h c ∷ gs) = none
next_in (group.Minutes c m ∷ gs) = minutes c m
next_in (group.Finish r h d ∷ gs) = none
next_in (group.Series k ∷ gs) = none
next_in (group.Terminator ∷ gs) = none

abbrev pub is_minutes : Next → Bool
is_minutes none = false
is_minutes (minutes c m) = true

-- 'a Starting Hours group whose next group of the clause's table is Minutes'
abbrev pub begins : Group → List Group → Bool
begins g gs = is_start g && is_minutes (next_in gs)

-- ── what belongs to the programme before ───────────────────────────────────────────────────────────────────────────
-- the groups up to the next programme
unfoldable pub own : List Group → List Group
own [] = []
own (g ∷ gs) = cond (begins g gs) [] (g ∷ own gs)

-- 'a finish (time or duration) from a Finishing Hours group whose next group is Minutes'
abbrev pub finish_by : Finish → ℕ → Bool → Next → Finish
finish_by x h d none = x
finish_by x h d (minutes c m) = cond d (finish.Duration h m) (finish.Time h m)

abbrev pub finish_or : Finish → Group → List Group → Finish
finish_or x group.Other gs = x
finish_or x (group.Source c s) gs = x
finish_or x (group.Date m d) gs = x
finish_or x (group.Offset r o) gs = x
finish_or x (group.Start r h c) gs = x
finish_or x (group.Minutes c m) gs = x
finish_or x (group.Finish r h d) gs = finish_by x h d (next_in gs)
finish_or x (group.Series k) gs = x
finish_or x group.Terminator gs = x

-- 'of two, the last counts'
unfoldable pub finish_in : Finish → List Group → Finish
finish_in x [] = x
finish_in x (g ∷ gs) = finish_in (finish_or x g gs) gs

-- 'and a series code (0 is one)'
abbrev pub series_or : Option ℕ → Group → Option ℕ
series_or x group.Other = x
series_or x (group.Source c s) = x
series_or x (group.Date m d) = x
series_or x (group.Offset r o) = x
series_or x (group.Start r h c) = x
series_or x (group.Minutes c m) = x
series_or x (group.Finish r h d) = x
series_or x (group.Series k) = Some k
series_or x group.Terminator = x

unfoldable pub series_in : Option ℕ → List Group → Option ℕ
series_in x [] = x
series_in x (g ∷ gs) = series_in (series_or x g) gs

-- ── the programmes ─────────────────────────────────────────────────────────────────────────────────────────────────
-- the programme of a pair, with 'the source, date and offset then in force', a finish and a series; what has not come is 0
abbrev pub programme_by : InForce → ℕ → ℕ → Bool → ℕ → ℕ → Finish → Option ℕ → Programme
programme_by f row hour controlled column minute finish series = record {
  row = row;
  column = column;
  day = (unwrap_or f.date (0, 0)).1;
  month = (unwrap_or f.date (0, 0)).0;
  hour = hour;
  minute = minute;
  finish = finish;
  country = (unwrap_or f.source (0, 0)).0;
  source = (unwrap_or f.source (0, 0)).1;
  offset = f.offset;
  controlled = controlled;
  series = series;
}

-- the programme that a Starting Hours group and what follows it make, if they do
abbrev pub made_by : InForce → ℕ → ℕ → Bool → List Group → Next → List Programme
made_by f row hour controlled gs none = []
made_by f row hour controlled gs (minutes column minute) =
    programme_by f row hour controlled column minute (finish_in finish.Absent (own gs)) (series_in None (own gs)) ∷ []

abbrev pub begun : InForce → Group → List Group → List Programme
begun f group.Other gs = []
begun f (group.Source c s) gs = []
begun f (group.Date m d) gs = []
begun f (group.Offset r o) gs = []
begun f (group.Start r h c) gs = made_by f r h c gs (next_in gs)
begun f (group.Minutes c m) gs = []
begun f (group.Finish r h d) gs = []
begun f (group.Series k) gs = []
begun f group.Terminator gs = []

-- 'page order is the order sent': what the groups begin, one after the other
unfoldable pub programmes_in : InForce → List Group → List Programme
programmes_in f [] = []
programmes_in f (g ∷ gs) = begun f g gs ++ programmes_in (in_force f g) gs
