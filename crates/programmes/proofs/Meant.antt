-- The groups that programmes are written as mean those programmes.
use Rattle.std.specs.Prelude.{Option, None, Some}
use Prim.Native.Nat.{ℕ}
use mathlib.Core.Path.{◌≡◌, refl, sym, ap, ap₂, ◌∙◌}
use mathlib.Core.Bool.{Bool, true, false, cond}
use mathlib.Core.List.{List, [], ◌∷◌, ◌++◌, append_assoc}
use borrow.Author.Tests.{eqb-true}
use lib.Dec.{eqb}
use Rattle.answer.proofs.Cases.{both_true}
use Rattle.answer.proofs.Every.{no_way}
use Rattle.group.specs.declared.Offset.{Offset}
use Rattle.group.specs.declared.Offset.TheVariants.{East, West}
use Rattle.group.specs.declared.Group.{Group}
use Rattle.group.specs.declared.Group.TheVariants as group
use Rattle.programmes.specs.declared.Finish.{Finish}
use Rattle.programmes.specs.declared.Finish.TheVariants as finish
use Rattle.programmes.specs.declared.Programme.{Programme}
use Rattle.programmes.specs.declared.InForce.{InForce}
use Rattle.programmes.specs.Meaning.{in_force, lacks, own, finish_in, series_in, programme_by, programmes_in}
use Rattle.programmes.specs.Written.{same_offset, is_pair, same_source, same_date, source_sent, date_sent, offset_sent, pair_sent, finish_sent, series_sent, groups_of, force_of, groups_from}

-- ── what does not change is in force ───────────────────────────────────────────────────────────────────────────────
-- where the test of a source, a date or an offset passes, its group would change nothing
same_pair : (x : Option (ℕ × ℕ)) (a b : ℕ) → is_pair x a b ≡ true → x ≡ Some (a, b)
same_pair None a b e = no_way (sym e)
same_pair (Some p) a b e =
    let t = both_true (eqb p.0 a) (eqb p.1 b) e in
    let m = eqb-true p.0 a t.0 in
    let n = eqb-true p.1 b t.1 in
    λ i. Some (m i, n i)

same_source_lem : (f : InForce) (q : Programme) → same_source f q ≡ true → f ≡ in_force f (group.Source q.country q.source)
unfolding in_force
same_source_lem f q e =
    let s = same_pair f.source q.country q.source e in
    λ i. record { source = s i; date = f.date; offset = f.offset }

same_date_lem : (f : InForce) (q : Programme) → same_date f q ≡ true → f ≡ in_force f (group.Date q.month q.day)
unfolding in_force
same_date_lem f q e =
    let d = same_pair f.date q.month q.day e in
    λ i. record { source = f.source; date = d i; offset = f.offset }

-- two offsets that the test finds the same are
same_quarters : (a b : Offset) → same_offset a b ≡ true → a ≡ b
same_quarters (East a) (East b) e = ap East (eqb-true a b e)
same_quarters (East a) (West b) e = no_way (sym e)
same_quarters (West a) (East b) e = no_way (sym e)
same_quarters (West a) (West b) e = ap West (eqb-true a b e)

same_offset_lem : (f : InForce) (q : Programme) → same_offset f.offset q.offset ≡ true → f ≡ in_force f (group.Offset q.row q.offset)
unfolding in_force
same_offset_lem f q e =
    let o = same_quarters f.offset q.offset e in
    λ i. record { source = f.source; date = f.date; offset = o i }

-- ── before a pair ──────────────────────────────────────────────────────────────────────────────────────────────────
-- what is made of groups, where a source, a date or an offset only comes into force
record Carried {X : Type 0} (F : InForce → List Group → X) : Type 0 where
  source : (f : InForce) (c s : ℕ) (gs : List Group) → F f (group.Source c s ∷ gs) ≡ F (in_force f (group.Source c s)) gs
  date : (f : InForce) (m d : ℕ) (gs : List Group) → F f (group.Date m d ∷ gs) ≡ F (in_force f (group.Date m d)) gs
  offset : (f : InForce) (r : ℕ) (o : Offset) (gs : List Group) → F f (group.Offset r o ∷ gs) ≡ F (in_force f (group.Offset r o)) gs

module _ {X : Type 0} (F : InForce → List Group → X) (carried : Carried F) where
  -- sent or not, the programme's source is in force after it, and so are its date and its offset
  source_sent_lem : (f : InForce) (q : Programme) (gs : List Group) →
      F f (source_sent f q ++ gs) ≡ F (in_force f (group.Source q.country q.source)) gs
  source_sent_lem f q gs = go (same_source f q) refl
    where
      go : (t : Bool) → same_source f q ≡ t →
          F f (cond t [] (group.Source q.country q.source ∷ []) ++ gs) ≡ F (in_force f (group.Source q.country q.source)) gs
      go true e = ap (λ (x : InForce). F x gs) (same_source_lem f q e)
      go false e = carried.source f q.country q.source gs

  date_sent_lem : (f : InForce) (q : Programme) (gs : List Group) → F f (date_sent f q ++ gs) ≡ F (in_force f (group.Date q.month q.day)) gs
  date_sent_lem f q gs = go (same_date f q) refl
    where
      go : (t : Bool) → same_date f q ≡ t →
          F f (cond t [] (group.Date q.month q.day ∷ []) ++ gs) ≡ F (in_force f (group.Date q.month q.day)) gs
      go true e = ap (λ (x : InForce). F x gs) (same_date_lem f q e)
      go false e = carried.date f q.month q.day gs

  offset_sent_lem : (f : InForce) (q : Programme) (gs : List Group) → F f (offset_sent f q ++ gs) ≡ F (in_force f (group.Offset q.row q.offset)) gs
  offset_sent_lem f q gs = go (same_offset f.offset q.offset) refl
    where
      go : (t : Bool) → same_offset f.offset q.offset ≡ t →
          F f (cond t [] (group.Offset q.row q.offset ∷ []) ++ gs) ≡ F (in_force f (group.Offset q.row q.offset)) gs
      go true e = ap (λ (x : InForce). F x gs) (same_offset_lem f q e)
      go false e = carried.offset f q.row q.offset gs

  -- before its pair a programme's source, date and offset are in force
  before_pair : (f : InForce) (q : Programme) (gs : List Group) → F f (source_sent f q ++ (date_sent f q ++ (offset_sent f q ++ gs))) ≡ F (force_of q) gs
  unfolding in_force
  before_pair f q gs =
      let g = in_force f (group.Source q.country q.source) in
      let h = in_force g (group.Date q.month q.day) in
      source_sent_lem f q (date_sent f q ++ (offset_sent f q ++ gs)) ∙ date_sent_lem g q (offset_sent g q ++ gs) ∙ offset_sent_lem h q gs

-- a programme's groups from its pair on, and others
abbrev from_pair : Programme → List Group → List Group
from_pair q gs = pair_sent q ++ (finish_sent q.row q.column q.finish ++ (series_sent q.series ++ gs))

-- the brackets of a programme's groups and others, moved to the right
regrouped : (f : InForce) (q : Programme) (gs : List Group) →
    groups_of f q ++ gs ≡ source_sent f q ++ (date_sent f q ++ (offset_sent f q ++ from_pair q gs))
unfolding groups_of
regrouped f q gs = simp append_assoc

-- what is made of a programme's groups and others is made of those from its pair on
at_pair : {X : Type 0} (F : InForce → List Group → X) → Carried F → (f : InForce) (q : Programme) (gs : List Group) →
    F f (groups_of f q ++ gs) ≡ F (force_of q) (from_pair q gs)
at_pair F carried f q gs = ap (F f) (regrouped f q gs) ∙ before_pair F carried f q (from_pair q gs)

-- ── after a pair ───────────────────────────────────────────────────────────────────────────────────────────────────
-- the groups of the programmes that follow tell no finish and no series of the one before
finish_after : (f : InForce) (qs : List Programme) (x : Finish) → finish_in x (own (groups_from f qs)) ≡ x
unfolding groups_from own finish_in
finish_after f [] x = refl
finish_after f (q ∷ qs) x =
    at_pair (λ f gs. finish_in x (own gs)) (record { source = λ f c s gs. refl; date = λ f m d gs. refl; offset = λ f r o gs. refl })
    f q (groups_from (force_of q) qs)

series_after : (f : InForce) (qs : List Programme) (x : Option ℕ) → series_in x (own (groups_from f qs)) ≡ x
unfolding groups_from own series_in
series_after f [] x = refl
series_after f (q ∷ qs) x =
    at_pair (λ f gs. series_in x (own gs)) (record { source = λ f c s gs. refl; date = λ f m d gs. refl; offset = λ f r o gs. refl })
    f q (groups_from (force_of q) qs)

-- the groups after a pair have the finish and the series that are sent
finish_own : (row column minute : ℕ) (x : Finish) (y : Option ℕ) (gs : List Group) →
    finish_in finish.Absent (own (group.Minutes column minute ∷ (finish_sent row column x ++ (series_sent y ++ gs)))) ≡ finish_in x (own gs)
unfolding own finish_in
finish_own row column minute finish.Absent None gs = refl
finish_own row column minute finish.Absent (Some k) gs = refl
finish_own row column minute (finish.Time h m) None gs = refl
finish_own row column minute (finish.Time h m) (Some k) gs = refl
finish_own row column minute (finish.Duration h m) None gs = refl
finish_own row column minute (finish.Duration h m) (Some k) gs = refl

series_own : (row column minute : ℕ) (x : Finish) (y : Option ℕ) (gs : List Group) →
    series_in None (own (group.Minutes column minute ∷ (finish_sent row column x ++ (series_sent y ++ gs)))) ≡ series_in y (own gs)
unfolding own series_in
series_own row column minute finish.Absent None gs = refl
series_own row column minute finish.Absent (Some k) gs = refl
series_own row column minute (finish.Time h m) None gs = refl
series_own row column minute (finish.Time h m) (Some k) gs = refl
series_own row column minute (finish.Duration h m) None gs = refl
series_own row column minute (finish.Duration h m) (Some k) gs = refl

-- and begin no programme
none_begun : (f : InForce) (row column : ℕ) (x : Finish) (y : Option ℕ) (gs : List Group) →
    programmes_in f (finish_sent row column x ++ (series_sent y ++ gs)) ≡ programmes_in f gs
unfolding programmes_in in_force
none_begun f row column finish.Absent None gs = refl
none_begun f row column finish.Absent (Some k) gs = refl
none_begun f row column (finish.Time h m) None gs = refl
none_begun f row column (finish.Time h m) (Some k) gs = refl
none_begun f row column (finish.Duration h m) None gs = refl
none_begun f row column (finish.Duration h m) (Some k) gs = refl

-- ── the programmes ─────────────────────────────────────────────────────────────────────────────────────────────────
-- the pair makes the programme with its finish and series
made : (q : Programme) (qs : List Programme) →
    let gs = groups_from (force_of q) qs in
    programmes_in (force_of q) (from_pair q gs) ≡ q ∷ programmes_in (force_of q) gs
unfolding programmes_in in_force
made q qs =
    let gs = groups_from (force_of q) qs in
    let after = group.Minutes q.column q.minute ∷ (finish_sent q.row q.column q.finish ++ (series_sent q.series ++ gs)) in
    let x : finish_in finish.Absent (own after) ≡ q.finish =
    finish_own q.row q.column q.minute q.finish q.series gs ∙ finish_after (force_of q) qs q.finish in
    let y : series_in None (own after) ≡ q.series =
    series_own q.row q.column q.minute q.finish q.series gs ∙ series_after (force_of q) qs q.series in
    ap₂ (λ (p : Programme) (ps : List Programme). p ∷ ps)
    (ap₂ (λ (a : Finish) (b : Option ℕ). programme_by (force_of q) q.row q.hour q.controlled q.column q.minute a b) x y)
    (none_begun (force_of q) q.row q.column q.finish q.series gs)

-- what programmes are written as means them
pub meant : (f : InForce) (qs : List Programme) → programmes_in f (groups_from f qs) ≡ qs
unfolding groups_from programmes_in
meant f [] = refl
meant f (q ∷ qs) =
    let gs = groups_from (force_of q) qs in
    at_pair programmes_in (record { source = λ f c s gs. refl; date = λ f m d gs. refl; offset = λ f r o gs. refl }) f q gs
    ∙ made q qs ∙ ap (λ (ps : List Programme). q ∷ ps) (meant (force_of q) qs)

-- the finish and the series lack no source and no date
none_lacking : (f : InForce) (row column : ℕ) (x : Finish) (y : Option ℕ) (gs : List Group) →
    lacks f (finish_sent row column x ++ (series_sent y ++ gs)) ≡ lacks f gs
unfolding lacks in_force
none_lacking f row column finish.Absent None gs = refl
none_lacking f row column finish.Absent (Some k) gs = refl
none_lacking f row column (finish.Time h m) None gs = refl
none_lacking f row column (finish.Time h m) (Some k) gs = refl
none_lacking f row column (finish.Duration h m) None gs = refl
none_lacking f row column (finish.Duration h m) (Some k) gs = refl

-- nor does what programmes are written as
pub lacks_none : (f : InForce) (qs : List Programme) → lacks f (groups_from f qs) ≡ false
unfolding groups_from lacks in_force
lacks_none f [] = refl
lacks_none f (q ∷ qs) =
    let gs = groups_from (force_of q) qs in
    at_pair lacks (record { source = λ f c s gs. refl; date = λ f m d gs. refl; offset = λ f r o gs. refl }) f q gs
    ∙ none_lacking (force_of q) q.row q.column q.finish q.series gs ∙ lacks_none (force_of q) qs
