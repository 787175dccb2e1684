-- Every group of programmes whose fields are in their ranges counts, and its numbers fit its bits.
use Rattle.std.specs.Prelude.{Option, None, Some}
use Prim.Native.Nat.{ℕ, ◌≤◌}
use mathlib.Core.Path.{◌≡◌, refl}
use mathlib.Core.Bool.{Bool, true, false, cond, ◌||◌}
use mathlib.Core.List.{List, [], ◌∷◌, ◌++◌}
use native.Mathlib.Omega.{arith}
use borrow.Author.Tests.{ltb-false, le-leb}
use lib.Dec.{ltb}
use Rattle.answer.specs.Lists.{some}
use Rattle.answer.proofs.Cases.{both_false}
use Rattle.answer.proofs.Every.{All, all_append}
use Rattle.group.specs.declared.Offset.{Offset}
use Rattle.group.specs.declared.Offset.TheVariants.{East, West}
use Rattle.group.specs.declared.Group.{Group}
use Rattle.group.specs.declared.Group.TheVariants as group
use Rattle.group.specs.Laws.{is_row_number, fits_offset, fits}
use Rattle.programmes.specs.declared.Finish.{Finish}
use Rattle.programmes.specs.declared.Finish.TheVariants as finish
use Rattle.programmes.specs.declared.Programme.{Programme}
use Rattle.programmes.specs.declared.InForce.{InForce}
use Rattle.programmes.specs.Meaning.{is_terminator, is_other}
use Rattle.programmes.specs.Written.{same_offset, same_source, same_date, source_sent, date_sent, offset_sent, pair_sent, finish_sent, series_sent, groups_of, force_of, groups_from, outside_offset, outside_finish, outside_series, outside}

-- a group that counts and fits
abbrev pub Sendable : Group → Type 0
Sendable g = (is_terminator g ≡ false) × (is_other g ≡ false) × (fits g ≡ true)

-- ── the ranges ─────────────────────────────────────────────────────────────────────────────────────────────────────
-- some test of several passes; where none does, each fails
abbrev any_of : Bool → List Bool → Bool
any_of t [] = t
any_of t (u ∷ us) = t || any_of u us

none_of : (t : Bool) (us : List Bool) → any_of t us ≡ false → All (λ u. u ≡ false) (t ∷ us)
none_of t [] e = (e, tt)
none_of t (u ∷ us) e = let b = both_false t (any_of u us) e in (b.0, none_of u us b.1)

-- the fields of a programme that the writer does not refuse
record Within (q : Programme) : Type 0 where
  country : q.country ≤ 15
  source : q.source ≤ 127
  month : q.month ≤ 12
  day : q.day ≤ 31
  hour : q.hour ≤ 23
  minute : q.minute ≤ 59
  first_row : 1 ≤ q.row
  last_row : q.row ≤ 24
  column : q.column ≤ 39
  offset : outside_offset q.offset ≡ false
  finish : outside_finish q.finish ≡ false
  series : outside_series q.series ≡ false

within : (q : Programme) → outside q ≡ false → Within q
unfolding outside
within q e =
    let n = none_of (ltb 15 q.country)
    (ltb 127 q.source ∷ ltb q.month 1 ∷ ltb 12 q.month ∷ ltb q.day 1 ∷ ltb 31 q.day ∷ ltb 23 q.hour ∷ ltb 59 q.minute
    ∷ ltb q.row 1 ∷ ltb 24 q.row ∷ ltb 39 q.column ∷ outside_offset q.offset ∷ outside_finish q.finish ∷ outside_series q.series ∷ []) e in
    let late = n.1.1.1.1.1.1.1.1 in
    record {
      country = ltb-false 15 q.country n.0;
      source = ltb-false 127 q.source n.1.0;
      month = ltb-false 12 q.month n.1.1.1.0;
      day = ltb-false 31 q.day n.1.1.1.1.1.0;
      hour = ltb-false 23 q.hour n.1.1.1.1.1.1.0;
      minute = ltb-false 59 q.minute n.1.1.1.1.1.1.1.0;
      first_row = ltb-false q.row 1 late.0;
      last_row = ltb-false 24 q.row late.1.0;
      column = ltb-false 39 q.column late.1.1.0;
      offset = late.1.1.1.0;
      finish = late.1.1.1.1.0;
      series = late.1.1.1.1.1.0;
    }

-- ── the groups ─────────────────────────────────────────────────────────────────────────────────────────────────────
-- an offset in its range fits six bits and a sign
offset_fits : (o : Offset) → outside_offset o ≡ false → fits_offset o ≡ true
offset_fits (East q) e = le-leb q 63 (ltb-false 63 q e)
offset_fits (West q) e =
    let b = both_false (ltb q 1) (ltb 63 q) e in
    rw (le-leb 1 q (ltb-false q 1 b.0), le-leb q 63 (ltb-false 63 q b.1))

module _ (q : Programme) (w : Within q) where
  -- each number of a programme's groups, and so each group
  row_fits : is_row_number q.row ≡ true
  row_fits = rw (le-leb 1 q.row w.first_row, le-leb q.row 24 w.last_row)

  minutes_fit : (minute : ℕ) → minute ≤ 59 → Sendable (group.Minutes q.column minute)
  minutes_fit minute h = (refl, refl, rw (le-leb q.column 39 w.column, le-leb minute 79 (omega arith)))

  source_fits : (f : InForce) → All Sendable (source_sent f q)
  source_fits f = go (same_source f q)
    where
      go : (t : Bool) → All Sendable (cond t [] (group.Source q.country q.source ∷ []))
      go true = tt
      go false = ((refl, refl, rw (le-leb q.country 15 w.country, le-leb q.source 127 w.source)), tt)

  date_fits : (f : InForce) → All Sendable (date_sent f q)
  date_fits f = go (same_date f q)
    where
      go : (t : Bool) → All Sendable (cond t [] (group.Date q.month q.day ∷ []))
      go true = tt
      go false = ((refl, refl, rw (le-leb q.month 15 (omega arith), le-leb q.day 39 (omega arith))), tt)

  offset_fit : (f : InForce) → All Sendable (offset_sent f q)
  offset_fit f = go (same_offset f.offset q.offset)
    where
      go : (t : Bool) → All Sendable (cond t [] (group.Offset q.row q.offset ∷ []))
      go true = tt
      go false = ((refl, refl, rw (row_fits, offset_fits q.offset w.offset)), tt)

  pair_fits : All Sendable (pair_sent q)
  pair_fits = ((refl, refl, rw (row_fits, le-leb q.hour 39 (omega arith))), (minutes_fit q.minute w.minute, tt))

  finish_fits : (x : Finish) → outside_finish x ≡ false → All Sendable (finish_sent q.row q.column x)
  finish_fits finish.Absent e = tt
  finish_fits (finish.Time h m) e =
      let b = both_false (ltb 23 h) (ltb 59 m) e in
      let l = ltb-false 23 h b.0 in
      ((refl, refl, rw (row_fits, le-leb h 39 (omega arith))), (minutes_fit m (ltb-false 59 m b.1), tt))
  finish_fits (finish.Duration h m) e =
      let b = both_false (ltb 39 h) (ltb 59 m) e in
      ((refl, refl, rw (row_fits, le-leb h 39 (ltb-false 39 h b.0))), (minutes_fit m (ltb-false 59 m b.1), tt))

  series_fits : (x : Option ℕ) → outside_series x ≡ false → All Sendable (series_sent x)
  series_fits None e = tt
  series_fits (Some k) e = ((refl, refl, le-leb k 127 (ltb-false 127 k e)), tt)

  -- all the groups of the programme
  groups_fit : (f : InForce) → All Sendable (groups_of f q)
  unfolding groups_of
  groups_fit f =
      let tail = finish_sent q.row q.column q.finish ++ series_sent q.series in
      all_append Sendable (source_sent f q) (date_sent f q ++ (offset_sent f q ++ (pair_sent q ++ tail))) (source_fits f)
      (all_append Sendable (date_sent f q) (offset_sent f q ++ (pair_sent q ++ tail)) (date_fits f)
      (all_append Sendable (offset_sent f q) (pair_sent q ++ tail) (offset_fit f)
      (all_append Sendable (pair_sent q) tail pair_fits
      (all_append Sendable (finish_sent q.row q.column q.finish) (series_sent q.series) (finish_fits q.finish w.finish)
      (series_fits q.series w.series)))))

-- every group of programmes whose fields are in their ranges
pub sendable : (f : InForce) (qs : List Programme) → some outside qs ≡ false → All Sendable (groups_from f qs)
unfolding groups_from
sendable f [] e = tt
sendable f (q ∷ qs) e =
    let b = both_false (outside q) (some outside qs) e in
    all_append Sendable (groups_of f q) (groups_from (force_of q) qs) (groups_fit q (within q b.0) f) (sendable (force_of q) qs b.1)
