-- A programme's bytes taken as one are the programme; those of none are 0.
use Rattle.std.specs.Prelude.{ℕ, Option, None, Some}
use mathlib.Core.Bool.{Bool, true, false, not}
use mathlib.Core.Path.{◌≡◌, refl}
use lib.Dec.{eqb}
use lib.ListN.{replicate}
use Rattle.group.specs.declared.Offset.{Offset}
use Rattle.group.specs.declared.Offset.TheVariants.{East, West}
use Rattle.programmes.specs.declared.Finish.{Finish}
use Rattle.programmes.specs.declared.Finish.TheVariants as finish
use Rattle.programmes.specs.declared.Programme.{Programme}
use Rattle.programmes.specs.Page.{blank}
use Rattle.fields.specs.Fields.{finish_kind, finish_hour, finish_minute, side, quarters, flag, in_series, series_code, programme_bytes}
use Rattle.fields.specs.Fields.{finish_by, offset_by, series_by, programme_at}

finish_back : (f : Finish) → finish_by (finish_kind f) (finish_hour f) (finish_minute f) ≡ f
finish_back finish.Absent = refl
finish_back (finish.Time h m) = refl
finish_back (finish.Duration h m) = refl

offset_back : (o : Offset) → offset_by (side o) (quarters o) ≡ o
offset_back (East n) = refl
offset_back (West n) = refl

flag_back : (b : Bool) → not (eqb (flag b) 0) ≡ b
flag_back true = refl
flag_back false = refl

series_back : (s : Option ℕ) → series_by (in_series s) (series_code s) ≡ s
series_back None = refl
series_back (Some k) = refl

pub back : (q : Programme) → programme_at (programme_bytes q) 0 ≡ q
unfolding programme_at programme_bytes
back q = rw (finish_back q.finish, offset_back q.offset, flag_back q.controlled, series_back q.series) refl

pub none : programme_bytes blank ≡ replicate 16 0
unfolding programme_bytes
none = refl
