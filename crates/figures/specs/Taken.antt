-- What codes tell that are taken as a format.
use Rattle.std.specs.Prelude.{ℕ, ◌+◌, ◌*◌, cond, not, ◌&&◌, ◌||◌, List, ltb, eqb}
use Rattle.formats.specs.declared.Start.{Start}
use Rattle.formats.specs.declared.Kind.{Kind}
use Rattle.formats.specs.Formats.{pattern, figures_by}
use Rattle.formats.specs.Taken.{own_codes, kind_from}
use Rattle.sums.specs.Counted.{counted}
use Rattle.figures.specs.declared.Offset.TheVariants.{Plus, Minus}
use Rattle.figures.specs.declared.Value.{Value}
use Rattle.figures.specs.declared.Value.TheVariants as value
use Rattle.figures.specs.declared.Found.{Found}
use Rattle.figures.specs.Permitted.{is_time, is_not_recorded, is_date, value_of}

-- each kind's value, by the numbers that its figures show
abbrev pub single_by : ℕ → ℕ → Value
single_by h m = cond (is_time h m) (value.Single h m) value.Wrong

abbrev pub double_by : ℕ → ℕ → ℕ → ℕ → Value
double_by h m i n = cond (is_time h m && is_time i n) (value.Double h m i n) value.Wrong

abbrev pub original_by : ℕ → ℕ → Value
original_by h m = cond (is_time h m || is_not_recorded h m) (value.Original h m) value.Wrong

abbrev pub date_by : ℕ → ℕ → ℕ → Value
date_by d m y = cond (is_date d m y) (value.Date d m y) value.Wrong

abbrev pub network_by : ℕ → ℕ → ℕ → Value
network_by hh z zz = cond (ltb (z * 100 + zz) 256) (value.Network (hh * 256 + (z * 100 + zz))) value.Wrong

abbrev pub offset_by : ℕ → ℕ → Value
offset_by side zz = value.Offset (cond (eqb side 9 && ltb 0 zz) (Minus zz) (Plus zz))

abbrev pub pty_by : ℕ → Value
pty_by hh = cond (not (eqb hh 0)) (value.Pty hh) value.Wrong

unfoldable pub found_by : Kind → List ℕ → Found
found_by k text = record { value = value_of k (figures_by (pattern k) text); sum = counted k (figures_by (pattern k) text) }

unfoldable pub found_from : Start → ℕ → List ℕ → Found
found_from s n codes = found_by (kind_from s n codes) (own_codes (kind_from s n codes) codes)
