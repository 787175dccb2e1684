-- The writer's test of a programme, one field after the other.
use mathlib.Core.Bool.{Bool, ◌||◌, or_assoc}
use mathlib.Core.Path.{◌≡◌}
use lib.Dec.{ltb}
use Rattle.programmes.specs.declared.Programme.{Programme}
use Rattle.programmes.specs.Written.{outside, outside_offset, outside_finish, outside_series}

pub outside_by : (q : Programme) {time screen offset finish series : Bool} →
    time ≡ ltb q.month 1 || ltb 12 q.month || ltb q.day 1 || ltb 31 q.day || ltb 23 q.hour || ltb 59 q.minute →
    screen ≡ ltb q.row 1 || ltb 24 q.row || ltb 39 q.column →
    offset ≡ outside_offset q.offset → finish ≡ outside_finish q.finish → series ≡ outside_series q.series →
    ltb 15 q.country || ltb 127 q.source || time || screen || offset || finish || series ≡ outside q
unfolding outside
outside_by q t p o f s = rw (t, p, o, f, s) (simp or_assoc)
