-- From a programme of a preview page to a timer (document 02, #108).
use Rattle.std.specs.Prelude.{ℕ, ◌+◌, ◌-◌, ◌*◌, ◌^◌, cond, leb, Option, None, Some}
use Rattle.figures.specs.Permitted.{is_not_recorded}
use Rattle.announced.specs.declared.Time.{Time}
use Rattle.preview.specs.declared.Programme.{Programme}
use Rattle.booked.specs.declared.Booked.{Booked}

-- since the day's start
abbrev pub minutes_of : Time → ℕ
minutes_of t = t.hour * 60 + t.minute

-- 'the length in minutes from both times (past midnight counts on; 0 where they are equal ..)' (a difference of two numbers stops at 0)
unfoldable pub length_of : Time → Time → ℕ
length_of start finish =
    cond (leb (minutes_of start) (minutes_of finish)) (minutes_of finish - minutes_of start) (minutes_of finish + 1440 - minutes_of start)

-- 'PIL (date and original time)': day 5 bits, month 4, hour 5, minute 6, the first the highest
unfoldable pub pil_of : Programme → ℕ
pil_of q = q.day * 2 ^ 15 + q.month * 2 ^ 11 + q.original.hour * 2 ^ 6 + q.original.minute

-- 'CNI, PIL .., year (the two figures of the date, 2000 to 2099) and the length'
abbrev pub booked_by : Programme → Booked
booked_by q = record { pil = pil_of q; cni = q.network; length = length_of q.start q.finish; year = q.year }

-- '2500 gives no timer, told by its own answer'
unfoldable pub timer_of : Programme → Option Booked
timer_of q = cond (is_not_recorded q.original.hour q.original.minute) None (Some (booked_by q))
