-- From a programme to a timer (document 02, #103). Its CNI and year are the operator's: the country and source of packets X/26 are no
-- 16-bit CNI, and a date there has no year.
use Rattle.std.specs.Prelude.{ℕ, ◌+◌, ◌*◌, ◌^◌, Bool, cond, ◌||◌, ltb, Option, None, Some}
use Rattle.programmes.specs.declared.Programme.{Programme}

-- 'where day is above 31, month above 15, hour above 31 or minute above 63 there is no PIL'
abbrev pub spills : Programme → Bool
spills q = ltb 31 q.day || (ltb 15 q.month || (ltb 31 q.hour || ltb 63 q.minute))

-- the PIL whose parts are these: day 5 bits, month 4, hour 5, minute 6, the first the highest
abbrev pub labelled : Programme → ℕ
labelled q = q.day * 2 ^ 15 + q.month * 2 ^ 11 + q.hour * 2 ^ 6 + q.minute

-- 'what fits and is not real is left to `add`'s 11'
unfoldable pub pil_of : Programme → Option ℕ
pil_of q = cond (spills q) None (Some (labelled q))
