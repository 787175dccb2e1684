-- The desk second by second (document 01, 'The second-by-second rule'): its moments, its seconds and its waits.
use Rattle.std.specs.Prelude.{ℕ, zero, suc, ◌-◌, Bool, cond, not, ◌&&◌, map, replicate}
use Rattle.answer.specs.Lists.{some, count}
use Rattle.places.specs.Places.{no_label, stands}
use Rattle.rule.specs.Rule.{next_timer, by_labels_timer, live_timer}
use Rattle.sixteen.specs.Sixteen.{no_timer}
use Rattle.desk.specs.declared.Desk.{Desk}

-- 'a fresh desk has clock 0, no label at any place and every slot free'; none is live
abbrev pub fresh : Desk
fresh = record { clock = 0; live = 0; places = replicate 16 no_label; timers = replicate 16 no_timer }

-- 'at each moment every timer's copy goes on', and the number that is kept 'with the desk' becomes 'the full count, clock recordings included'
-- (02, #106)
unfoldable pub moment : Desk → Desk
moment d =
    let timers = map (next_timer d.clock d.places) d.timers in
    record { clock = d.clock; live = count live_timer timers; places = d.places; timers = timers }

-- the same desk with its clock at second s
abbrev pub clocked_at : ℕ → Desk → Desk
clocked_at s d = record { clock = s; live = d.live; places = d.places; timers = d.timers }

-- 'each whole second is a moment'
unfoldable pub next_second : Desk → Desk
next_second d = moment (clocked_at (suc d.clock) d)

-- n seconds pass, one by one
unfoldable pub walk : ℕ → Desk → Desk
walk zero d = d
walk (suc n) d = walk n (next_second d)

-- 'a call at t first passes every second up to t'
unfoldable pub pass_to : ℕ → Desk → Desk
pass_to t d = walk (t - d.clock) d

-- 'a wait's walk now stops when no label stands and nothing is recording or running on; clock copies then follow from the time alone' (02, #105)
unfoldable pub quiet : Desk → Bool
quiet d = not (some (stands d.clock) d.places) && not (some by_labels_timer d.timers)

-- 'the least number after which' the desk is quiet, 'or the whole wait if that is less', of a wait of n seconds
unfoldable pub walked_in : ℕ → Desk → ℕ
walked_in zero d = 0
walked_in (suc n) d = let more = suc (walked_in n (next_second d)) in cond (quiet d) 0 more

-- 'a wait to second t reports how many seconds it walked'
unfoldable pub walked_to : ℕ → Desk → ℕ
walked_to t d = walked_in (t - d.clock) d

-- 'the full count' of live timers, over all slots
unfoldable pub live_count : Desk → ℕ
live_count d = count live_timer d.timers
