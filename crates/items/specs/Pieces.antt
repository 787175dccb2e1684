-- A sheet as it is split, byte by byte: which items are whole with the next bytes, and what is held of the one that is not.
use Rattle.std.specs.Prelude.{ℕ, ◌+◌, ◌-◌, ◌*◌, Bool, true, false, cond, ◌||◌, List, [], ◌∷◌, ◌++◌, leb, eqb, take, set, replicate}
use Rattle.answer.specs.Bytes.{number_of}
use Rattle.items.specs.declared.Stage.{Stage}
use Rattle.items.specs.declared.Stage.TheVariants.{TimerCount, Timers, PacketCount, Packets, Complete, LeftOver}
use Rattle.items.specs.declared.Split.{Split}
use Rattle.items.specs.declared.Found.{Found}
use Rattle.items.specs.declared.Found.TheVariants.{Nothing, Timer, Packet}
use Rattle.items.specs.declared.Taken.{Taken}
use Rattle.items.specs.Items.{Item, timer, packet}

-- how many bytes come next: a count, a timer, a packet, or one that is left over
abbrev pub need : Stage → ℕ
need TimerCount = 1
need (Timers n) = 9
need PacketCount = 2
need (Packets n) = 47
need Complete = 1
need LeftOver = 1

-- the stage of n timers, or of n packets, that are left
abbrev pub timers_left : ℕ → Stage
timers_left n = cond (eqb n 0) PacketCount (Timers n)

abbrev pub packets_left : ℕ → Stage
packets_left n = cond (eqb n 0) Complete (Packets n)

abbrev pub stage_after : Stage → List ℕ → Stage
stage_after TimerCount i = timers_left (number_of i)
stage_after (Timers n) i = timers_left (n - 1)
stage_after PacketCount i = packets_left (number_of i)
stage_after (Packets n) i = packets_left (n - 1)
stage_after Complete i = LeftOver
stage_after LeftOver i = LeftOver

-- which of a sheet's items is whole with its last byte
abbrev pub found_at : Stage → Found
found_at TimerCount = Nothing
found_at (Timers n) = Timer
found_at PacketCount = Nothing
found_at (Packets n) = Packet
found_at Complete = Nothing
found_at LeftOver = Nothing

-- the items of that kind among the bytes held
abbrev pub items_found : Found → List ℕ → List Item
items_found Nothing held = []
items_found Timer held = timer (take 9 held) ∷ []
items_found Packet held = packet (take 47 held) ∷ []

-- one more byte is held
abbrev pub holding : ℕ → Split → Split
holding b s = record { stage = s.stage; have = s.have + 1; held = set s.held s.have b }

abbrev pub is_whole : Split → Bool
is_whole s = leb (need s.stage) s.have

abbrev pub item_of : Split → List ℕ
item_of s = take (need s.stage) s.held

-- after a whole item the next one begins
unfoldable pub after_item : Split → Split
after_item s = record { stage = stage_after s.stage (item_of s); have = 0; held = s.held }

-- after one more byte, and the items that it makes whole: one at most
unfoldable pub after_byte : ℕ → Split → Split
after_byte b s = let t = holding b s in cond (is_whole t) (after_item t) t

unfoldable pub byte_items : ℕ → Split → List Item
byte_items b s = let t = holding b s in cond (is_whole t) (items_found (found_at t.stage) t.held) []

-- after a piece of input, and the items that it makes whole
unfoldable pub split_after : List ℕ → Split → Split
split_after [] s = s
split_after (b ∷ bs) s = split_after bs (after_byte b s)

unfoldable pub piece_items : List ℕ → Split → List Item
piece_items [] s = []
piece_items (b ∷ bs) s = byte_items b s ++ piece_items bs (after_byte b s)

-- bytes that follow place at are taken up to the end of the next item, or all of them: what is held then, the place after them, and
-- what was found
unfoldable pub taken_from : List ℕ → ℕ → Split → Taken
taken_from [] at s = record { split = s; at = at; found = Nothing }
taken_from (b ∷ bs) at s =
    let t = holding b s in
    cond (is_whole t) (record { split = after_item t; at = at + 1; found = found_at t.stage }) (taken_from bs (at + 1) t)

-- whether the input may end here
abbrev pub may_end : Stage → Bool
may_end TimerCount = false
may_end (Timers n) = false
may_end PacketCount = false
may_end (Packets n) = false
may_end Complete = true
may_end LeftOver = false

-- whether input is whole that stops here; where its end was not seen it is short, whatever there was of it
abbrev pub whole_at : Bool → Split → Bool
whole_at ended s = cond ended (may_end s.stage) false

-- whether a byte is left over: what follows changes nothing (law `settled`)
abbrev pub left_over : Stage → Bool
left_over TimerCount = false
left_over (Timers n) = false
left_over PacketCount = false
left_over (Packets n) = false
left_over Complete = false
left_over LeftOver = true

-- a sheet of which nothing has arrived
abbrev pub unsplit : Split
unsplit = record { stage = TimerCount; have = 0; held = replicate 47 0 }

-- a one-byte count and its timers, a two-byte count and its packets
abbrev pub longest_sheet : ℕ
longest_sheet = 1 + 255 * 9 + 2 + 65535 * 47

-- how many bytes may still decide something after a read: none where it gave none, or once a byte is left over
abbrev pub deciding_after : ℕ → ℕ → Bool → ℕ
deciding_after left got settled = cond (settled || eqb got 0) 0 (left - got)
