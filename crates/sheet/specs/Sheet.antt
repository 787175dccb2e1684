-- What a sheet prints (document 01, 'The sheet program'): one definition over the bytes of the input.
use Rattle.std.specs.Prelude.{ℕ, Bool, cond, List, [], ◌∷◌, ◌++◌, take, drop, get_or}
use Rattle.answer.specs.Answer.{Answer, refused, given, number, after}
use Rattle.answer.specs.Bytes.{number_of}
use Rattle.answer.specs.Text.{space, line_feed, decimal_in}
use Rattle.items.specs.Items.{Item, timer, packet, items_of}
use Rattle.matching.specs.declared.Booking.{Booking}
use Rattle.desk.specs.declared.Desk.{Desk}
use Rattle.desk.specs.Moments.{fresh}
use Rattle.desk.specs.Calls.{packet_of, add_of}
use Rattle.desk.specs.Numbers.{said_by, left_by}

-- ── lines ──────────────────────────────────────────────────────────────────────────────────────────────────────────
-- 'slots, answers and counts are decimal'; two digits hold each of them (laws `small-…`)
unfoldable pub decimal : ℕ → List ℕ
decimal n = decimal_in 2 n

-- '`T slot` or `T !number` per timer'
abbrev pub timer_line : Answer ℕ → List ℕ
timer_line (given slot) = 84 ∷ space ∷ decimal slot ++ (line_feed ∷ [])
timer_line (refused n) = 84 ∷ space ∷ 33 ∷ decimal n ++ (line_feed ∷ [])

-- '`P answer live` per packet (0 or the refusal; the count of live timers after it)', here and below as the desk keeps it (02, #106; law
-- `full_count`)
abbrev pub packet_line : ℕ → ℕ → List ℕ
packet_line answer live = 80 ∷ space ∷ decimal answer ++ (space ∷ decimal live ++ (line_feed ∷ []))

-- 'then `Z live`'
abbrev pub end_line : Desk → List ℕ
end_line d = 90 ∷ space ∷ decimal d.live ++ (line_feed ∷ [])

-- '`X live` in place of `Z live`'
abbrev pub broken_line : Desk → List ℕ
broken_line d = 88 ∷ space ∷ decimal d.live ++ (line_feed ∷ [])

-- ── items ──────────────────────────────────────────────────────────────────────────────────────────────────────────
-- '6 bytes each: CNI 2, PIL 3, year 1'; the entry 'grows by tuner (1 byte) and length (2 bytes)' (02, #105)
abbrev pub booking_in : List ℕ → Booking
booking_in item = record {
  cni = number_of (take 2 item);
  pil = number_of (take 3 (drop 2 item));
  year = get_or item 5 0;
  tuner = get_or item 6 0;
  length = number_of (take 2 (drop 7 item));
}

unfoldable pub timer_told : List ℕ → Desk → List ℕ
timer_told item d = timer_line (said_by (add_of (booking_in item) d))

unfoldable pub timer_left : List ℕ → Desk → Desk
timer_left item d = left_by d (add_of (booking_in item) d)

-- '47 bytes each: time 4, tuner 1, packet 42'
abbrev pub packet_in : List ℕ → Desk → Answer Desk
packet_in item d = packet_of (get_or item 4 0) (number_of (take 4 item)) (drop 5 item) d

unfoldable pub packet_left : List ℕ → Desk → Desk
packet_left item d = after d (packet_in item d)

unfoldable pub packet_told : List ℕ → Desk → List ℕ
packet_told item d = packet_line (number (packet_in item d)) (packet_left item d).live

-- what an item prints, and the desk that it leaves
abbrev pub item_told : Item → Desk → List ℕ
item_told (timer i) d = timer_told i d
item_told (packet i) d = packet_told i d

abbrev pub item_left : Item → Desk → Desk
item_left (timer i) d = timer_left i d
item_left (packet i) d = packet_left i d

-- and several, one after the other
unfoldable pub lines_of : List Item → Desk → List ℕ
lines_of [] d = []
lines_of (i ∷ is) d = item_told i d ++ lines_of is (item_left i d)

unfoldable pub desk_left : List Item → Desk → Desk
desk_left [] d = d
desk_left (i ∷ is) d = desk_left is (item_left i d)

-- ── the sheet ──────────────────────────────────────────────────────────────────────────────────────────────────────
-- 'input that is short, a count included, or has a byte left over ends with `X live` in place of `Z live`'
abbrev pub last_line : Bool → Desk → List ℕ
last_line whole d = cond whole (end_line d) (broken_line d)

-- its items (`items_of`, of the crate `items`) make a fresh desk say this
unfoldable pub sheet_of : List ℕ → List ℕ
sheet_of xs = let c = items_of xs in lines_of c.items fresh ++ last_line c.whole (desk_left c.items fresh)
