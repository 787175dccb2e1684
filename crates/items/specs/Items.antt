-- What a sheet holds (document 01, 'The sheet program'): its timers and packets in their order, out of the bytes of the input.
use Rattle.std.specs.Prelude.{ℕ, zero, suc, Bool, true, false, cond, List, [], ◌∷◌, ◌++◌, ltb, length, take, drop}
use Rattle.answer.specs.Bytes.{number_of}

-- a timer's bytes, or a packet's
pub data Item : Type 0 where
  timer : List ℕ → Item
  packet : List ℕ → Item

-- its items, and whether the input is whole, which 'input that is short, a count included, or has a byte left over' is not
pub record Contents : Type 0 where
  pub items : List Item
  pub whole : Bool

abbrev pub no_more : Bool → Contents
no_more whole = record { items = []; whole = whole }

-- some items, and then what follows
abbrev pub onto : List Item → Contents → Contents
onto is c = record { items = is ++ c.items; whole = c.whole }

-- ── sections ───────────────────────────────────────────────────────────────────────────────────────────────────────
-- the next n bytes and what is after them, if there are so many
pub data Next : Type 0 where
  short : Next
  item : List ℕ → List ℕ → Next

abbrev pub next : ℕ → List ℕ → Next
next n xs = cond (ltb (length xs) n) short (item (take n xs) (drop n xs))

-- 'or has a byte left over'
abbrev pub ended : List ℕ → Contents
ended [] = no_more true
ended (x ∷ xs) = no_more false

-- 'in the short case nothing is printed for the item cut': it is none
abbrev pub on_packet : (List ℕ → Contents) → Next → Contents
on_packet rest short = no_more false
on_packet rest (item i xs) = onto (packet i ∷ []) (rest xs)

-- n packets, and the end
unfoldable pub packets_from : ℕ → List ℕ → Contents
packets_from zero xs = ended xs
packets_from (suc n) xs = on_packet (packets_from n) (next 47 xs)

-- 'packets: a two-byte count, then 47 bytes each'
abbrev pub on_packet_count : Next → Contents
on_packet_count short = no_more false
on_packet_count (item i xs) = packets_from (number_of i) xs

abbrev pub on_timer : (List ℕ → Contents) → Next → Contents
on_timer rest short = no_more false
on_timer rest (item i xs) = onto (timer i ∷ []) (rest xs)

-- n timers, and the packets section
unfoldable pub timers_from : ℕ → List ℕ → Contents
timers_from zero xs = on_packet_count (next 2 xs)
timers_from (suc n) xs = on_timer (timers_from n) (next 9 xs)

-- 'timers: a one-byte count, then 6 bytes each', and the entry 'grows by tuner (1 byte) and length (2 bytes)' (02, #105)
abbrev pub on_timer_count : Next → Contents
on_timer_count short = no_more false
on_timer_count (item i xs) = timers_from (number_of i) xs

-- 'its input on standard input is two sections in this order, each after its count'
unfoldable pub items_of : List ℕ → Contents
items_of xs = on_timer_count (next 1 xs)
