-- How long what is printed is: no byte prints more than `longest`, so a piece that finds room is taken and stays within its share.
use Prim.Native.Nat.{ℕ, ◌+◌, ◌*◌, ◌≤◌}
use mathlib.Core.Path.{refl}
use mathlib.Core.Bool.{Bool, true, false, cond}
use mathlib.Core.List.{List, [], ◌∷◌, ◌++◌, append-nil}
use borrow.Author.Tests.{le-leb}
use native.Mathlib.Omega.{arith}
use lib.ListN.{length, take, length-append}
use Rattle.answer.specs.Answer.{Answer, refused, given, number}
use Rattle.answer.specs.Text.{space, line_feed}
use Rattle.answer.proofs.Texts.{decimal_short}
use Rattle.desk.specs.declared.Desk.{Desk}
use Rattle.desk.specs.Calls.{add_of}
use Rattle.desk.specs.Numbers.{said_by}
use Rattle.items.specs.declared.Split.{Split}
use Rattle.items.specs.declared.Found.{Found}
use Rattle.items.specs.declared.Found.TheVariants.{Nothing, Timer, Packet}
use Rattle.items.specs.Items.{Item, timer, packet}
use Rattle.items.specs.Pieces.{found_at, items_found, holding, is_whole, after_byte, byte_items, piece_items, whole_at}
use Rattle.sheet.specs.declared.Sheet.{Sheet}
use Rattle.sheet.specs.Sheet.{decimal, timer_line, packet_line, booking_in, packet_in, timer_told, packet_told, packet_left, item_told, lines_of, desk_left, last_line}
use Rattle.sheet.specs.Pieces.{piece_told, end_told, longest, fed_by, closed_by}
use Rattle.std.specs.Option.{IsSome, IfSome}
use Rattle.sheet.proofs.Machine.{lines_more}

-- a number has one digit or two
pub two_digits : (n : ℕ) → length (decimal n) ≤ 2
unfolding decimal
two_digits n = decimal_short 2 n

-- a number and the line's end
pub last_short : (n : ℕ) → length (decimal n ++ (line_feed ∷ [])) ≤ 3
last_short n = omega (arith, two_digits n, length-append (decimal n) (line_feed ∷ []))

pub timer_short : (a : Answer ℕ) → length (timer_line a) ≤ longest
timer_short (given n) = omega (arith, last_short n)
timer_short (refused n) = omega (arith, last_short n)

pub packet_short : (a n : ℕ) → length (packet_line a n) ≤ longest
packet_short a n = omega (arith, two_digits a, last_short n, length-append (decimal a) (space ∷ decimal n ++ (line_feed ∷ [])))

item_short : (i : Item) (d : Desk) → length (item_told i d) ≤ longest
unfolding timer_told packet_told
item_short (timer i) d = timer_short (said_by (add_of (booking_in i) d))
item_short (packet i) d = packet_short (number (packet_in i d)) (packet_left i d).live

-- what is found with some bytes prints one line at most
pub found_short : (f : Found) (held : List ℕ) (d : Desk) → length (lines_of (items_found f held) d) ≤ longest
unfolding lines_of
found_short Nothing held d = omega arith
found_short Timer held d = rw (append-nil (item_told (timer (take 9 held)) d)) (item_short (timer (take 9 held)) d)
found_short Packet held d = rw (append-nil (item_told (packet (take 47 held)) d)) (item_short (packet (take 47 held)) d)

-- so does one byte
byte_short : (b : ℕ) (s : Split) (d : Desk) → length (lines_of (byte_items b s) d) ≤ longest
unfolding byte_items lines_of
byte_short b s d = go (is_whole t)
  where
    t : Split
    t = holding b s

    go : (w : Bool) → length (lines_of (cond w (items_found (found_at t.stage) t.held) []) d) ≤ longest
    go true = found_short (found_at t.stage) t.held d
    go false = omega arith

items_short : (p : List ℕ) (s : Split) (d : Desk) → length (lines_of (piece_items p s) d) ≤ longest * length p
unfolding piece_items lines_of
items_short [] s d = omega arith
items_short (b ∷ bs) s d =
    let is = byte_items b s in
    let js = piece_items bs (after_byte b s) in
    let e = desk_left is d in
    rw (lines_more is js d) (omega (arith, byte_short b s d, items_short bs (after_byte b s) e, length-append (lines_of is d) (lines_of js e)))

piece_short : (p : List ℕ) (s : Sheet) → length (piece_told p s) ≤ longest * length p
unfolding piece_told
piece_short p s = items_short p s.split s.desk

end_short : (ended : Bool) (s : Sheet) → length (end_told ended s) ≤ longest
unfolding end_told
end_short ended s = go (whole_at ended s.split)
  where
    go : (w : Bool) → length (last_line w s.desk) ≤ longest
    go true = omega (arith, last_short s.desk.live)
    go false = omega (arith, last_short s.desk.live)

-- where there is room a piece is taken, and stays within its share of it; so is the last line
pub fed : (piece out : List ℕ) (at : ℕ) (s : Sheet) → at + longest * length piece ≤ length out →
    IsSome (fed_by piece out at s) × IfSome (fed_by piece out at s) (λ f. f.at ≤ at + longest * length piece)
unfolding fed_by
fed piece out at s h = rw (le-leb (at + longest * length piece) (length out) h) (refl, omega (arith, piece_short piece s))

pub closed : (ended : Bool) (out : List ℕ) (at : ℕ) (s : Sheet) → at + longest ≤ length out →
    IsSome (closed_by ended out at s) × IfSome (closed_by ended out at s) (λ r. r ≤ at + longest)
unfolding closed_by
closed ended out at s h = rw (le-leb (at + longest) (length out) h) (refl, omega (arith, end_short ended s))
