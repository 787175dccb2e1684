-- No sheet is longer than a count, 255 timers, a count and 65,535 packets: after one byte more, one is left over; and none holds more packets.
use Prim.Native.Nat.{ℕ, zero, suc, ◌+◌, ◌-◌, ◌*◌, ◌≤◌, ◌<◌}
use mathlib.Core.Path.{◌≡◌, refl, sym}
use mathlib.Core.Bool.{Bool, true, false, cond}
use mathlib.Core.List.{List, [], ◌∷◌}
use mathlib.Core.Logic.{◌⊎◌, inl, inr, ⊎_elim}
use native.Mathlib.Nat.{add-zero}
use native.Mathlib.Omega.{arith}
use borrow.Author.Tests.{leb-true, ltb-false}
use lib.Dec.{ltb}
use lib.ListN.{length, take, drop, set, get_or, replicate, length-set}
use lib.Seq.{length-take-le}
use Rattle.answer.specs.Bytes.{number_of}
use Rattle.answer.specs.Lists.{count}
use Rattle.answer.proofs.Cases.{by_test}
use Rattle.answer.proofs.Every.{All}
use Rattle.items.specs.declared.Stage.{Stage}
use Rattle.items.specs.declared.Stage.TheVariants.{TimerCount, Timers, PacketCount, Packets, Complete, LeftOver}
use Rattle.items.specs.declared.Split.{Split}
use Rattle.items.specs.Items.{Contents, Next, short, item, next, ended, on_packet, packets_from, on_packet_count, on_timer, timers_from, on_timer_count, items_of}
use Rattle.items.specs.Pieces.{need, stage_after, holding, is_whole, item_of, after_item, after_byte, split_after, left_over, unsplit, longest_sheet}
use Rattle.items.specs.Laws.{is_packet}
use Rattle.items.proofs.Machine.{Real, left_is, Splitting, need_bounds, begun, byte_splitting, byte_settled}

-- ── bytes ──────────────────────────────────────────────────────────────────────────────────────────────────────────
abbrev Bytes : List ℕ → Type 0
Bytes = All (λ b. b < 256)

bytes : (p : List ℕ) → ((i : ℕ) → get_or p i 0 < 256) → Bytes p
bytes [] h = tt
bytes (b ∷ bs) h = (h 0, bytes bs (λ i. h (suc i)))

zeros : (n : ℕ) → Bytes (replicate n 0)
zeros zero = tt
zeros (suc n) = (omega arith, zeros n)

bytes_set : (xs : List ℕ) (i b : ℕ) → b < 256 → Bytes xs → Bytes (set xs i b)
bytes_set [] i b l h = tt
bytes_set (x ∷ xs) zero b l h = (l, h.1)
bytes_set (x ∷ xs) (suc i) b l h = (h.0, bytes_set xs i b l h.1)

bytes_take : (n : ℕ) (xs : List ℕ) → Bytes xs → Bytes (take n xs)
bytes_take zero xs h = tt
bytes_take (suc n) [] h = tt
bytes_take (suc n) (x ∷ xs) h = (h.0, bytes_take n xs h.1)

-- what a count of one byte, and of two, comes to at most
one_byte : (i : List ℕ) → length i ≡ 1 → Bytes i → number_of i ≤ 255
one_byte [] e h = absurd (omega arith)
one_byte (b ∷ []) e h = omega (arith, h.0)
one_byte (b ∷ c ∷ i) e h = absurd (omega arith)

two_bytes : (i : List ℕ) → length i ≡ 2 → Bytes i → number_of i ≤ 65535
two_bytes [] e h = absurd (omega arith)
two_bytes (a ∷ []) e h = absurd (omega arith)
two_bytes (a ∷ b ∷ []) e h = omega (arith, h.0, h.1.0)
two_bytes (a ∷ b ∷ c ∷ i) e h = absurd (omega arith)

-- ── what a sheet can still take ────────────────────────────────────────────────────────────────────────────────────
abbrev room : Stage → ℕ
room TimerCount = longest_sheet
room (Timers n) = n * 9 + (2 + 65535 * 47)
room PacketCount = 2 + 65535 * 47
room (Packets n) = n * 47
room Complete = 0
room LeftOver = 0

abbrev Over : Stage → Type 0
Over st = st ≡ LeftOver

-- an item takes its bytes from it
item_room : (st : Stage) → Real st → (i : List ℕ) → length i ≡ need st → Bytes i →
    Over (stage_after st i) ⊎ (room (stage_after st i) + need st ≤ room st)
item_room TimerCount r i e h =
    inr (left_is (λ n st. n ≤ 255 → room st + 1 ≤ longest_sheet) PacketCount Timers (λ l. omega arith) (λ n l. omega arith) (number_of i) (one_byte i e h))
item_room (Timers n) r i e h =
    let l = left_is (λ m st. room st ≤ m * 9 + (2 + 65535 * 47)) PacketCount Timers (omega arith) (λ m. omega arith) (n - 1) in
    inr (omega arith)
item_room PacketCount r i e h =
    inr (left_is (λ n st. n ≤ 65535 → room st + 2 ≤ 2 + 65535 * 47) Complete Packets (λ l. omega arith) (λ n l. omega arith) (number_of i) (two_bytes i e h))
item_room (Packets n) r i e h =
    let l = left_is (λ m st. room st ≤ m * 47) Complete Packets (omega arith) (λ m. omega arith) (n - 1) in
    inr (omega arith)
item_room Complete r i e h = inl refl
item_room LeftOver r i e h = inl refl

-- and what is held of an item fits in it
need_room : (st : Stage) → Real st → need st ≤ room st + 1
need_room TimerCount r = omega arith
need_room (Timers n) r = omega arith
need_room PacketCount r = omega arith
need_room (Packets n) r = omega arith
need_room Complete r = omega arith
need_room LeftOver r = omega arith

-- after k bytes
abbrev Fits : ℕ → Split → Type 0
Fits k s = Over s.stage ⊎ (k + room s.stage ≤ longest_sheet + s.have)

record After (k : ℕ) (s : Split) : Type 0 where
  splitting : Splitting s
  held : Bytes s.held
  fits : Fits k s

one_more : (k b : ℕ) (s : Split) → b < 256 → After k s → After (k + 1) (after_byte b s)
unfolding after_byte after_item
one_more k b s l a = record { splitting = byte_splitting b s a.splitting; held = held_after (is_whole t); fits = ⊎_elim over within a.fits }
  where
    t : Split
    t = holding b s

    t_held : Bytes t.held
    t_held = bytes_set s.held s.have b l a.held

    held_after : (w : Bool) → Bytes (cond w (after_item t) t).held
    held_after true = t_held
    held_after false = t_held

    over : Over s.stage → Fits (k + 1) (after_byte b s)
    over e = inl (byte_settled b s e).1

    within : k + room s.stage ≤ longest_sheet + s.have → Fits (k + 1) (after_byte b s)
    within h = go (is_whole t) refl
      where
        go : (w : Bool) → is_whole t ≡ w → Fits (k + 1) (cond w (after_item t) t)
        go true e =
            let n = leb-true (need s.stage) (s.have + 1) e in
            let p = a.splitting.part in
            let sized = length-take-le (need s.stage) t.held (omega (arith, need_bounds s.stage, length-set s.held s.have b, a.splitting.sized)) in
            ⊎_elim inl (λ r. inr (omega arith)) (item_room s.stage a.splitting.real (item_of t) sized (bytes_take (need s.stage) t.held t_held))
        go false e = inr (omega arith)

all : (k : ℕ) (p : List ℕ) (s : Split) → Bytes p → After k s → After (k + length p) (split_after p s)
unfolding split_after
all k [] s h a = rw (add-zero k) a
all k (b ∷ bs) s h a =
    let e : k + 1 + length bs ≡ k + length (b ∷ bs) = omega arith in
    rw (sym e) (all (k + 1) bs (after_byte b s) h.1 (one_more k b s h.0 a))

pub longest_sheet_lem : (p : List ℕ) → ((i : ℕ) → get_or p i 0 < 256) → longest_sheet < length p → left_over (split_after p unsplit).stage ≡ true
longest_sheet_lem p h l =
    let s = split_after p unsplit in
    let a = all 0 p unsplit (bytes p h) (record { splitting = begun; held = zeros 47; fits = inr (omega arith) }) in
    ⊎_elim (λ e. rw e) (λ f. absurd (omega (arith, need_room s.stage a.splitting.real, a.splitting.part))) a.fits

-- ── how many packets a sheet holds ─────────────────────────────────────────────────────────────────────────────────
bytes_drop : (n : ℕ) (xs : List ℕ) → Bytes xs → Bytes (drop n xs)
bytes_drop zero xs h = h
bytes_drop (suc n) [] h = tt
bytes_drop (suc n) (x ∷ xs) h = bytes_drop n xs h.1

next_is : (P : Next → Type 0) (n : ℕ) (xs : List ℕ) → P short → (n ≤ length xs → P (item (take n xs) (drop n xs))) → P (next n xs)
next_is P n xs s i = by_test (ltb (length xs) n) (λ e. rw e s) (λ e. rw e (i (ltb-false (length xs) n e)))

abbrev packets_in : Contents → ℕ
packets_in c = count is_packet c.items

ended_few : (xs : List ℕ) → packets_in (ended xs) ≤ 0
ended_few [] = omega arith
ended_few (x ∷ xs) = omega arith

counted_few : (n : ℕ) (xs : List ℕ) → packets_in (packets_from n xs) ≤ n
unfolding packets_from
counted_few zero xs = ended_few xs
counted_few (suc n) xs = next_is (λ x. packets_in (on_packet (packets_from n) x) ≤ suc n) 47 xs (omega arith) (λ l. omega (arith, counted_few n (drop 47 xs)))

section_few : (xs : List ℕ) → Bytes xs → packets_in (on_packet_count (next 2 xs)) ≤ 65535
section_few xs h =
    next_is (λ x. packets_in (on_packet_count x) ≤ 65535) 2 xs (omega arith)
    (λ l. omega (arith, counted_few (number_of (take 2 xs)) (drop 2 xs), two_bytes (take 2 xs) (length-take-le 2 xs l) (bytes_take 2 xs h)))

timers_few : (n : ℕ) (xs : List ℕ) → Bytes xs → packets_in (timers_from n xs) ≤ 65535
unfolding timers_from
timers_few zero xs h = section_few xs h
timers_few (suc n) xs h =
    next_is (λ x. packets_in (on_timer (timers_from n) x) ≤ 65535) 9 xs (omega arith) (λ l. omega (arith, timers_few n (drop 9 xs) (bytes_drop 9 xs h)))

pub few_packets : (p : List ℕ) → ((i : ℕ) → get_or p i 0 < 256) → packets_in (items_of p) ≤ 65535
unfolding items_of
few_packets p h =
    next_is (λ x. packets_in (on_timer_count x) ≤ 65535) 1 p (omega arith)
    (λ l. timers_few (number_of (take 1 p)) (drop 1 p) (bytes_drop 1 p (bytes p h)))
