-- A sheet split byte by byte holds what the definition over the whole input says.
use Prim.Native.Nat.{ℕ, zero, suc, ◌+◌, ◌-◌, ◌≤◌, ◌<◌}
use mathlib.Core.Path.{◌≡◌, refl, sym, ap, ◌∙◌}
use mathlib.Core.Bool.{Bool, true, false, cond}
use mathlib.Core.List.{List, [], ◌∷◌, ◌++◌, append_assoc, append-nil}
use native.Mathlib.Numerals.{add-one}
use native.Mathlib.Omega.{arith}
use borrow.Author.Tests.{leb-true, leb-false, le-leb, lt-ltb, le-ltb}
use lib.Dec.{eqb, eqb-suc-zero}
use lib.ListN.{length, take, length-append, length-set}
use lib.Seq.{append_snoc, length-take-le, take-append_seam, drop-append_seam, take-suc-set}
use Rattle.answer.specs.Bytes.{number_of}
use Rattle.answer.specs.Lists.{joined}
use Rattle.answer.proofs.Every.{no_way}
use Rattle.items.specs.declared.Stage.{Stage}
use Rattle.items.specs.declared.Stage.TheVariants.{TimerCount, Timers, PacketCount, Packets, Complete, LeftOver}
use Rattle.items.specs.declared.Split.{Split}
use Rattle.items.specs.Items.{Item, timer, packet, Contents, no_more, onto, Next, short, item, next, ended, on_packet, packets_from, on_packet_count, on_timer, timers_from, on_timer_count, items_of}
use Rattle.items.specs.Pieces.{need, timers_left, packets_left, stage_after, found_at, items_found, holding, is_whole, item_of, after_item, after_byte, byte_items, split_after, piece_items, may_end, left_over, unsplit}
use Rattle.items.specs.Laws.{found}

pub onto_onto : (is js : List Item) (c : Contents) → onto (is ++ js) c ≡ onto is (onto js c)
onto_onto is js c = ap (λ (ks : List Item). record { items = ks; whole = c.whole }) (append_assoc is js c.items)

-- ── the next bytes ─────────────────────────────────────────────────────────────────────────────────────────────────
next_short : (n : ℕ) (xs : List ℕ) → length xs < n → next n xs ≡ short
next_short n xs h = rw (lt-ltb (length xs) n h)

next_item : (i xs : List ℕ) → next (length i) (i ++ xs) ≡ item i xs
next_item i xs =
    let e = length-append i xs in
    rw (le-ltb (length (i ++ xs)) (length i) (omega arith), take-append_seam i xs, drop-append_seam i xs)

-- ── the input from a stage on ──────────────────────────────────────────────────────────────────────────────────────
abbrev split_from : Stage → List ℕ → Contents
split_from TimerCount xs = on_timer_count (next 1 xs)
split_from (Timers n) xs = timers_from n xs
split_from PacketCount xs = on_packet_count (next 2 xs)
split_from (Packets n) xs = packets_from n xs
split_from Complete xs = ended xs
split_from LeftOver xs = no_more false

-- the items that an item's bytes are: one of timers and packets, and else none
abbrev items_at : Stage → List ℕ → List Item
items_at TimerCount i = []
items_at (Timers n) i = timer i ∷ []
items_at PacketCount i = []
items_at (Packets n) i = packet i ∷ []
items_at Complete i = []
items_at LeftOver i = []

found_at_lem : (st : Stage) (held : List ℕ) → items_found (found_at st) held ≡ items_at st (take (need st) held)
found_at_lem TimerCount held = refl
found_at_lem (Timers n) held = refl
found_at_lem PacketCount held = refl
found_at_lem (Packets n) held = refl
found_at_lem Complete held = refl
found_at_lem LeftOver held = refl

-- the same, by the stage's next item
abbrev on_item : Stage → Next → Contents
on_item st short = no_more (may_end st)
on_item st (item i xs) = onto (items_at st i) (split_from (stage_after st i) xs)

-- of timers and packets, one at least is left
abbrev pub Real : Stage → Type 0
Real TimerCount = Unit {0}
Real (Timers n) = 1 ≤ n
Real PacketCount = Unit {0}
Real (Packets n) = 1 ≤ n
Real Complete = Unit {0}
Real LeftOver = Unit {0}

-- the stage of what is left is that of none left, or one with some left
pub left_is : (P : ℕ → Stage → Type 0) (none : Stage) (some : ℕ → Stage) → P 0 none → ((n : ℕ) → P (suc n) (some (suc n))) →
    (n : ℕ) → P n (cond (eqb n 0) none (some n))
left_is P none some z s zero = z
left_is P none some z s (suc n) = rw (eqb-suc-zero n) (s n)

timers_left_lem : (xs : List ℕ) (n : ℕ) → split_from (timers_left n) xs ≡ timers_from n xs
unfolding timers_from
timers_left_lem xs = left_is (λ n st. split_from st xs ≡ timers_from n xs) PacketCount Timers refl (λ n. refl)

packets_left_lem : (xs : List ℕ) (n : ℕ) → split_from (packets_left n) xs ≡ packets_from n xs
unfolding packets_from
packets_left_lem xs = left_is (λ n st. split_from st xs ≡ packets_from n xs) Complete Packets refl (λ n. refl)

real_after : (st : Stage) (i : List ℕ) → Real (stage_after st i)
real_after TimerCount i = left_is (λ n. Real) PacketCount Timers tt (omega arith) (number_of i)
real_after (Timers n) i = left_is (λ n. Real) PacketCount Timers tt (omega arith) (n - 1)
real_after PacketCount i = left_is (λ n. Real) Complete Packets tt (omega arith) (number_of i)
real_after (Packets n) i = left_is (λ n. Real) Complete Packets tt (omega arith) (n - 1)
real_after Complete i = tt
real_after LeftOver i = tt

same_next : (f g : Next → Contents) → f short ≡ g short → ((i xs : List ℕ) → f (item i xs) ≡ g (item i xs)) → (x : Next) → f x ≡ g x
same_next f g s t short = s
same_next f g s t (item i xs) = t i xs

by_item : (st : Stage) → Real st → (xs : List ℕ) → split_from st xs ≡ on_item st (next (need st) xs)
unfolding timers_from packets_from
by_item TimerCount r xs =
    same_next on_timer_count (on_item TimerCount) refl (λ i ys. ap (onto []) (sym (timers_left_lem ys (number_of i)))) (next (need TimerCount) xs)
by_item (Timers zero) r xs = absurd (omega arith)
by_item (Timers (suc n)) r xs =
    let e : suc n - 1 ≡ n = omega arith in
    same_next (on_timer (timers_from n)) (on_item (Timers (suc n))) refl (λ i ys. rw (e, timers_left_lem ys n)) (next (need (Timers n)) xs)
by_item PacketCount r xs =
    same_next on_packet_count (on_item PacketCount) refl (λ i ys. ap (onto []) (sym (packets_left_lem ys (number_of i)))) (next (need PacketCount) xs)
by_item (Packets zero) r xs = absurd (omega arith)
by_item (Packets (suc n)) r xs =
    let e : suc n - 1 ≡ n = omega arith in
    same_next (on_packet (packets_from n)) (on_item (Packets (suc n))) refl (λ i ys. rw (e, packets_left_lem ys n)) (next (need (Packets n)) xs)
by_item Complete r [] = refl
by_item Complete r (x ∷ xs) = rw (next_item (x ∷ []) xs)
by_item LeftOver r xs = same_next (λ x. no_more false) (on_item LeftOver) refl (λ i ys. refl) (next (need LeftOver) xs)

-- ── a sheet that is being split ────────────────────────────────────────────────────────────────────────────────────
-- the bytes held are fewer than the next item has
pub record Splitting (s : Split) : Type 0 where
  pub real : Real s.stage
  pub part : s.have < need s.stage
  pub sized : length s.held ≡ 47

abbrev held_by : Split → List ℕ
held_by s = take s.have s.held

-- what a sheet still holds in the rest of the input
abbrev rest : Split → List ℕ → Contents
rest s xs = split_from s.stage (held_by s ++ xs)

pub need_bounds : (st : Stage) → (0 < need st) × (need st ≤ 47)
need_bounds TimerCount = omega arith
need_bounds (Timers n) = omega arith
need_bounds PacketCount = omega arith
need_bounds (Packets n) = omega arith
need_bounds Complete = omega arith
need_bounds LeftOver = omega arith

-- the end of the input finds the next item short
rest_end : (s : Split) → Splitting s → rest s [] ≡ no_more (may_end s.stage)
rest_end s p =
    let n = need_bounds s.stage in
    let l = p.part in
    let e = length-take-le s.have s.held (omega arith) in
    rw (append-nil (held_by s), by_item s.stage p.real (held_by s), next_short (need s.stage) (held_by s) (omega arith))

-- a whole item, and then the next
rest_item : (s : Split) → Real s.stage → s.have ≡ need s.stage → length s.held ≡ 47 → (xs : List ℕ) →
    rest s xs ≡ onto (items_found (found_at s.stage) s.held) (rest (after_item s) xs)
unfolding after_item
rest_item s r e l xs =
    let n = need_bounds s.stage in
    let k : length (item_of s) ≡ need s.stage = length-take-le (need s.stage) s.held (omega arith) in
    ap (λ h. split_from s.stage (take h s.held ++ xs)) e
    ∙ by_item s.stage r (item_of s ++ xs)
    ∙ ap (λ m. on_item s.stage (next m (item_of s ++ xs))) (sym k)
    ∙ ap (on_item s.stage) (next_item (item_of s) xs)
    ∙ ap (λ is. onto is (split_from (stage_after s.stage (item_of s)) xs)) (sym (found_at_lem s.stage s.held))

-- ── one more byte ──────────────────────────────────────────────────────────────────────────────────────────────────
module _ (b : ℕ) (s : Split) (p : Splitting s) where
  abbrev more : Split
  more = holding b s

  more_sized : length more.held ≡ 47
  more_sized = length-set s.held s.have b ∙ p.sized

  more_held : held_by more ≡ held_by s ++ (b ∷ [])
  more_held =
      let n = need_bounds s.stage in
      let l = p.part in
      rw (add-one s.have) (take-suc-set s.held s.have b (omega arith))

  more_rest : (xs : List ℕ) → rest s (b ∷ xs) ≡ rest more xs
  more_rest xs = ap (split_from s.stage) (rw more_held (sym (append_snoc (held_by s) b xs)))

  byte_rest : (xs : List ℕ) → rest s (b ∷ xs) ≡ onto (byte_items b s) (rest (after_byte b s) xs)
  unfolding byte_items after_byte
  byte_rest xs = more_rest xs ∙ go (is_whole more) refl
    where
      go : (w : Bool) → is_whole more ≡ w →
          rest more xs ≡ onto (cond w (items_found (found_at more.stage) more.held) []) (rest (cond w (after_item more) more) xs)
      go true e = rest_item more p.real (omega (arith, p.part, leb-true (need s.stage) (s.have + 1) e)) more_sized xs
      go false e = refl

  pub byte_splitting : Splitting (after_byte b s)
  unfolding after_byte after_item
  byte_splitting = go (is_whole more) refl
    where
      go : (w : Bool) → is_whole more ≡ w → Splitting (cond w (after_item more) more)
      go true e =
          let i = item_of more in
          record { real = real_after s.stage i; part = (need_bounds (stage_after s.stage i)).0; sized = more_sized }
      go false e = record { real = p.real; part = leb-false (need s.stage) (s.have + 1) e; sized = more_sized }

-- ── pieces ─────────────────────────────────────────────────────────────────────────────────────────────────────────
piece_splitting : (p : List ℕ) (s : Split) → Splitting s → Splitting (split_after p s)
unfolding split_after
piece_splitting [] s h = h
piece_splitting (b ∷ bs) s h = piece_splitting bs (after_byte b s) (byte_splitting b s h)

piece_rest : (p : List ℕ) (s : Split) → Splitting s → (xs : List ℕ) → rest s (p ++ xs) ≡ onto (piece_items p s) (rest (split_after p s) xs)
unfolding split_after piece_items
piece_rest [] s h xs = refl
piece_rest (b ∷ bs) s h xs =
    byte_rest b s h (bs ++ xs)
    ∙ ap (onto (byte_items b s)) (piece_rest bs (after_byte b s) (byte_splitting b s h) xs)
    ∙ sym (onto_onto (byte_items b s) (piece_items bs (after_byte b s)) (rest (split_after bs (after_byte b s)) xs))

found_rest : (ps : List (List ℕ)) (s : Split) → Splitting s → found ps s ≡ rest s (joined ps)
found_rest [] s h = sym (rest_end s h)
found_rest (p ∷ ps) s h =
    ap (onto (piece_items p s)) (found_rest ps (split_after p s) (piece_splitting p s h)) ∙ sym (piece_rest p s h (joined ps))

pub begun : Splitting unsplit
begun = record { real = tt; part = omega arith; sized = refl }

pub pieces : (ps : List (List ℕ)) → found ps unsplit ≡ items_of (joined ps)
unfolding items_of
pieces ps = found_rest ps unsplit begun

-- ── a byte left over ───────────────────────────────────────────────────────────────────────────────────────────────
is_left_over : (st : Stage) → left_over st ≡ true → st ≡ LeftOver
is_left_over TimerCount e = no_way (sym e)
is_left_over (Timers n) e = no_way (sym e)
is_left_over PacketCount e = no_way (sym e)
is_left_over (Packets n) e = no_way (sym e)
is_left_over Complete e = no_way (sym e)
is_left_over LeftOver e = refl

-- one byte more, and a piece more, hold no item
pub byte_settled : (b : ℕ) (s : Split) → s.stage ≡ LeftOver → (byte_items b s ≡ []) × ((after_byte b s).stage ≡ LeftOver)
unfolding after_byte byte_items after_item
byte_settled b s e = rw (e, le-leb 1 (s.have + 1) (omega arith)) (refl, refl)

piece_settled : (p : List ℕ) (s : Split) → s.stage ≡ LeftOver → (piece_items p s ≡ []) × ((split_after p s).stage ≡ LeftOver)
unfolding split_after piece_items
piece_settled [] s e = (refl, e)
piece_settled (b ∷ bs) s e =
    let h = byte_settled b s e in
    let t = piece_settled bs (after_byte b s) h.1 in
    (rw (h.0, t.0), t.1)

found_settled : (ps : List (List ℕ)) (s : Split) → s.stage ≡ LeftOver → found ps s ≡ no_more false
found_settled [] s e = rw e
found_settled (p ∷ ps) s e =
    let h = piece_settled p s e in
    rw h.0 (ap (onto []) (found_settled ps (split_after p s) h.1))

pub settled : (s : Split) (ps : List (List ℕ)) → left_over s.stage ≡ true → found ps s ≡ no_more false
settled s ps e = found_settled ps s (is_left_over s.stage e)
