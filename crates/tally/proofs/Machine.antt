-- A sheet's packets counted piece by piece come to what the definition over the whole input says.
use Prim.Native.Nat.{ℕ, zero, suc, ◌+◌, ◌*◌, ◌≤◌, ◌<◌}
use mathlib.Core.Path.{◌≡◌, refl, sym, ap, ◌∙◌}
use mathlib.Core.Bool.{Bool, true, false}
use mathlib.Core.List.{List, [], ◌∷◌, ◌++◌}
use native.Mathlib.Omega.{arith}
use lib.ListN.{get_or, replicate}
use Rattle.answer.specs.Lists.{count, joined}
use Rattle.items.specs.Items.{Item, Contents, items_of}
use Rattle.items.specs.Pieces.{split_after, piece_items, left_over}
use Rattle.items.specs.Laws.{found, is_packet}
use Rattle.items.proofs.Machine as split
use Rattle.items.proofs.Longest.{few_packets}
use Rattle.report.specs.declared.Tuner.{Tuner}
use Rattle.report.specs.Report.{silence, report}
use Rattle.tally.specs.declared.Tally.{Tally}
use Rattle.tally.specs.Aerial.{heard_from, aerial_of}
use Rattle.tally.specs.Pieces.{counted_item, counted_items, after_piece, blank, end_told}
use Rattle.tally.specs.Laws.{printed}
use Rattle.tally.proofs.Counting.{plus, none_plus, heard_more, heard_few}

-- some items, and then others
pub items_more : (is js : List Item) (hs : List Tuner) → counted_items (is ++ js) hs ≡ counted_items js (counted_items is hs)
unfolding counted_items
items_more [] js hs = refl
items_more (i ∷ is) js hs = items_more is js (counted_item i hs)

-- what contents print, from four tuners on
abbrev says : Contents → List Tuner → List ℕ
says c hs = report (λ k. get_or (counted_items c.items hs) k silence) c.whole

printed_says : (ps : List (List ℕ)) (t : Tally) → printed ps t ≡ says (found ps t.split) t.tuners
unfolding after_piece end_told counted_items
printed_says [] t = refl
printed_says (p ∷ ps) t =
    let is = piece_items p t.split in
    let c = found ps (split_after p t.split) in
    printed_says ps (after_piece p t)
    ∙ ap (λ (hs : List Tuner). report (λ k. get_or hs k silence) c.whole) (sym (items_more is c.items t.tuners))

pub settled : (t : Tally) (ps : List (List ℕ)) → left_over t.split.stage ≡ true → printed ps t ≡ report (λ k. get_or t.tuners k silence) false
unfolding counted_items
settled t ps e = printed_says ps t ∙ ap (λ (c : Contents). says c t.tuners) (split.settled t.split ps e)

-- a report is that of what the four tuners heard
same_report : (f g : ℕ → Tuner) (whole : Bool) → ((k : ℕ) → k < 4 → f k ≡ g k) → report f whole ≡ report g whole
unfolding report
same_report f g whole e = rw (e 0 (omega arith), e 1 (omega arith), e 2 (omega arith), e 3 (omega arith))

silent_at : (k : ℕ) → get_or (replicate 4 silence) k silence ≡ silence
silent_at zero = refl
silent_at (suc zero) = refl
silent_at (suc (suc zero)) = refl
silent_at (suc (suc (suc zero))) = refl
silent_at (suc (suc (suc (suc k)))) = refl

-- from nothing on
heard_all : (is : List Item) (k : ℕ) → k < 4 → count is_packet is ≤ 65535 → get_or (counted_items is (replicate 4 silence)) k silence ≡ heard_from k is
heard_all is k l few =
    let e = silent_at k in
    heard_more is (replicate 4 silence) k l
    (rw e (record { clean = omega arith; mended = omega arith; bytes = omega arith; refused = omega arith }))
    ∙ ap (λ (h : Tuner). plus h (heard_from k is)) e
    ∙ none_plus (heard_from k is)

pub pieces : (ps : List (List ℕ)) → ((i : ℕ) → get_or (joined ps) i 0 < 256) → printed ps blank ≡ aerial_of (joined ps)
unfolding aerial_of
pieces ps h =
    let c = items_of (joined ps) in
    printed_says ps blank
    ∙ ap (λ (c : Contents). says c (replicate 4 silence)) (split.pieces ps)
    ∙ same_report _ _ c.whole (λ k l. heard_all c.items k l (few_packets (joined ps) h))

pub small : (p : List ℕ) → ((i : ℕ) → get_or p i 0 < 256) → (k : ℕ) → let h = heard_from k (items_of p).items in
    (h.clean + h.mended + h.refused ≤ 65535) × (h.bytes ≤ 16 * 65535)
small p h k =
    let few = few_packets p h in
    let r = heard_few (items_of p).items k in
    (omega (arith, r.0), omega (arith, r.1))
