-- Packets counted one by one come to the counts over all of them.
use Prim.Native.Nat.{ℕ, ◌+◌, ◌*◌, ◌≤◌, ◌<◌}
use mathlib.Core.Path.{◌≡◌, refl, sym, ap, ◌∙◌}
use mathlib.Core.Bool.{Bool, true, false, cond, not}
use mathlib.Core.List.{List, [], ◌∷◌}
use native.Mathlib.Omega.{arith}
use native.Mathlib.Nat.{add-zero, zero-add}
use borrow.Author.Tests.{le-leb, eqb-true, eqb-false}
use lib.Dec.{eqb}
use lib.ListN.{length, take, drop, get_or, set, length-set, length-drop}
use lib.Seq.{take_all, get_or-set_same, get_or-set_other}
use Rattle.answer.specs.Answer.{Answer, refused, given}
use Rattle.answer.specs.Lists.{count}
use Rattle.answer.proofs.Cases.{by_test}
use Rattle.answer.proofs.Counts.{bit_le}
use Rattle.answer.proofs.Every.{first_holds}
use Rattle.label.specs.declared.Received.{Received}
use Rattle.label.specs.Packet.{reader_rows, label_in, mended_in, reception_of}
use Rattle.label.proofs.Mended.{few_mended}
use Rattle.items.specs.Items.{Item, timer, packet}
use Rattle.items.specs.Laws.{is_packet}
use Rattle.report.specs.declared.Tuner.{Tuner}
use Rattle.report.specs.Report.{silence}
use Rattle.tally.specs.Aerial.{tuner_in, reception_in, receptions, is_clean, is_mended, mended_bytes, mended_in_all, is_refused, heard_from}
use Rattle.tally.specs.Pieces.{most, grown, after_packet, counted_item, counted_items}

-- ── its bytes ──────────────────────────────────────────────────────────────────────────────────────────────────────
pub packet_at : (held : List ℕ) (hs : List Tuner) → length held ≡ 47 →
    counted_item (packet (take 47 held)) hs
    ≡ set hs (get_or held 4 0) (after_packet (reception_of (take 42 (drop 5 held))) (get_or hs (get_or held 4 0) silence))
packet_at held hs h = rw (take_all 47 held (omega arith), take_all 42 (drop 5 held) (omega (arith, length-drop 5 held)))

-- ── one packet ─────────────────────────────────────────────────────────────────────────────────────────────────────
-- no packet has more than sixteen mended bytes
mended_small : (p : List ℕ) → mended_bytes (reception_of p) ≤ 16
unfolding reception_of
mended_small p =
    first_holds (λ x. mended_bytes x ≤ 16) (record { label = label_in p; mended = mended_in p }) (reader_rows p) (omega arith) (λ none. few_mended p)

heard_is : {a b c d p q r s : ℕ} → a ≡ p → b ≡ q → c ≡ r → d ≡ s →
    ◌≡◌ {A = Tuner} (record { clean = a; mended = b; bytes = c; refused = d }) (record { clean = p; mended = q; bytes = r; refused = s })
heard_is e f g h = λ i. record { clean = e i; mended = f i; bytes = g i; refused = h i }

-- what it is counted as
abbrev one : Answer Received → Tuner
one a = record { clean = cond (is_clean a) 1 0; mended = cond (is_mended a) 1 0; bytes = mended_bytes a; refused = cond (is_refused a) 1 0 }

abbrev pub plus : Tuner → Tuner → Tuner
plus h g = record { clean = h.clean + g.clean; mended = h.mended + g.mended; bytes = h.bytes + g.bytes; refused = h.refused + g.refused }

-- there is room for n packets more
pub record Room (n : ℕ) (h : Tuner) : Type 0 where
  pub clean : h.clean + n ≤ most
  pub mended : h.mended + n ≤ most
  pub bytes : h.bytes + 16 * n ≤ most
  pub refused : h.refused + n ≤ most

grown_is : (n k : ℕ) → n + k ≤ most → grown n k ≡ n + k
unfolding grown
grown_is n k h = rw (le-leb (n + k) most h)

packet_plus : (a : Answer Received) (h : Tuner) → mended_bytes a ≤ 16 → Room 1 h → after_packet a h ≡ plus h (one a)
packet_plus (refused n) h l r =
    heard_is (sym (add-zero h.clean)) (sym (add-zero h.mended)) (sym (add-zero h.bytes)) (grown_is h.refused 1 r.refused)
packet_plus (given x) h l r =
    by_test (eqb x.mended 0)
    (λ e.
    let z : x.mended ≡ 0 = eqb-true x.mended 0 e in
    rw z (heard_is (grown_is h.clean 1 r.clean) (sym (add-zero h.mended)) (sym (add-zero h.bytes)) (sym (add-zero h.refused))))
    (λ e.
    rw e
    (heard_is (sym (add-zero h.clean)) (grown_is h.mended 1 r.mended) (grown_is h.bytes x.mended (omega (arith, r.bytes)))
    (sym (add-zero h.refused))))

-- ── all of them ────────────────────────────────────────────────────────────────────────────────────────────────────
plus_none : (h : Tuner) → plus h silence ≡ h
plus_none h = heard_is (add-zero h.clean) (add-zero h.mended) (add-zero h.bytes) (add-zero h.refused)

pub none_plus : (h : Tuner) → plus silence h ≡ h
none_plus h = heard_is (zero-add h.clean) (zero-add h.mended) (zero-add h.bytes) (zero-add h.refused)

plus_plus : (h g f : Tuner) → plus (plus h g) f ≡ plus h (plus g f)
plus_plus h g f =
    heard_is (sums h.clean g.clean f.clean) (sums h.mended g.mended f.mended) (sums h.bytes g.bytes f.bytes)
    (sums h.refused g.refused f.refused)
  where
    sums : (a b c : ℕ) → a + b + c ≡ a + (b + c)
    sums a b c = omega arith

fewer : (m n : ℕ) (h : Tuner) → m ≤ n → Room n h → Room m h
fewer m n h l r = record {
  clean = omega (arith, r.clean);
  mended = omega (arith, r.mended);
  bytes = omega (arith, r.bytes);
  refused = omega (arith, r.refused);
}

room_less : (n : ℕ) (a : Answer Received) (h : Tuner) → mended_bytes a ≤ 16 → Room (1 + n) h → Room n (plus h (one a))
room_less n a h l r = record {
  clean = omega (arith, r.clean, bit_le (is_clean a));
  mended = omega (arith, r.mended, bit_le (is_mended a));
  bytes = omega (arith, r.bytes);
  refused = omega (arith, r.refused, bit_le (is_refused a));
}

-- of some answers of the reader
abbrev heard_by : List (Answer Received) → Tuner
heard_by rs = record { clean = count is_clean rs; mended = count is_mended rs; bytes = mended_in_all rs; refused = count is_refused rs }

-- the packets of one tuner
pub heard_more : (is : List Item) (hs : List Tuner) (k : ℕ) → k < length hs → Room (count is_packet is) (get_or hs k silence) →
    get_or (counted_items is hs) k silence ≡ plus (get_or hs k silence) (heard_from k is)
unfolding counted_items heard_from receptions
heard_more [] hs k l r = sym (plus_none (get_or hs k silence))
heard_more (timer i ∷ is) hs k l r = heard_more is hs k l (fewer (count is_packet is) (count is_packet (timer i ∷ is)) (get_or hs k silence) (omega arith) r)
heard_more (packet i ∷ is) hs k l r = go (eqb j k) refl (heard_more is more k (omega (arith, length-set hs j (after_packet a (get_or hs j silence)))))
  where
    j : ℕ
    j = tuner_in i

    a : Answer Received
    a = reception_in i

    small : mended_bytes a ≤ 16
    small = mended_small (drop 5 i)

    n : ℕ
    n = count is_packet is

    rs : List (Answer Received)
    rs = receptions k is

    h : Tuner
    h = get_or hs k silence

    more : List Tuner
    more = counted_item (packet i) hs

    -- at this tuner one packet more, and at the others none
    here : j ≡ k → get_or more k silence ≡ plus h (one a)
    here q =
        ap (λ (m : ℕ). get_or (set hs m (after_packet a (get_or hs m silence))) k silence) q
        ∙ get_or-set_same hs k (after_packet a h) silence l
        ∙ packet_plus a h small (fewer 1 (1 + n) h (omega arith) r)

    there : (j ≡ k → ⊥) → get_or more k silence ≡ h
    there q = get_or-set_other hs j k (after_packet a (get_or hs j silence)) silence (λ e. q (sym e))

    go : (w : Bool) → eqb j k ≡ w → (Room n (get_or more k silence) → get_or (counted_items is more) k silence ≡ plus (get_or more k silence) (heard_by rs)) →
        get_or (counted_items is more) k silence ≡ plus h (heard_by (cond w (a ∷ rs) rs))
    go true e ih =
        let q = here (eqb-true j k e) in
        ih (rw q (room_less n a h small r)) ∙ ap (λ (x : Tuner). plus x (heard_by rs)) q ∙ plus_plus h (one a) (heard_by rs)
    go false e ih =
        let q = there (eqb-false j k e) in
        ih (rw q (fewer n (1 + n) h (omega arith) r)) ∙ ap (λ (x : Tuner). plus x (heard_by rs)) q

-- ── how much they come to ──────────────────────────────────────────────────────────────────────────────────────────
abbrev Few : ℕ → Tuner → Type 0
Few m h = (h.clean + h.mended + h.refused ≤ m) × (h.bytes ≤ 16 * m)

-- so many packets at most came from each tuner, with sixteen mended bytes each
pub heard_few : (is : List Item) (k : ℕ) → Few (count is_packet is) (heard_from k is)
unfolding heard_from receptions
heard_few [] k = (omega arith, omega arith)
heard_few (timer i ∷ is) k = let r = heard_few is k in (omega (arith, r.0), omega (arith, r.1))
heard_few (packet i ∷ is) k = go (eqb (tuner_in i) k) (reception_in i) (mended_small (drop 5 i)) (heard_few is k)
  where
    n : ℕ
    n = count is_packet is

    rs : List (Answer Received)
    rs = receptions k is

    one_few : (a : Answer Received) → mended_bytes a ≤ 16 → Few n (heard_by rs) → Few (1 + n) (heard_by (a ∷ rs))
    one_few (refused m) l r = (omega (arith, r.0), omega (arith, r.1))
    one_few (given x) l r =
        by_test (eqb x.mended 0) (λ e. rw e (omega (arith, r.0), omega (arith, r.1))) (λ e. rw e (omega (arith, r.0), omega (arith, r.1)))

    go : (w : Bool) (a : Answer Received) → mended_bytes a ≤ 16 → Few n (heard_by rs) → Few (1 + n) (heard_by (cond w (a ∷ rs) rs))
    go true a l r = one_few a l r
    go false a l r = (omega (arith, r.0), omega (arith, r.1))

-- each is counted once
one_counted : (a : Answer Received) → cond (is_clean a) 1 0 + cond (is_mended a) 1 0 + cond (is_refused a) 1 0 ≡ 1
one_counted (refused n) = refl
one_counted (given r) = go (eqb r.mended 0)
  where
    go : (t : Bool) → cond t 1 0 + cond (not t) 1 0 + 0 ≡ 1
    go true = refl
    go false = refl

all_counted : (rs : List (Answer Received)) → count is_clean rs + count is_mended rs + count is_refused rs ≡ length rs
all_counted [] = refl
all_counted (a ∷ rs) = omega (arith, one_counted a, all_counted rs)

pub once : (k : ℕ) (is : List Item) → let h = heard_from k is in h.clean + h.mended + h.refused ≡ length (receptions k is)
unfolding heard_from
once k is = all_counted (receptions k is)
