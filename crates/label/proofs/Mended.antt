-- What is received: the label that is read, and the count of mended bytes, which are those that differ from the packet put right.
use Prim.Native.Nat.{ℕ, ◌+◌, ◌≤◌, ◌<◌}
use mathlib.Core.Path.{◌≡◌, refl, sym, ap, ap₂, ◌∙◌}
use mathlib.Core.Bool.{Bool, true, false, cond, not}
use mathlib.Core.List.{List}
use native.Mathlib.Omega.{arith}
use borrow.Author.Tests.{eq-eqb, ne_eqb, eqb-true, ltb-true, not-false}
use lib.Dec.{eqb, ltb}
use lib.ListN.{length, get_or}
use lib.Seq.{ext_get_or}
use Rattle.answer.specs.Answer.{Answer, given, Row, first_of, and_then}
use Rattle.answer.specs.Lists.{member, count}
use Rattle.answer.proofs.Cases.{by_test}
use Rattle.answer.proofs.Counts.{bit_le, count_length, count_none, none_counted, count_same}
use Rattle.answer.proofs.Every.{no_way, all_of, listed, each_listed, unlisted, Passed, accepted, first_then}
use Rattle.hamming.specs.Byte.{good, distance, away, nibble_of}
use Rattle.hamming.specs.declared.Nibble.{Nibble}
use Rattle.hamming.specs.declared.Nibble.TheVariants.{Damaged, Clean, Mended}
use Rattle.hamming.proofs.Bytes as bytes
use Rattle.hamming.proofs.Nearest.{only_mended, is_mended, mended_away}
use Rattle.label.specs.declared.Label.{Label}
use Rattle.label.specs.declared.Received.{Received}
use Rattle.label.specs.Laws.{AtEach, Good, Wrong}
use Rattle.label.specs.Packet.{reader_rows, reading_of, label_in, mended_at, mended_in, reception_of, writing_of, byte_for, value_for, put_right, value_at, value_of, damaged_at, damaged, hamming_bytes, label_bytes}
use Rattle.label.proofs.Puts.{put_length, put_in, put_other}
use Rattle.label.proofs.Places.{value_small}
use Rattle.label.proofs.Round.{back, stands, read_size, whole}
use Rattle.label.proofs.Damage.{SameAt, same_rows, same_fields, same_bytes, one_wrong}

-- ── the label that is read ─────────────────────────────────────────────────────────────────────────────────────────
pub same_label : (p : List ℕ) → and_then (reception_of p) (λ r. given r.label) ≡ reading_of p
unfolding reception_of reading_of
same_label p = first_then (λ (r : Received). r.label) (record { label = label_in p; mended = mended_in p }) (reader_rows p)

-- of what the reader answers
pub label_read : (p : List ℕ) {a : Answer Received} → a ≡ reception_of p → and_then a (λ r. given r.label) ≡ reading_of p
label_read p e = ap (λ (a : Answer Received). and_then a (λ r. given r.label)) e ∙ same_label p

-- a label with a count
abbrev with : ℕ → Label → Received
with n l = record { label = l; mended = n }

by_values : (p q : List ℕ) → length p ≡ length q → AtEach (SameAt p q) → reception_of p ≡ and_then (reading_of q) (λ l. given (with (mended_in p) l))
unfolding reception_of reading_of
by_values p q h e =
    ap₂ (λ (rows : List Row) (l : Label). first_of rows (with (mended_in p) l)) (same_rows p q h e) (same_fields p q h e)
    ∙ sym (first_then (with (mended_in p)) (label_in q) (reader_rows q))

-- ── the count ──────────────────────────────────────────────────────────────────────────────────────────────────────
mended_same : (p : List ℕ) (t : ℕ → Bool) → AtEach (λ i. mended_at p i ≡ t i) → mended_in p ≡ count t hamming_bytes
unfolding mended_in
mended_same p t e = count_same (mended_at p) t hamming_bytes (unlisted hamming_bytes e)

-- as the reader adds them: the first three, and those of the label
pub mended_sum : (p : List ℕ) {a b c n : ℕ} → a ≡ cond (mended_at p 0) 1 0 → b ≡ cond (mended_at p 1) 1 0 → c ≡ cond (mended_at p 2) 1 0 →
    n ≡ count (mended_at p) label_bytes → a + b + c + n ≡ mended_in p
unfolding mended_in
mended_sum p {a} {b} {c} {n} e f g h = regroup a b c n ∙ rw (e, f, g, h)
  where
    regroup : (a b c n : ℕ) → a + b + c + n ≡ a + (b + (c + n))
    regroup a b c n = omega arith

pub few_mended : (p : List ℕ) → mended_in p ≤ 16
unfolding mended_in
few_mended p = let l = count_length (mended_at p) hamming_bytes in omega arith

pub at_most_16 : (p : List ℕ) (r : Received) → reception_of p ≡ given r → r.mended ≤ 16
unfolding reception_of
at_most_16 p r e =
    let a = accepted (with (mended_in p) (label_in p)) r (reader_rows p) e in
    rw (ap (λ (x : Received). x.mended) (sym a.1)) (few_mended p)

pub only_received : (p q : List ℕ) → length p ≡ length q → AtEach (λ i. get_or p i 0 ≡ get_or q i 0) → reception_of p ≡ reception_of q
unfolding mended_in
only_received p q h e =
    by_values p q h (same_bytes p q e)
    ∙ ap (λ (n : ℕ). and_then (reading_of q) (λ l. given (with n l))) (mended_same p (mended_at q) (λ i m. rw (e i m)))
    ∙ sym (by_values q q refl (λ i m. (refl, refl)))

-- ── wrong bits ─────────────────────────────────────────────────────────────────────────────────────────────────────
module _ (g b : ℕ) (good : Good g) where
  wrong_mended : (t : Bool) → Wrong (cond t 1 0) g b → eqb (away b) 1 ≡ t
  wrong_mended true w = sym (mended_away b) ∙ ap is_mended (bytes.near_mended b good.0 w.0 good.1 (rw good.2 at w.1))
  wrong_mended false w = sym (mended_away b) ∙ ap is_mended (bytes.near_clean b good.0 w.0 good.1 (rw good.2 at w.1))

  wrong_same : (t : Bool) → Wrong (cond t 1 0) g b → (damaged (nibble_of b) ≡ damaged (nibble_of g)) × (value_of (nibble_of b) ≡ value_of (nibble_of g))
  wrong_same t w = let l = bit_le t in one_wrong g b good (w.0, omega arith)

pub one_each : (p q : List ℕ) (wrong : ℕ → Bool) → length p ≡ length q → AtEach (λ i. Good (get_or p i 0)) →
    AtEach (λ i. Wrong (cond (wrong i) 1 0) (get_or p i 0) (get_or q i 0)) →
    reception_of q ≡ and_then (reading_of p) (λ l. given (record { label = l; mended = count wrong hamming_bytes }))
one_each p q wrong h g w =
    by_values q p (sym h) (λ i m. wrong_same (get_or p i 0) (get_or q i 0) (g i m) (wrong i) (w i m))
    ∙ ap (λ (n : ℕ). and_then (reading_of p) (λ l. given (with n l)))
    (mended_same q wrong (λ i m. wrong_mended (get_or p i 0) (get_or q i 0) (g i m) (wrong i) (w i m)))

pub back_clean : (l : Label) (p q : List ℕ) → writing_of l p ≡ given q → reception_of q ≡ given (record { label = l; mended = 0 })
unfolding byte_for
back_clean l p q e =
    one_each q q (λ i. false) refl (λ i m. (value_for l i, value_small l i, stands l p q e i m))
    (λ i m. (rw (stands l p q e i m) (bytes.good_small (value_for l i) (value_small l i)), bytes.distance_same (get_or q i 0)))
    ∙ ap (λ (a : Answer Label). and_then a (λ l. given (with 0 l))) (back l p q e)

-- ── beside the packet put right ────────────────────────────────────────────────────────────────────────────────────
-- a byte that is not damaged differs from the good byte of its value exactly where it is mended
mended_differs : (b : ℕ) → b < 256 → damaged (nibble_of b) ≡ false → eqb (away b) 1 ≡ not (eqb b (good (value_of (nibble_of b))))
mended_differs b h w = sym (mended_away b) ∙ go (nibble_of b) refl w
  where
    go : (n : Nibble) → nibble_of b ≡ n → damaged n ≡ false → is_mended n ≡ not (eqb b (good (value_of n)))
    go Damaged e w = no_way w
    go (Clean v) e w = sym (ap not (eq-eqb b (good v) (bytes.clean_good b v h e)))
    go (Mended v) e w =
        let d = (only_mended b v e).1 in
        sym (ap not (ne_eqb b (good v) (λ s. let z = bytes.distance_same (good v) in let y : distance (good v) (good v) ≡ 1 = rw s at d in omega arith)))

module _ (p : List ℕ) (r : Received) (small : AtEach (λ i. get_or p i 0 < 256)) (e : reception_of p ≡ given r) where
  abbrev differs : ℕ → Bool
  differs i = not (eqb (get_or p i 0) (get_or (put_right p) i 0))

  taken : Passed (reader_rows p) × (with (mended_in p) (label_in p) ≡ r)
  unfolding reception_of
  taken = accepted (with (mended_in p) (label_in p)) r (reader_rows p) e

  right_at : AtEach (λ i. get_or (put_right p) i 0 ≡ good (value_at p i))
  right_at i m =
      put_in (λ i. good (value_at p i)) hamming_bytes p i m
      (rw (read_size p taken.0) (ltb-true i 42 (each_listed (λ i. ltb i 42) hamming_bytes refl i m)))

  differs_at : AtEach (λ i. mended_at p i ≡ differs i)
  differs_at i m =
      mended_differs (get_or p i 0) (small i m) (listed (λ i. damaged_at p i ≡ false) hamming_bytes (whole p taken.0) i m)
      ∙ ap (λ (b : ℕ). not (eqb (get_or p i 0) b)) (sym (right_at i m))

  pub counted : r.mended ≡ count differs hamming_bytes
  counted = sym (ap (λ (x : Received). x.mended) taken.1) ∙ mended_same p differs differs_at

  none_differs : r.mended ≡ 0 → p ≡ put_right p
  none_differs z = ext_get_or 0 p (put_right p) (sym (put_length (λ i. good (value_at p i)) hamming_bytes p)) at
    where
      at : (i : ℕ) → i < length p → get_or p i 0 ≡ get_or (put_right p) i 0
      at i l =
          by_test (member i hamming_bytes)
          (λ m. eqb-true (get_or p i 0) (get_or (put_right p) i 0) (not-false (eqb (get_or p i 0) (get_or (put_right p) i 0))
          (listed (λ i. differs i ≡ false) hamming_bytes (none_counted differs hamming_bytes (sym counted ∙ z)) i m)))
          (λ m. sym (put_other (λ i. good (value_at p i)) hamming_bytes p i m))

  none_counts : p ≡ put_right p → r.mended ≡ 0
  none_counts s =
      counted ∙ count_none differs hamming_bytes (all_of (λ i. ap not (eq-eqb (get_or p i 0) (get_or (put_right p) i 0) (ap (λ (x : List ℕ). get_or x i 0) s))) hamming_bytes)

  pub counted_0 : (r.mended ≡ 0 → p ≡ put_right p) × (p ≡ put_right p → r.mended ≡ 0)
  counted_0 = (none_differs, none_counts)
