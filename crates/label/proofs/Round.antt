-- What is written is read back; what is read, written over it, is that packet put right; the writer keeps the rest.
use Prim.Native.Nat.{ℕ, ◌^◌, ◌<◌}
use mathlib.Core.Path.{◌≡◌, refl, sym, ap, fun_ext, ◌∙◌}
use mathlib.Core.Bool.{Bool, true, false, not, ◌&&◌, ◌||◌}
use mathlib.Core.List.{List}
use native.Mathlib.Omega.{arith}
use borrow.Author.Tests.{eq-eqb, eqb-true, ltb-true, ltb-false, lt-leb, leb-false, not-false}
use lib.Dec.{eqb, ltb}
use lib.ListN.{length, get_or}
use Rattle.answer.specs.Answer.{given}
use Rattle.hamming.specs.Byte.{good, nibble_of}
use Rattle.hamming.specs.declared.Nibble.TheVariants.{Clean}
use Rattle.hamming.proofs.Bytes as bytes
use Rattle.answer.proofs.Cases.{both_true, both_false}
use Rattle.label.specs.declared.Label.{Label}
use Rattle.label.specs.Layout.{Field, designation, fields, positions, field_of, label_by, field_by}
use Rattle.answer.specs.Lists.{some, member}
use Rattle.label.specs.Packet.{reader_rows, reading_of, label_in, writer_rows, writing_of, put, byte_for, value_for, nibble_at, value_at, value_of, damaged_at, damaged, format2, unfit, too_wide, hamming_bytes, label_bytes}
use Rattle.answer.proofs.Every.{All, all_of, all_map, listed, each_listed, unlisted, some_none, none_some, Passed, passed, accepted}
use Rattle.label.proofs.Nibbles.{over}
use Rattle.label.proofs.Puts.{put_length, put_in, put_other, put_same}
use Rattle.label.proofs.Places.{fielded, sent_bytes, field_same, designation_of, value_small, field_back, field_fits, sent_again}

-- ── read back ──────────────────────────────────────────────────────────────────────────────────────────────────────
module _ (l : Label) (u : unfit l ≡ false) where
  fits : (f : Field) → field_of f l < 2 ^ length (positions f)
  fits f =
      leb-false (2 ^ length (positions f)) (field_of f l)
      (fielded (λ f. too_wide l f ≡ false) (some_none (too_wide l) fields (both_false (some (too_wide l) fields) (not (format2 l.designation)) u).0) f)

  format : format2 (value_for l 2) ≡ true
  format =
      ap format2 (sym (designation_of (value_for l) (value_small l 2)) ∙ field_back l designation (fits designation))
      ∙ not-false (format2 l.designation) (both_false (some (too_wide l) fields) (not (format2 l.designation)) u).1

  -- a packet with the values of the label reads as the label
  reads : (q : List ℕ) → length q ≡ 42 → All (λ i. nibble_at q i ≡ Clean (value_for l i)) hamming_bytes → reading_of q ≡ given l
  unfolding reading_of
  reads q h n =
      let whole = all_map (λ i. nibble_at q i ≡ Clean (value_for l i)) (λ i. damaged_at q i ≡ false) (λ i e. ap damaged e) label_bytes n.1.1.1 in
      let values = all_map (λ i. nibble_at q i ≡ Clean (value_for l i)) (λ i. value_at q i ≡ value_for l i) (λ i e. ap value_of e) sent_bytes n.1.1 in
      passed (label_in q) (reader_rows q) (
        rw (eq-eqb (length q) 42 h),
        (
          rw (n.0, n.1.0),
          (rw (n.0, n.1.0), (rw n.1.1.0, (rw (n.1.1.0, format), (none_some (damaged_at q) label_bytes whole, tt)))),
        ),
      )
      ∙ ap given (ap label_by (fun_ext (λ f. field_same (value_at q) (value_for l) values f ∙ field_back l f (fits f))))

module _ (l : Label) (p q : List ℕ) (e : writing_of l p ≡ given q) where
  written : Passed (writer_rows l p) × (put (byte_for l) hamming_bytes p ≡ q)
  unfolding writing_of
  written = accepted (put (byte_for l) hamming_bytes p) q (writer_rows l p) e

  size : length p ≡ 42
  size = eqb-true (length p) 42 (not-false (eqb (length p) 42) written.0.0)

  pub stands : (i : ℕ) → member i hamming_bytes ≡ true → get_or q i 0 ≡ byte_for l i
  stands i m =
      ap (λ (x : List ℕ). get_or x i 0) (sym written.1)
      ∙ put_in (byte_for l) hamming_bytes p i m
      (rw size (ltb-true i 42 (each_listed (λ i. ltb i 42) hamming_bytes refl i m)))

  pub back : reading_of q ≡ given l
  unfolding byte_for
  back =
      reads l written.0.1.0 q (ap length (sym written.1) ∙ put_length (byte_for l) hamming_bytes p ∙ size)
      (unlisted hamming_bytes (λ i m. ap nibble_of (stands i m) ∙ bytes.sent (value_for l i) (value_small l i)))

  pub kept : (length q ≡ length p) × ((i : ℕ) → member i hamming_bytes ≡ false → get_or q i 0 ≡ get_or p i 0)
  kept = rw (← written.1) (put_length (byte_for l) hamming_bytes p, put_other (byte_for l) hamming_bytes p)

-- ── put right ──────────────────────────────────────────────────────────────────────────────────────────────────────
module _ (p : List ℕ) (t : Passed (reader_rows p)) where
  pub read_size : length p ≡ 42
  read_size = eqb-true (length p) 42 (not-false (eqb (length p) 42) t.0)

  -- none of the sixteen bytes is damaged
  pub whole : All (λ i. damaged_at p i ≡ false) hamming_bytes
  whole =
      let a = both_false (damaged_at p 0) (damaged_at p 1) t.1.0 in
      (a.0, (a.1, (t.1.1.1.0, some_none (damaged_at p) label_bytes t.1.1.1.1.1.0)))

  small : All (λ i. value_at p i < 16) sent_bytes
  small =
      all_map (λ i. damaged_at p i ≡ false) (λ i. value_at p i < 16) (λ i e. let l = ltb-false 15 (value_at p i) (over (get_or p i 0) refl ∙ e) in omega arith)
      sent_bytes whole.1.1

  address : (eqb (value_at p 0) 0 && eqb (value_at p 1) 15) ≡ true
  address = not-false (eqb (value_at p 0) 0 && eqb (value_at p 1) 15) t.1.1.0

  again : All (λ i. value_for (label_in p) i ≡ value_at p i) hamming_bytes
  again = (
    sym (eqb-true (value_at p 0) 0 (both_true (eqb (value_at p 0) 0) (eqb (value_at p 1) 15) address).0),
    (
      sym (eqb-true (value_at p 1) 15 (both_true (eqb (value_at p 0) 0) (eqb (value_at p 1) 15) address).1),
      unlisted sent_bytes (λ i m. sent_again (value_at p) i m (listed (λ i. value_at p i < 16) sent_bytes small i m)),
    ),
  )

  fit : unfit (label_in p) ≡ false
  fit =
      let a = none_some (too_wide (label_in p)) fields
      (all_of (λ f. lt-leb (2 ^ length (positions f)) (field_of f (label_in p)) (field_fits (value_at p) f)) fields) in
      ap (λ (b : Bool). b || not (format2 (field_by (value_at p) designation))) a
      ∙ ap (λ (d : ℕ). not (format2 d)) (designation_of (value_at p) small.0) ∙ t.1.1.1.1.0

  put_right : writing_of (label_in p) p ≡ given (put (λ i. good (value_at p i)) hamming_bytes p)
  unfolding writing_of byte_for
  put_right =
      passed (put (byte_for (label_in p)) hamming_bytes p) (writer_rows (label_in p) p) (t.0, (fit, tt))
      ∙ ap given (put_same (byte_for (label_in p)) (λ i. good (value_at p i)) hamming_bytes p
      (all_map (λ i. value_for (label_in p) i ≡ value_at p i) (λ i. byte_for (label_in p) i ≡ good (value_at p i)) (λ i e. ap good e) hamming_bytes again))

pub right : (l : Label) (p : List ℕ) → reading_of p ≡ given l → writing_of l p ≡ given (put (λ i. good (value_at p i)) hamming_bytes p)
unfolding reading_of
right l p e = let a = accepted (label_in p) l (reader_rows p) e in ap (λ (x : Label). writing_of x p) (sym a.1) ∙ put_right p a.0
