-- What a group is sent as: eighteen bits, and they are that group.
use Prim.Native.Nat.{ℕ, ◌+◌, ◌-◌, ◌<◌, ◌≤◌, ◌^◌}
use mathlib.Core.Path.{◌≡◌, refl, ap, ◌∙◌}
use mathlib.Core.Bool.{Bool, true, ◌&&◌}
use native.Mathlib.Omega.{arith}
use borrow.Author.Tests.{le-leb, lt-leb, leb-true}
use lib.Dec.{leb}
use Rattle.answer.proofs.Cases.{both_true}
use Rattle.group.specs.Group.{joined, or_other, group_by, group_of, bits_of}
use Rattle.group.specs.Group.{is_row, row_of, address_of, offset_bits, top_bit, six_bits, flagged, decimal, figures}
use Rattle.group.specs.Laws.{is_row_number, fits_offset, fits}
use Rattle.group.specs.declared.Group.{Group}
use Rattle.group.specs.declared.Group.TheVariants as group
use Rattle.group.proofs.Bits.{joined_apart, addressed, decimal_figures, flag_apart, offset_back}

-- v has eighteen bits, and they are the group g
abbrev pub Sent : ℕ → Group → Type 0
Sent v g = (v < 2 ^ 18) × (group_of v ≡ g)

sent : (a m b : ℕ) {g : Group} → a < 64 → m < 32 → b < 128 → group_by m a b ≡ g → Sent (joined a m b) g
unfolding group_of
sent a m b p q r e =
    let j = joined_apart a m b p q r in
    (j.0, (λ i. group_by (j.2 i) (j.1 i) (j.3 i)) ∙ e)

two : (a b x y : ℕ) → (leb a b && leb x y) ≡ true → (a ≤ b) × (x ≤ y)
two a b x y e = let t = both_true (leb a b) (leb x y) e in (leb-true a b t.0, leb-true x y t.1)

-- a row, and hours with a flag above them, as starting and finishing hours have them
module _ (row hour : ℕ) (flag : Bool) where
  abbrev A : ℕ
  A = address_of row

  abbrev B : ℕ
  B = flagged (figures hour) flag

  hours_back : (is_row_number row && leb hour 39) ≡ true → (A < 64) × (B < 128) ×
      ((f : ℕ → ℕ → Bool → Group) → or_other (is_row A) (f (row_of A) (decimal (six_bits B)) (top_bit B)) ≡ f row hour flag)
  hours_back e =
      let t = both_true (is_row_number row) (leb hour 39) e in
      let l = two 1 row row 24 t.0 in
      let a = addressed row l.0 l.1 in
      let h = leb-true hour 39 t.1 in
      let b = flag_apart (figures hour) flag (omega arith) in
      let d : decimal (six_bits B) ≡ hour = ap decimal b.1 ∙ decimal_figures hour in
      (a.0, b.0, λ f. rw (le-leb 40 A a.1) (λ i. f (a.2 i) (d i) (b.2 i)))

pub round : (g : Group) → fits g ≡ true → Sent (bits_of g) g
unfolding bits_of group_of
round group.Other e = (omega arith, refl)
round (group.Source country source) e =
    let l = two country 15 source 127 e in
    let s : 48 + country - 48 ≡ country = omega arith in
    sent (48 + country) 0b01000 source (omega arith) (omega arith) (omega arith)
    (rw (le-leb 48 (48 + country) (omega arith)) (ap (λ (c : ℕ). group.Source c source) s))
round (group.Date month day) e =
    let l = two month 15 day 39 e in
    let s : 48 + month - 48 ≡ month = omega arith in
    let f : figures day < 64 = omega arith in
    sent (48 + month) 0b01001 (figures day) (omega arith) (omega arith) (omega arith)
    (rw (le-leb 48 (48 + month) (omega arith), lt-leb 64 (figures day) f) (λ i. group.Date (s i) (decimal_figures day i)))
round (group.Offset row o) e =
    let t = both_true (is_row_number row) (fits_offset o) e in
    let l = two 1 row row 24 t.0 in
    let a = addressed row l.0 l.1 in
    let f = offset_back o t.1 in
    sent (address_of row) 0b01100 (offset_bits o) a.0 (omega arith) f.0
    (rw (le-leb 40 (address_of row) a.1) (λ i. group.Offset (a.2 i) (f.1 i)))
round (group.Start row hour controlled) e =
    let h = hours_back row hour controlled e in
    sent (address_of row) 0b01010 (flagged (figures hour) controlled) h.0 (omega arith) h.1 (h.2 group.Start)
round (group.Minutes column minute) e =
    let l = two column 39 minute 79 e in
    sent column 0b00110 (figures minute) (omega arith) (omega arith) (omega arith)
    (rw (le-leb column 39 l.0) (ap (λ (m : ℕ). group.Minutes column m) (decimal_figures minute)))
round (group.Finish row hour duration) e =
    let h = hours_back row hour duration e in
    sent (address_of row) 0b01011 (flagged (figures hour) duration) h.0 (omega arith) h.1 (h.2 group.Finish)
round (group.Series code) e =
    let seven : code < 128 = omega (arith, leb-true) in
    sent 48 0b01101 code (omega arith) (omega arith) seven refl
round group.Terminator e = sent 63 0b11111 127 (omega arith) (omega arith) (omega arith) refl
