-- Bits at their positions and back: a value and its data bits, the bits of a label that are sent.
use Prim.Native.Nat.{ℕ, zero, suc, ◌^◌, ◌<◌}
use mathlib.Core.Path.{◌≡◌, refl, sym, ap, ap₂, subst, ◌∙◌}
use mathlib.Core.Bool.{Bool, true, false, cond, ◌&&◌, ◌||◌}
use mathlib.Core.List.{List, [], ◌∷◌, ◌++◌, map}
use native.Mathlib.Omega.{arith}
use native.Mathlib.Nat.{mod-eq_of_lt}
use borrow.Author.Tests.{eqb-true, ne_eqb, ltb-true}
use lib.Dec.{eqb, ltb}
use lib.ListN.{length}
use Rattle.hamming.specs.Byte.{D}
use Rattle.answer.proofs.Cases.{both_true}
use Rattle.label.specs.declared.Label.{Label}
use Rattle.label.specs.Layout.{Field, designation, lci, luf, prf, pcs, mi, spare, cni, pil, pty, fields, Position, positions, field_of, label_by, number_from, bit_at, field_by, bits, field_bits, zip, bits_of, lookup, sent_at, four, sent_in}
use Rattle.label.specs.Packet.{value_for, label_bytes}
use Rattle.answer.specs.Lists.{member}
use Rattle.label.proofs.Digits.{number_of_bits, number_small, bits_of_number}
use Rattle.label.proofs.Nibbles.{low_four, four_number, four_bits, four_small}
use Rattle.answer.proofs.Every.{no_way, All, all_append, every, tested, map_same, map_all, listed, each_listed}

-- ── a value and its data bits ──────────────────────────────────────────────────────────────────────────────────────
bit_small : (k v : ℕ) → D k v < 2
unfolding D
bit_small k v = omega arith

pub bit_in : (v : ℕ → ℕ) (s : Position) → bit_at v s < 2
bit_in v s = bit_small s.1 (v s.0)

abbrev data_bits : List ℕ
data_bits = 1 ∷ 2 ∷ 3 ∷ 4 ∷ []

-- a value is that of its data bits
four_of : (v : ℕ) → v < 16 → four (D 1 v) (D 2 v) (D 3 v) (D 4 v) ≡ v
four_of v h = sym (low_four v ∙ four_number (D 4 v) (D 3 v) (D 2 v) (D 1 v)) ∙ mod-eq_of_lt h

-- ── fields and positions ───────────────────────────────────────────────────────────────────────────────────────────
-- what holds of the listed fields holds of each
pub fielded : (P : Field → Type 0) → All P fields → (f : Field) → P f
fielded P a designation = a.0
fielded P a lci = a.1.0
fielded P a luf = a.1.1.0
fielded P a prf = a.1.1.1.0
fielded P a pcs = a.1.1.1.1.0
fielded P a mi = a.1.1.1.1.1.0
fielded P a spare = a.1.1.1.1.1.1.0
fielded P a cni = a.1.1.1.1.1.1.1.0
fielded P a pil = a.1.1.1.1.1.1.1.1.0
fielded P a pty = a.1.1.1.1.1.1.1.1.1.0

field_of_lem : (g : Field → ℕ) (f : Field) → field_of f (label_by g) ≡ g f
field_of_lem g = fielded (λ f. field_of f (label_by g) ≡ g f) (refl, (refl, (refl, (refl, (refl, (refl, (refl, (refl, (refl, (refl, tt))))))))))

-- the bytes that carry a label's bits
abbrev pub sent_bytes : List ℕ
sent_bytes = 2 ∷ label_bytes

-- a position among these
abbrev within : Position → Bool
within s = member s.0 sent_bytes && member s.1 data_bits

-- what holds of each position within them holds of a field's
at_field : (P : Position → Type 0) → ((i k : ℕ) → member i sent_bytes ≡ true → member k data_bits ≡ true → P (i, k)) → (f : Field) → All P (positions f)
at_field P h f =
    tested within (λ s e. h s.0 s.1 (both_true (member s.0 sent_bytes) _ e).0 (both_true (member s.0 sent_bytes) _ e).1) (positions f)
    (fielded (λ f. every within (positions f) ≡ true) (tested (λ f. every within (positions f)) (λ f e. e) fields refl) f)

-- a field goes by the values of these bytes
pub field_same : (v w : ℕ → ℕ) → All (λ i. v i ≡ w i) sent_bytes → (f : Field) → field_by v f ≡ field_by w f
field_same v w a f =
    ap (number_from 0) (map_same (bit_at v) (bit_at w) (positions f)
    (at_field (λ s. bit_at v s ≡ bit_at w s) (λ i k m n. ap (D k) (listed (λ i. v i ≡ w i) sent_bytes a i m)) f))

-- the designation is the value of byte 2
pub designation_of : (v : ℕ → ℕ) → v 2 < 16 → field_by v designation ≡ v 2
designation_of v h = let e = four_of (v 2) h in omega arith

-- ── from a label to the values of the bytes, and back ──────────────────────────────────────────────────────────────
-- each bit is found at its position
found : (l : Label) (f : Field) → map (sent_at l) (positions f) ≡ field_bits l f
found l =
    fielded (λ f. map (sent_at l) (positions f) ≡ field_bits l f) (refl, (refl, (refl, (refl, (refl, (refl, (refl, (refl, (refl, (refl, tt))))))))))

lookup_small : (s : Position) (es : List (Position × ℕ)) → All (λ e. e.1 < 2) es → lookup s es < 2
lookup_small s [] a = omega arith
lookup_small s (e ∷ es) a = go (eqb s.0 e.0.0 && eqb s.1 e.0.1) (lookup_small s es a.1)
  where
    go : (t : Bool) → lookup s es < 2 → cond t e.1 (lookup s es) < 2
    go true h = a.0
    go false h = h

zip_small : (ss : List Position) (k n : ℕ) → All (λ e. e.1 < 2) (zip ss (bits k n))
zip_small [] k n = tt
zip_small (s ∷ ss) zero n = tt
zip_small (s ∷ ss) (suc k) n = (omega arith, zip_small ss k n)

table_small : (l : Label) (fs : List Field) → All (λ e. e.1 < 2) (bits_of l fs)
table_small l [] = tt
table_small l (f ∷ fs) =
    all_append (λ e. e.1 < 2) (zip (positions f) (field_bits l f)) (bits_of l fs) (zip_small (positions f) (length (positions f)) (field_of f l)) (table_small l fs)

pub sent_small : (l : Label) (s : Position) → sent_at l s < 2
sent_small l s = lookup_small s (bits_of l fields) (table_small l fields)

-- what is sent in a byte is a value
pub value_small : (l : Label) (i : ℕ) → value_for l i < 16
value_small l i = go (eqb i 0) (eqb i 1)
  where
    go : (s t : Bool) → cond s 0 (cond t 15 (sent_in l i)) < 16
    go true t = omega arith
    go false true = omega arith
    go false false =
        four_small (sent_at l (i, 1)) (sent_at l (i, 2)) (sent_at l (i, 3)) (sent_at l (i, 4))
        (sent_small l (i, 1)) (sent_small l (i, 2)) (sent_small l (i, 3)) (sent_small l (i, 4))

-- in the bytes of the label its bits are sent
value_sent : (l : Label) (i : ℕ) → member i sent_bytes ≡ true → value_for l i ≡ sent_in l i
value_sent l i m = let h = ltb-true 1 i (each_listed (ltb 1) sent_bytes refl i m) in rw (ne_eqb i 0 (omega arith), ne_eqb i 1 (omega arith))

bit_sent : (l : Label) (i k : ℕ) → member i sent_bytes ≡ true → member k data_bits ≡ true → D k (value_for l i) ≡ sent_at l (i, k)
bit_sent l i k m n =
    let s = sent_at l in
    let small = sent_small l in
    let p = four_bits (s (i, 1)) (s (i, 2)) (s (i, 3)) (s (i, 4)) (small (i, 1)) (small (i, 2)) (small (i, 3)) (small (i, 4)) in
    ap (D k) (value_sent l i m) ∙ listed (λ k. D k (sent_in l i) ≡ s (i, k)) data_bits (p.0, (p.1, (p.2, (p.3, tt)))) k n

-- a field that fits is the number of the bits that are sent
pub field_back : (l : Label) (f : Field) → field_of f l < 2 ^ length (positions f) → field_by (value_for l) f ≡ field_of f l
field_back l f h =
    ap (number_from 0) (map_same (bit_at (value_for l)) (sent_at l) (positions f) (at_field (λ s. bit_at (value_for l) s ≡ sent_at l s) (bit_sent l) f) ∙ found l f)
    ∙ number_of_bits (length (positions f)) (field_of f l) h

-- ── from the values of the bytes to a label, and back ──────────────────────────────────────────────────────────────
-- all positions of some fields
abbrev join : List Field → List Position
join [] = []
join (f ∷ fs) = positions f ++ join fs

joined : (P : Position → Type 0) → ((f : Field) → All P (positions f)) → (fs : List Field) → All P (join fs)
joined P h [] = tt
joined P h (f ∷ fs) = all_append P (positions f) (join fs) (h f) (joined P h fs)

abbrev has : Position → List Position → Bool
has s [] = false
has s (t ∷ ts) = eqb s.0 t.0 && eqb s.1 t.1 || has s ts

has_all : (P : Position → Type 0) (ss : List Position) → All P ss → (s : Position) → has s ss ≡ true → P s
has_all P [] a s m = no_way (sym m)
has_all P (t ∷ ts) a s m = go (eqb s.0 t.0) (eqb s.1 t.1) refl refl m (has_all P ts a.1 s)
  where
    go : (x y : Bool) → eqb s.0 t.0 ≡ x → eqb s.1 t.1 ≡ y → (x && y || has s ts) ≡ true → (has s ts ≡ true → P s) → P s
    go true true d e h k = subst P (sym (ap₂ (λ (i k : ℕ). (i, k)) (eqb-true s.0 t.0 d) (eqb-true s.1 t.1 e))) a.0
    go true false d e h k = k h
    go false y d e h k = k h

module _ (v : ℕ → ℕ) where
  -- the bits of a field that was read are those at its positions
  bits_back : (f : Field) → field_bits (label_by (field_by v)) f ≡ map (bit_at v) (positions f)
  bits_back f =
      ap (bits (length (positions f))) (field_of_lem (field_by v) f)
      ∙ bits_of_number (bit_at v) (bit_in v) (positions f) 0

  pub field_fits : (f : Field) → field_of f (label_by (field_by v)) < 2 ^ length (positions f)
  field_fits f = rw (field_of_lem (field_by v) f) (number_small (bit_at v) (bit_in v) (positions f))

  -- every bit of these bytes is a field's, and is sent again
  sent_back : (s : Position) → has s (join fields) ≡ true → sent_at (label_by (field_by v)) s ≡ bit_at v s
  sent_back =
      has_all (λ s. sent_at (label_by (field_by v)) s ≡ bit_at v s) (join fields)
      (joined (λ s. sent_at (label_by (field_by v)) s ≡ bit_at v s)
      (λ f. map_all (sent_at (label_by (field_by v))) (bit_at v) (positions f) (found (label_by (field_by v)) f ∙ bits_back f)) fields)

  pub sent_again : (i : ℕ) → member i sent_bytes ≡ true → v i < 16 → value_for (label_by (field_by v)) i ≡ v i
  sent_again i m h =
      let e = each_listed (λ i. every (λ k. has (i, k) (join fields)) data_bits) sent_bytes refl i m in
      let a : All (λ k. sent_at (label_by (field_by v)) (i, k) ≡ D k (v i)) data_bits = tested (λ k. has (i, k) (join fields)) (λ k. sent_back (i, k)) data_bits e in
      value_sent (label_by (field_by v)) i m ∙ rw (a.0, a.1.0, a.1.1.0, a.1.1.1.0) (four_of (v i) h)
