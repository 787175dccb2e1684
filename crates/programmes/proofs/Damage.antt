-- The reader goes by the values of Hamming bytes and triplets: one wrong bit in each is nothing, two in one are refused.
use Prim.Native.Nat.{ℕ, zero, suc, ◌+◌, ◌*◌, ◌/◌, ◌≤◌, ◌<◌}
use mathlib.Core.Path.{◌≡◌, refl, sym, ap, ap₂, ◌∙◌}
use mathlib.Core.Bool.{Bool, true, false, ◌||◌, or-true}
use mathlib.Core.List.{List, [], ◌++◌}
use native.Mathlib.Omega.{arith}
use native.Mathlib.Decide.{dec_lt}
use borrow.Author.Tests.{lt-ltb, le-ltb}
use lib.ListN.{length}
use Rattle.answer.specs.Answer.{Answer, refused, Row, first_of, and_then}
use Rattle.answer.specs.Lists.{member, some}
use Rattle.answer.proofs.Every.{All, unlisted, some_same, some_one, map_same, Passed, passed}
use Rattle.hamming.specs.Byte.{nibble_of}
use Rattle.hamming.specs.declared.Nibble.{Nibble}
use Rattle.hamming.specs.declared.Nibble.TheVariants as nibble
use Rattle.hamming.proofs.Bytes as bytes
use Rattle.triplet.specs.Word.{triplet_of}
use Rattle.triplet.specs.declared.Triplet.{Triplet}
use Rattle.triplet.specs.declared.Triplet.TheVariants as triplet
use Rattle.triplet.proofs.Words as words
use Rattle.group.specs.Group.{group_of}
use Rattle.group.specs.declared.Group.{Group}
use Rattle.programmes.specs.declared.Programme.{Programme}
use Rattle.label.specs.Packet.{damaged, value_of}
use Rattle.programmes.specs.Page.{byte_at, packets_of, nibble_at, triplet_at, addressed, thirteen, damaged_triplet, bits_in, value_at}
use Rattle.programmes.specs.Page.{groups_in, groups_to, is_short, is_damaged, is_addressed, packet_rows, rows_to, programmes_to, reading_of}
use Rattle.programmes.specs.Laws.{word_at, AtBytes, AtTriplets, GoodByte, GoodWord, OneWrongByte, OneWrongWord, TwoWrongByte, TwoWrongWord, already_or}
use Rattle.programmes.proofs.Rows.{settled, upto}

-- ── what a packet carries ──────────────────────────────────────────────────────────────────────────────────────────
abbrev pub wrong_byte : List ℕ → ℕ → ℕ → Bool
wrong_byte p k i = damaged (nibble_at p k i)

abbrev pub wrong_triplet : List ℕ → ℕ → ℕ → Bool
wrong_triplet p k j = damaged_triplet (triplet_at p k j)

abbrev group_at : List ℕ → ℕ → ℕ → Group
group_at p k j = group_of (bits_in (triplet_at p k j))

-- packet k of two pages carries the same
pub record SamePacket (p q : List ℕ) (k : ℕ) : Type 0 where
  wrong_bytes : All (λ i. wrong_byte p k i ≡ wrong_byte q k i) addressed
  values : All (λ i. value_at p k i ≡ value_at q k i) addressed
  wrong_triplets : All (λ j. wrong_triplet p k j ≡ wrong_triplet q k j) thirteen
  groups : All (λ j. group_at p k j ≡ group_at q k j) thirteen
  short : is_short p k ≡ is_short q k

-- as each Hamming byte and each triplet is damaged in both or in neither, and has the same value
abbrev pub SameNibble : Nibble → Nibble → Type 0
SameNibble m n = (damaged m ≡ damaged n) × (value_of m ≡ value_of n)

abbrev pub SameTriplet : Triplet → Triplet → Type 0
SameTriplet t u = (damaged_triplet t ≡ damaged_triplet u) × (bits_in t ≡ bits_in u)

pub same_packet : (p q : List ℕ) (k : ℕ) → ((i : ℕ) → member i addressed ≡ true → SameNibble (nibble_at p k i) (nibble_at q k i)) →
    ((j : ℕ) → member j thirteen ≡ true → SameTriplet (triplet_at p k j) (triplet_at q k j)) → is_short p k ≡ is_short q k → SamePacket p q k
same_packet p q k n t s = record {
  wrong_bytes = unlisted addressed (λ i m. (n i m).0);
  values = unlisted addressed (λ i m. (n i m).1);
  wrong_triplets = unlisted thirteen (λ j m. (t j m).0);
  groups = unlisted thirteen (λ j m. ap group_of (t j m).1);
  short = s;
}

module _ (p q : List ℕ) (k : ℕ) (same : SamePacket p q k) where
  same_damaged : is_damaged p k ≡ is_damaged q k
  unfolding is_damaged
  same_damaged =
      ap₂ ◌||◌ (some_same (wrong_byte p k) (wrong_byte q k) addressed same.wrong_bytes)
      (some_same (wrong_triplet p k) (wrong_triplet q k) thirteen same.wrong_triplets)

  same_addressed : SamePacket p q 0 → is_addressed p k ≡ is_addressed q k
  unfolding is_addressed
  same_addressed first = rw (same.values.0, first.values.0, same.values.1.0, same.values.1.1.0)

  same_groups_in : groups_in p k ≡ groups_in q k
  unfolding groups_in
  same_groups_in = map_same (group_at p k) (group_at q k) thirteen same.groups

-- the first n packets of two pages
module _ (p q : List ℕ) (n : ℕ) (same : (k : ℕ) → k < n → SamePacket p q k) where
  pub same_groups : (k : ℕ) → k ≤ n → groups_to p k ≡ groups_to q k
  unfolding groups_to
  same_groups zero l = refl
  same_groups (suc k) l = ap₂ ◌++◌ (same_groups k (omega arith)) (same_groups_in p q k (same k l))

  same_packet_rows : (k : ℕ) → k < n → packet_rows p k ≡ packet_rows q k
  same_packet_rows k l =
      let s = same k l in
      rw (s.short, same_damaged p q k s, same_addressed p q k s (same 0 (omega arith)), same_groups (suc k) l)

  pub same_rows : (k : ℕ) → k ≤ n → rows_to p k ≡ rows_to q k
  unfolding rows_to
  same_rows zero l = refl
  same_rows (suc k) l = ap₂ ◌++◌ (same_rows k (omega arith)) (same_packet_rows k l)

  pub same_answer : first_of (rows_to p n) (programmes_to p n) ≡ first_of (rows_to q n) (programmes_to q n)
  unfolding programmes_to
  same_answer = rw (same_rows n (omega arith), same_groups n (omega arith))

-- ── a packet that refuses ──────────────────────────────────────────────────────────────────────────────────────────
pub refused_at : (p : List ℕ) (k r : ℕ) → k < packets_of p → first_of {A = List Programme} (packet_rows p k) [] ≡ refused r → reading_of p ≡ already_or p k r
unfolding reading_of
refused_at p k r l e =
    settled p (programmes_to p (packets_of p)) [] k (packets_of p) l never
    ∙ upto p [] k
    ∙ ap (λ (answer : Answer (List Programme)). and_then (first_of {A = ℕ} (rows_to p k) 0) (λ u. answer)) e
  where
    never : Passed (packet_rows p k) → ⊥
    never t = let f = sym (passed [] (packet_rows p k) t) ∙ e in let z : ◌≡◌ {A = ℕ} 0 1 = cc in omega arith

short : (p : List ℕ) (k : ℕ) → k < packets_of p → length p < 42 * k + 42 → reading_of p ≡ already_or p k 20
short p k l s = let e : is_short p k ≡ true = lt-ltb (length p) (42 * k + 42) s in refused_at p k 20 l (rw e refl)

harmed : (p : List ℕ) (k : ℕ) → 42 * k + 42 ≤ length p → is_damaged p k ≡ true → reading_of p ≡ already_or p k 21
harmed p k l d = let e : is_short p k ≡ false = le-ltb (length p) (42 * k + 42) l in refused_at p k 21 (omega arith) (rw (e, d) refl)

-- the values of the whole packets decide: a last one that is shorter is 20, whatever it has
by_values : (p q : List ℕ) → length p ≡ length q → ((k : ℕ) → 42 * k + 42 ≤ length p → SamePacket p q k) → reading_of p ≡ reading_of q
unfolding reading_of
by_values p q h same =
    elim (dec_lt (length p / 42) (packets_of p)) [
      | yes l ↦
          let k = length p / 42 in
          let rows = same_rows p q k (λ i m. same i (omega arith)) k (omega arith) in
          short p k l (omega arith)
          ∙ ap (λ (rows : List Row). and_then (first_of {A = ℕ} rows 0) (λ u. refused 20)) rows
          ∙ sym (short q k (omega arith) (omega arith))
      | no l ↦
          same_answer p q (packets_of p) (λ k m. same k (omega arith))
          ∙ ap (λ (n : ℕ). first_of (rows_to q ((n + 41) / 42)) (programmes_to q ((n + 41) / 42))) h
    ]

-- ── wrong bits ─────────────────────────────────────────────────────────────────────────────────────────────────────
module _ (g b : ℕ) (good : GoodByte g) where
  one_wrong_byte : OneWrongByte g b → SameNibble (nibble_of b) (nibble_of g)
  one_wrong_byte w =
      let v = good.0 in
      let e : nibble_of g ≡ nibble.Clean v = ap nibble_of good.2 ∙ bytes.sent v good.1 in
      let s : SameNibble (nibble.Clean v) (nibble_of g) = rw e (refl, refl) in
      bytes.near_either b v w.0 good.1 (λ n. SameNibble n (nibble_of g)) s s (rw good.2 at w.1)

  two_wrong_byte : TwoWrongByte g b → damaged (nibble_of b) ≡ true
  two_wrong_byte w = ap damaged (bytes.two b good.0 w.0 good.1 (rw good.2 at w.1))

module _ (g w : ℕ) (good : GoodWord g) where
  one_wrong_word : OneWrongWord g w → SameTriplet (triplet_of w) (triplet_of g)
  one_wrong_word o =
      let v = good.0 in
      let e : triplet_of g ≡ triplet.Clean v = ap triplet_of good.2 ∙ words.sent v good.1 in
      let s : SameTriplet (triplet.Clean v) (triplet_of g) = rw e (refl, refl) in
      words.near_either w v o.0 good.1 (λ t. SameTriplet t (triplet_of g)) s s (rw good.2 at o.1)

  two_wrong_word : TwoWrongWord g w → damaged_triplet (triplet_of w) ≡ true
  two_wrong_word o = ap damaged_triplet (words.two w good.0 o.0 good.1 (rw good.2 at o.1))

pub one : (p q : List ℕ) → length p ≡ length q → AtBytes p (λ k i. GoodByte (byte_at p k i)) → AtTriplets p (λ k j. GoodWord (word_at p k j)) →
    AtBytes p (λ k i. OneWrongByte (byte_at p k i) (byte_at q k i)) → AtTriplets p (λ k j. OneWrongWord (word_at p k j) (word_at q k j)) →
    reading_of q ≡ reading_of p
one p q h gb gw ob ow = by_values q p (sym h) (λ k l. same k (omega arith))
  where
    same : (k : ℕ) → 42 * k + 42 ≤ length p → SamePacket q p k
    same k l =
        same_packet q p k
        (λ i m. one_wrong_byte (byte_at p k i) (byte_at q k i) (gb k i l m) (ob k i l m))
        (λ j m. one_wrong_word (word_at p k j) (word_at q k j) (gw k j l m) (ow k j l m))
        (rw h)

pub two_byte : (p : List ℕ) (k i g : ℕ) → 42 * k + 42 ≤ length p → member i addressed ≡ true → GoodByte g → TwoWrongByte g (byte_at p k i) →
    reading_of p ≡ already_or p k 21
unfolding is_damaged
two_byte p k i g l m good w =
    let e : some (wrong_byte p k) addressed ≡ true = some_one (wrong_byte p k) addressed i m (two_wrong_byte g (byte_at p k i) good w) in
    harmed p k l (rw e refl)

pub two_triplet : (p : List ℕ) (k j g : ℕ) → 42 * k + 42 ≤ length p → member j thirteen ≡ true → GoodWord g → TwoWrongWord g (word_at p k j) →
    reading_of p ≡ already_or p k 21
unfolding is_damaged
two_triplet p k j g l m good w =
    let e : some (wrong_triplet p k) thirteen ≡ true = some_one (wrong_triplet p k) thirteen j m (two_wrong_word g (word_at p k j) good w) in
    harmed p k l (rw e (or-true (some (wrong_byte p k) addressed)))
