-- The reader goes by the values of the sixteen bytes: it looks at no other byte, one wrong bit in each is nothing, two in one are refused.
use Prim.Native.Nat.{ℕ, suc, ◌≤◌}
use mathlib.Core.Path.{◌≡◌, refl, sym, ap, ap₂, fun_ext, ◌∙◌}
use mathlib.Core.Bool.{true, false, ◌||◌, or-true}
use mathlib.Core.List.{List, [], ◌∷◌, ◌++◌}
use native.Mathlib.Omega.{arith}
use borrow.Author.Tests.{eqb-true, ltb-true}
use lib.Dec.{eqb, ltb}
use lib.ListN.{length, get_or, take, drop}
use Rattle.answer.specs.Answer.{refused, Row, first_of}
use Rattle.hamming.specs.Byte.{nibble_of}
use Rattle.hamming.specs.declared.Nibble.TheVariants.{Damaged, Clean}
use Rattle.hamming.proofs.Bytes as bytes
use Rattle.label.specs.Layout.{label_by}
use Rattle.label.specs.Packet.{reader_rows, reading_of, label_in, value_at, value_of, damaged_at, damaged, hamming_bytes, label_bytes}
use Rattle.answer.specs.Lists.{member}
use Rattle.label.specs.Laws.{AtEach, Good, OneWrong, TwoWrong, damage_number, sooner}
use Rattle.answer.proofs.Every.{All, all_map, every, listed, each_listed, unlisted, some_same, none_some, some_one}
use Rattle.label.proofs.Sooner.{one_more, sooner_le}
use Rattle.label.proofs.Places.{sent_bytes, field_same}

-- ── the sixteen values ─────────────────────────────────────────────────────────────────────────────────────────────
-- byte i of two packets is damaged in both or in neither, and has the same value
abbrev pub SameAt : List ℕ → List ℕ → ℕ → Type 0
SameAt p q i = (damaged_at p i ≡ damaged_at q i) × (value_at p i ≡ value_at q i)

module _ (p q : List ℕ) (h : length p ≡ length q) (e : AtEach (SameAt p q)) where
  pub same_rows : reader_rows p ≡ reader_rows q
  same_rows =
      let n : All (SameAt p q) (0 ∷ 1 ∷ 2 ∷ label_bytes) = unlisted hamming_bytes e in
      let d = some_same (damaged_at p) (damaged_at q) label_bytes (all_map (SameAt p q) (λ i. damaged_at p i ≡ damaged_at q i) (λ i e. e.0) label_bytes n.1.1.1) in
      rw (h, n.0.0, n.0.1, n.1.0.0, n.1.0.1, n.1.1.0.0, n.1.1.0.1, d)

  pub same_fields : label_in p ≡ label_in q
  same_fields =
      let n : All (SameAt p q) (0 ∷ 1 ∷ sent_bytes) = unlisted hamming_bytes e in
      let v = all_map (SameAt p q) (λ i. value_at p i ≡ value_at q i) (λ i e. e.1) sent_bytes n.1.1 in
      ap label_by (fun_ext (field_same (value_at p) (value_at q) v))

  by_values : reading_of p ≡ reading_of q
  unfolding reading_of
  by_values = ap₂ first_of same_rows same_fields

pub same_bytes : (p q : List ℕ) → AtEach (λ i. get_or p i 0 ≡ get_or q i 0) → AtEach (SameAt p q)
same_bytes p q e i m = (ap (λ (b : ℕ). damaged (nibble_of b)) (e i m), ap (λ (b : ℕ). value_of (nibble_of b)) (e i m))

pub only : (p q : List ℕ) → length p ≡ length q → AtEach (λ i. get_or p i 0 ≡ get_or q i 0) → reading_of p ≡ reading_of q
only p q h e = by_values p q h (same_bytes p q e)

-- ── wrong bits in a good byte ──────────────────────────────────────────────────────────────────────────────────────
module _ (g b : ℕ) (good : Good g) where
  good_value : nibble_of g ≡ Clean good.0
  good_value = ap nibble_of good.2 ∙ bytes.sent good.0 good.1

  pub one_wrong : OneWrong g b → (damaged (nibble_of b) ≡ damaged (nibble_of g)) × (value_of (nibble_of b) ≡ value_of (nibble_of g))
  one_wrong w =
      let s : (false ≡ damaged (nibble_of g)) × (good.0 ≡ value_of (nibble_of g)) = (sym (ap damaged good_value), sym (ap value_of good_value)) in
      bytes.near_either b good.0 w.0 good.1 (λ n. (damaged n ≡ damaged (nibble_of g)) × (value_of n ≡ value_of (nibble_of g))) s s (rw good.2 at w.1)

  two_wrong : TwoWrong g b → nibble_of b ≡ Damaged
  two_wrong w = bytes.two b good.0 w.0 good.1 (rw good.2 at w.1)

pub one : (p q : List ℕ) → length p ≡ length q → AtEach (λ i. Good (get_or p i 0)) → AtEach (λ i. OneWrong (get_or p i 0) (get_or q i 0)) →
    reading_of q ≡ reading_of p
one p q h g w = by_values q p (sym h) (λ i m. one_wrong (get_or p i 0) (get_or q i 0) (g i m) (w i m))

-- ── a damaged byte ─────────────────────────────────────────────────────────────────────────────────────────────────
-- the row after k others, with the number n, applies
refused_by : (p : List ℕ) (k n : ℕ) → reader_rows p ≡ take k (reader_rows p) ++ ((true, n) ∷ drop (suc k) (reader_rows p)) →
    every (λ row. ltb row.1 n) (take k (reader_rows p)) ≡ true → (m : ℕ) × (m ≤ n) × (reading_of p ≡ refused m)
unfolding reading_of
refused_by p k n e b =
    let a = label_in p in
    let rows = take k (reader_rows p) in
    let others = first_of (rows ++ ((false, n) ∷ [])) a in
    (sooner others n, sooner_le others n, ap (λ (rows : List Row). first_of rows a) e ∙ one_more a a n rows (drop (suc k) (reader_rows p)) [] b refl)

label_number : (j : ℕ) → member j label_bytes ≡ true → damage_number j ≡ 6
label_number j m = eqb-true (damage_number j) 6 (each_listed (λ i. eqb (damage_number i) 6) label_bytes refl j m)

module _ (p : List ℕ) where
  abbrev Refused : ℕ → Type 0
  Refused j = damaged_at p j ≡ true → (n : ℕ) × (n ≤ damage_number j) × (reading_of p ≡ refused n)

  refused_label : (j : ℕ) → member j label_bytes ≡ true → Refused j
  refused_label j m d = rw (label_number j m) (refused_by p 5 6 (rw (some_one (damaged_at p) label_bytes j m d)) refl)

  refused_damaged : AtEach Refused
  refused_damaged =
      listed Refused hamming_bytes (
        λ d. refused_by p 1 2 (rw d) refl,
        (
          λ d. let e : (damaged_at p 0 || damaged_at p 1) ≡ true = rw d (or-true (damaged_at p 0)) in refused_by p 1 2 (rw e) refl,
          (λ d. refused_by p 3 4 (rw d) refl, unlisted label_bytes refused_label),
        ),
      )

pub two_refused : (p : List ℕ) (j g : ℕ) → member j hamming_bytes ≡ true → Good g → TwoWrong g (get_or p j 0) →
    (n : ℕ) × (n ≤ damage_number j) × (reading_of p ≡ refused n)
two_refused p j g m good w = refused_damaged p j m (ap damaged (two_wrong g (get_or p j 0) good w))

-- ── one damaged byte ───────────────────────────────────────────────────────────────────────────────────────────────
-- the row after k others, with the number n, applies to q and not to p, and those before it to both or neither
turned : (p q : List ℕ) (k n : ℕ) → reader_rows q ≡ take k (reader_rows p) ++ ((true, n) ∷ drop (suc k) (reader_rows q)) →
    reader_rows p ≡ take k (reader_rows p) ++ ((false, n) ∷ drop (suc k) (reader_rows p)) → every (λ row. ltb row.1 n) (take k (reader_rows p)) ≡ true →
    every (λ row. ltb n row.1) (drop (suc k) (reader_rows p)) ≡ true → reading_of q ≡ refused (sooner (reading_of p) n)
unfolding reading_of
turned p q k n e f b a =
    ap (λ (rows : List Row). first_of rows (label_in q)) e
    ∙ one_more (label_in p) (label_in q) n (take k (reader_rows p)) (drop (suc k) (reader_rows q)) (drop (suc k) (reader_rows p)) b a
    ∙ ap (λ (rows : List Row). refused (sooner (first_of rows (label_in p)) n)) (sym f)

module _ (p q : List ℕ) (hp : length p ≡ 42) (hq : length q ≡ 42) (clean : All (λ i. damaged_at p i ≡ false) hamming_bytes) where
  -- byte j alone is damaged
  abbrev Alone : ℕ → Type 0
  Alone j = (damaged_at q j ≡ true) × AtEach (λ i. (i ≡ j → ⊥) → SameAt q p i)

  abbrev Told : ℕ → Type 0
  Told j = Alone j → reading_of q ≡ refused (sooner (reading_of p) (damage_number j))

  told_address : (damaged_at q 0 || damaged_at q 1) ≡ true → reading_of q ≡ refused (sooner (reading_of p) 2)
  told_address d = turned p q 1 2 (rw (hq, hp, d)) (rw (clean.0, clean.1.0)) refl refl

  told_2 : Told 2
  told_2 a =
      let n₀ = a.1 0 refl (omega arith) in
      let n₁ = a.1 1 refl (omega arith) in
      turned p q 3 4 (rw (hq, hp, n₀.0, n₀.1, n₁.0, n₁.1, a.0)) (rw clean.1.1.0) refl refl

  told_label : (j : ℕ) → member j label_bytes ≡ true → Told j
  told_label j m a =
      let h = ltb-true 2 j (each_listed (ltb 2) label_bytes refl j m) in
      let n₀ = a.1 0 refl (omega arith) in
      let n₁ = a.1 1 refl (omega arith) in
      let n₂ = a.1 2 refl (omega arith) in
      rw (label_number j m)
      (turned p q 5 6 (rw (hq, hp, n₀.0, n₀.1, n₁.0, n₁.1, n₂.0, n₂.1, some_one (damaged_at q) label_bytes j m a.0)) (rw (none_some (damaged_at p) label_bytes clean.1.1.1)) refl refl)

  told : AtEach Told
  told =
      listed Told hamming_bytes (
        λ a. told_address (rw a.0),
        (λ a. told_address (rw a.0 (or-true (damaged_at q 0))), (told_2, unlisted label_bytes told_label)),
      )

pub two : (p q : List ℕ) (j : ℕ) → length p ≡ 42 → length q ≡ 42 → AtEach (λ i. Good (get_or p i 0)) → member j hamming_bytes ≡ true →
    TwoWrong (get_or p j 0) (get_or q j 0) → AtEach (λ i. (i ≡ j → ⊥) → OneWrong (get_or p i 0) (get_or q i 0)) →
    reading_of q ≡ refused (sooner (reading_of p) (damage_number j))
two p q j hp hq g m b w =
    told p q hp hq (unlisted hamming_bytes (λ i k. ap damaged (good_value (get_or p i 0) 0 (g i k)))) j m (
      ap damaged (two_wrong (get_or p j 0) (get_or q j 0) (g j m) b),
      λ i k z. one_wrong (get_or p i 0) (get_or q i 0) (g i k) (w i k z),
    )
