-- The good words are those that the checks allow, and each has its value's data bits.
use Prim.Native.Nat.{ℕ, ◌+◌, ◌*◌, ◌/◌, ◌%◌, ◌^◌, ◌<◌}
use mathlib.Core.Path.{◌≡◌, refl, sym, ap, ◌∙◌}
use mathlib.Core.List.{List, [], ◌∷◌, ◌++◌, map-append}
use mathlib.Core.Bool.{true}
use native.Mathlib.Omega.{arith}
use lib.ListN.{take, drop}
use Rattle.answer.specs.Lists.{member}
use Rattle.answer.proofs.Every.{All, every, tested, listed, map_same}
use Rattle.hamming.specs.Byte.{D}
use Rattle.hamming.proofs.Bits.{bit_small}
use Rattle.triplet.specs.Word.{from_bits, layout, good, run, bits_at, ones_of, covered, all, odd, checked}
use Rattle.triplet.specs.Checks.{places, data_of, five}
use Rattle.triplet.proofs.Bits.{Bits, bits_small, number_small, picked, bits_of_lem, run_bits}
use Rattle.triplet.proofs.Bits.{odd_first, ones_last, odd_last}

-- ── a good word ────────────────────────────────────────────────────────────────────────────────────────────────────
-- the data bits at their places, between parity bits
abbrev pub among : ℕ → ℕ → ℕ → ℕ → ℕ → ℕ → ℕ → List ℕ
among p₁ p₂ p₄ p₈ p₁₆ p₂₄ v =
    p₁ ∷ p₂ ∷ D 1 v ∷ p₄ ∷ D 2 v ∷ D 3 v ∷ D 4 v ∷ p₈
    ∷ D 5 v ∷ D 6 v ∷ D 7 v ∷ D 8 v ∷ D 9 v ∷ D 10 v ∷ D 11 v ∷ p₁₆
    ∷ D 12 v ∷ D 13 v ∷ D 14 v ∷ D 15 v ∷ D 16 v ∷ D 17 v ∷ D 18 v ∷ p₂₄ ∷ []

pub among_bits : {p₁ p₂ p₄ p₈ p₁₆ p₂₄ : ℕ} → p₁ < 2 → p₂ < 2 → p₄ < 2 → p₈ < 2 → p₁₆ < 2 → p₂₄ < 2 →
    (v : ℕ) → Bits (among p₁ p₂ p₄ p₈ p₁₆ p₂₄ v)
among_bits p₁ p₂ p₄ p₈ p₁₆ p₂₄ v =
    let d : (n : ℕ) → D n v < 2 = λ n. bit_small n v in
    let last : Bits (D 12 v ∷ D 13 v ∷ D 14 v ∷ D 15 v ∷ D 16 v ∷ D 17 v ∷ D 18 v ∷ _ ∷ []) =
    (d 12, (d 13, (d 14, (d 15, (d 16, (d 17, (d 18, (p₂₄, tt)))))))) in
    (p₁, (p₂, (d 1, (p₄, (d 2, (d 3, (d 4, (p₈, (d 5, (d 6, (d 7, (d 8, (d 9, (d 10, (d 11, (p₁₆, last))))))))))))))))

pub parity_small : (n : ℕ) → n % 2 < 2
parity_small n = omega arith

layout_bits : (v : ℕ) → Bits (layout v)
unfolding layout
layout_bits v = let p = parity_small in among_bits (p _) (p _) (p _) (p _) (p _) (p _) v

good_bits : (v : ℕ) (ns : List ℕ) → bits_at ns (good v) ≡ picked (layout v) ns
unfolding good
good_bits v ns = bits_of_lem (layout v) (layout_bits v) ns

pub good_small : (v : ℕ) → good v < 2 ^ 24
unfolding good layout
good_small v = number_small (layout v) (layout_bits v)

-- the ones among some positions of a good word are odd in number, where they are so in the layout
good_odd : (v : ℕ) (ns : List ℕ) → ones_of (picked (layout v) ns) % 2 ≡ 1 → odd ns (good v)
good_odd v ns e = ap (λ (bs : List ℕ). ones_of bs % 2) (good_bits v ns) ∙ e

pub good_checked : (v : ℕ) → checked (good v)
unfolding layout covered all run
good_checked v = (
  good_odd v (covered 1) (odd_first (others 1)),
  good_odd v (covered 2) (odd_first (others 2)),
  good_odd v (covered 4) (odd_first (others 4)),
  good_odd v (covered 8) (odd_first (others 8)),
  good_odd v (covered 16) (odd_first (others 16)),
  good_odd v all (odd_last (take 23 (layout v))),
)
  where
    others : ℕ → List ℕ
    others p = picked (layout v) (drop 1 (covered p))

-- ── a word's data bits ─────────────────────────────────────────────────────────────────────────────────────────────
pub data_small : (w : ℕ) → data_of w < 262144
unfolding data_of places run
data_small w = number_small (bits_at places w) (bits_small places w)

pub data_good : (v : ℕ) → v < 262144 → data_of (good v) ≡ v
unfolding data_of places run layout
data_good v h =
    let r = run_bits 18 0 v in
    ap from_bits (good_bits v places) ∙ r ∙ omega arith

pub data_parts : (w : ℕ) → w / 4 % 2 + w / 16 % 8 * 2 + w / 256 % 128 * 16 + w / 65536 % 128 * 2048 ≡ data_of w
unfolding data_of places run
data_parts w =
    let a = run_bits 1 2 w in
    let b = run_bits 3 4 w in
    let c = run_bits 7 8 w in
    let d = run_bits 7 16 w in
    omega arith

-- ── a word that the checks allow ───────────────────────────────────────────────────────────────────────────────────
last_first : (n : ℕ) (ns : List ℕ) (w : ℕ) → odd (ns ++ (n ∷ [])) w → odd (n ∷ ns) w
last_first n ns w e =
    let s = ap ones_of (map-append (λ m. D m w) ns (n ∷ [])) ∙ ones_last (D n w) (bits_at ns w) in
    ap (λ (k : ℕ). k % 2) (sym s) ∙ e

whole : (w : ℕ) → w < 2 ^ 24 → from_bits (bits_at (run 24 1) w) ≡ w
whole w h = run_bits 24 0 w ∙ omega arith

-- it is the only one with its data bits
module _ (x y : ℕ) where
  abbrev Agree : List ℕ → Type 0
  Agree ns = All (λ n. D n x ≡ D n y) ns

  agree : (ns : List ℕ) → from_bits (bits_at ns x) ≡ from_bits (bits_at ns y) → Agree ns
  agree [] e = tt
  agree (n ∷ ns) e =
      let s = bit_small n x in
      let t = bit_small n y in
      (omega arith, agree ns (omega arith))

  bits_agree : (ns : List ℕ) → Agree ns → bits_at ns x ≡ bits_at ns y
  bits_agree ns a = map_same (λ n. D n x) (λ n. D n y) ns a

  -- at some of the positions
  some_agree : (ns ms : List ℕ) → every (λ n. member n ms) ns ≡ true → Agree ms → Agree ns
  some_agree ns ms e a = tested (λ n. member n ms) (λ n t. listed (λ n. D n x ≡ D n y) ms a n t) ns e

  -- and at one more, where its parity bit stands
  one_more : (n : ℕ) (ns : List ℕ) → Agree ns → odd (n ∷ ns) x → odd (n ∷ ns) y → D n x ≡ D n y
  one_more n ns a e f =
      let o = ap ones_of (bits_agree ns a) in
      let s = bit_small n x in
      let t = bit_small n y in
      omega arith

  -- at the five, and so at all but the last
  but_last : checked x → checked y → Agree places → Agree (run 23 1)
  unfolding places covered run
  but_last c d a =
      let p₁ = at 1 refl c.0 d.0 in
      let p₂ = at 2 refl c.1 d.1 in
      let p₄ = at 4 refl c.2 d.2 in
      let p₈ = at 8 refl c.3 d.3 in
      let p₁₆ = at 16 refl c.4 d.4 in
      some_agree (run 23 1) (five ++ places) refl (p₁, (p₂, (p₄, (p₈, (p₁₆, a)))))
    where
      rest : ℕ → List ℕ
      rest n = drop 1 (covered n)

      at : (n : ℕ) → every (λ m. member m places) (rest n) ≡ true → odd (n ∷ rest n) x → odd (n ∷ rest n) y → D n x ≡ D n y
      at n t = one_more n (rest n) (some_agree (rest n) places t a)

  all_agree : checked x → checked y → Agree (run 23 1) → Agree (run 24 1)
  unfolding all run
  all_agree c d a =
      let p₂₄ = one_more 24 (run 23 1) a (last_first 24 (run 23 1) x c.5) (last_first 24 (run 23 1) y d.5) in
      some_agree (run 24 1) (24 ∷ run 23 1) refl (p₂₄, a)

  same_data : x < 2 ^ 24 → y < 2 ^ 24 → checked x → checked y → data_of x ≡ data_of y → x ≡ y
  unfolding data_of
  same_data p q c d e =
      sym (whole x p)
      ∙ ap from_bits (bits_agree (run 24 1) (all_agree c d (but_last c d (agree places e))))
      ∙ whole y q

pub checked_good : (w : ℕ) → w < 2 ^ 24 → checked w → w ≡ good (data_of w)
checked_good w h c =
    let v = data_of w in
    same_data w (good v) h (good_small v) c (good_checked v) (sym (data_good v (data_small w)))
