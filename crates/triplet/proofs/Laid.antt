-- What `good_word` puts together is the good word.
use Prim.Native.Nat.{ℕ, ◌+◌, ◌*◌, ◌/◌, ◌%◌, ◌<◌}
use mathlib.Core.Path.{◌≡◌, sym, ap, ◌∙◌}
use mathlib.Core.List.{List}
use native.Mathlib.Omega.{arith}
use native.Mathlib.Nat.{add-zero, div-one}
use lib.ListN.{get_or}
use Rattle.triplet.specs.Word.{from_bits, layout, good, run, bits_at, ones_of, covered, all}
use Rattle.triplet.specs.Checks.{wrong}
use Rattle.triplet.proofs.Bits.{Bits, picked, bits_of_lem, run_bits, sum_from, sum_ones}
use Rattle.triplet.proofs.Good.{among, among_bits, parity_small}

-- the data bits of a value at their places
abbrev pub laid : ℕ → ℕ
laid v = v % 2 * 4 + v / 2 % 8 * 16 + v / 16 % 128 * 256 + v / 2048 % 128 * 65536

abbrev pub most : ℕ → ℕ → ℕ → ℕ → ℕ → ℕ → ℕ
most p₁ p₂ p₄ p₈ p₁₆ v = laid v + p₁ + 2 * p₂ + 8 * p₄ + 128 * p₈ + 32768 * p₁₆

-- the bit of the good word above n others
abbrev good_bit : ℕ → ℕ → ℕ
good_bit n v = get_or (layout v) n 0

laid_bits : (v : ℕ) → laid v ≡
    from_bits (bits_at (run 1 1) v) * 4 + from_bits (bits_at (run 3 2) v) * 16 + from_bits (bits_at (run 7 5) v) * 256
    + from_bits (bits_at (run 7 12) v) * 65536
laid_bits v = rw (run_bits 1 0 v, run_bits 3 1 v, run_bits 7 4 v, run_bits 7 11 v, div-one v)

among_sum : (p₁ p₂ p₄ p₈ p₁₆ p₂₄ v l : ℕ) →
    l ≡ from_bits (bits_at (run 1 1) v) * 4 + from_bits (bits_at (run 3 2) v) * 16 + from_bits (bits_at (run 7 5) v) * 256
    + from_bits (bits_at (run 7 12) v) * 65536 →
    l + p₁ + 2 * p₂ + 8 * p₄ + 128 * p₈ + 32768 * p₁₆ + 8388608 * p₂₄ ≡ from_bits (among p₁ p₂ p₄ p₈ p₁₆ p₂₄ v)
unfolding run
among_sum p₁ p₂ p₄ p₈ p₁₆ p₂₄ v l e = omega arith

among_laid : (p₁ p₂ p₄ p₈ p₁₆ p₂₄ v : ℕ) → most p₁ p₂ p₄ p₈ p₁₆ v + 8388608 * p₂₄ ≡ from_bits (among p₁ p₂ p₄ p₈ p₁₆ p₂₄ v)
among_laid p₁ p₂ p₄ p₈ p₁₆ p₂₄ v = among_sum p₁ p₂ p₄ p₈ p₁₆ p₂₄ v (laid v) (laid_bits v)

wrong_of : (w : ℕ) (bs : List ℕ) → w ≡ from_bits bs → Bits bs → (ns : List ℕ) → wrong ns w ≡ sum_from 1 (picked bs ns) % 2
wrong_of w bs e s ns =
    rw e (ap (λ (l : List ℕ). (1 + ones_of l) % 2) (bits_of_lem bs s ns) ∙ ap (λ (n : ℕ). n % 2) (sym (sum_ones 1 (picked bs ns))))

module _ (v : ℕ) where
  of_laid : (ns : List ℕ) → wrong ns (laid v) ≡ sum_from 1 (picked (among 0 0 0 0 0 0 v) ns) % 2
  of_laid ns =
      let z : 0 < 2 = omega arith in
      let e : laid v ≡ from_bits (among 0 0 0 0 0 0 v) = omega (arith, among_laid 0 0 0 0 0 0 v) in
      wrong_of (laid v) (among 0 0 0 0 0 0 v) e (among_bits z z z z z z v) ns

  parities : (wrong (covered 1) (laid v) ≡ good_bit 0 v) × (wrong (covered 2) (laid v) ≡ good_bit 1 v)
      × (wrong (covered 4) (laid v) ≡ good_bit 3 v) × (wrong (covered 8) (laid v) ≡ good_bit 7 v)
      × (wrong (covered 16) (laid v) ≡ good_bit 15 v)
  unfolding layout covered run
  parities = (of_laid (covered 1), of_laid (covered 2), of_laid (covered 4), of_laid (covered 8), of_laid (covered 16))

  abbrev with_parity : ℕ → List ℕ
  with_parity p₂₄ = among (good_bit 0 v) (good_bit 1 v) (good_bit 3 v) (good_bit 7 v) (good_bit 15 v) p₂₄ v

  abbrev most_good : ℕ
  most_good = most (good_bit 0 v) (good_bit 1 v) (good_bit 3 v) (good_bit 7 v) (good_bit 15 v) v

  laid_with : (p₂₄ : ℕ) → most_good + 8388608 * p₂₄ ≡ from_bits (with_parity p₂₄)
  laid_with p₂₄ = among_laid (good_bit 0 v) (good_bit 1 v) (good_bit 3 v) (good_bit 7 v) (good_bit 15 v) p₂₄ v

  parity_24 : wrong all most_good ≡ good_bit 23 v
  unfolding layout all run
  parity_24 =
      let s = parity_small in
      let e : most_good ≡ from_bits (with_parity 0) = sym (add-zero most_good) ∙ laid_with 0 in
      wrong_of most_good (with_parity 0) e (among_bits (s _) (s _) (s _) (s _) (s _) (s 0) v) all
      ∙ ap (λ (n : ℕ). n % 2) (add-zero _)

  good_laid : most_good + 8388608 * good_bit 23 v ≡ good v
  unfolding good layout
  good_laid = laid_with (good_bit 23 v)

-- with the parity bits that the code finds
pub laid_good : (v p₁ p₂ p₄ p₈ p₁₆ p₂₄ : ℕ) →
    p₁ ≡ wrong (covered 1) (laid v) → p₂ ≡ wrong (covered 2) (laid v) → p₄ ≡ wrong (covered 4) (laid v) →
    p₈ ≡ wrong (covered 8) (laid v) → p₁₆ ≡ wrong (covered 16) (laid v) → p₂₄ ≡ wrong all (most p₁ p₂ p₄ p₈ p₁₆ v) →
    most p₁ p₂ p₄ p₈ p₁₆ v + 8388608 * p₂₄ ≡ good v
laid_good v p₁ p₂ p₄ p₈ p₁₆ p₂₄ e₁ e₂ e₄ e₈ e₁₆ e₂₄ =
    let q₁ = e₁ ∙ (parities v).0 in
    let q₂ = e₂ ∙ (parities v).1 in
    let q₄ = e₄ ∙ (parities v).2 in
    let q₈ = e₈ ∙ (parities v).3 in
    let q₁₆ = e₁₆ ∙ (parities v).4 in
    let q₂₄ = (rw (q₁, q₂, q₄, q₈, q₁₆) at e₂₄) ∙ parity_24 v in
    rw (q₁, q₂, q₄, q₈, q₁₆, q₂₄) (good_laid v)
