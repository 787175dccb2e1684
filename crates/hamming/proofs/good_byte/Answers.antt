-- `good_byte`: the data bits at their places, and the parity bits of the equations between them.
use Prim.Native.Nat.{ℕ, ◌+◌, ◌*◌, ◌/◌, ◌%◌, ◌<◌}
use mathlib.Core.Path.{◌≡◌, sym, ap, ◌∙◌}
use native.Mathlib.Omega.{arith}
use native.Mathlib.Nat.{add-zero}
use Rattle.hamming.specs.Byte.{good}
use Rattle.hamming.proofs.Checks.{laid, lowest_four, fails, sent_good}
use Rattle.hamming.proofs.good_byte.Goals as goal

-- the data bits, and the seven bits, as the code lays them
abbrev data_of : ℕ → ℕ
data_of v = v % 2 * 2 + v / 2 % 2 * 8 + v / 4 % 2 * 32 + v / 8 % 2 * 128

abbrev seven_of : ℕ → ℕ → ℕ → ℕ → ℕ
seven_of v p₁ p₂ p₃ = data_of v + p₁ * 1 + p₂ * 4 + p₃ * 16

made : (v : ℕ) {p₁ p₂ p₃ p₄ : ℕ} →
    p₁ ≡ fails 0xA3 (data_of v) → p₂ ≡ fails 0x8E (data_of v) → p₃ ≡ fails 0x3A (data_of v) → p₄ ≡ fails 0xFF (seven_of v p₁ p₂ p₃) →
    seven_of v p₁ p₂ p₃ + p₄ * 64 ≡ good (v % 16)
made v {p₁} {p₂} {p₃} {p₄} e₁ e₂ e₃ e₄ =
    let l : (n : ℕ) → n % 2 < 2 = λ n. omega arith in
    let g = placed (v % 2) (v / 2 % 2) (v / 4 % 2) (v / 8 % 2) in
    let s = between (v % 2) (v / 2 % 2) (v / 4 % 2) (v / 8 % 2) p₁ p₂ p₃ in
    s p₄
    ∙ sent_good (v % 2) (v / 2 % 2) (v / 4 % 2) (v / 8 % 2) (l v) (l (v / 2)) (l (v / 4)) (l (v / 8)) p₁ p₂ p₃ p₄
    (e₁ ∙ ap (fails 0xA3) g) (e₂ ∙ ap (fails 0x8E) g) (e₃ ∙ ap (fails 0x3A) g)
    (e₄ ∙ ap (fails 0xFF) (sym (add-zero _) ∙ s 0))
    ∙ ap good (lowest_four v)
  where
    placed : (d₁ d₂ d₃ d₄ : ℕ) → d₁ * 2 + d₂ * 8 + d₃ * 32 + d₄ * 128 ≡ laid 0 d₁ 0 d₂ 0 d₃ 0 d₄
    placed d₁ d₂ d₃ d₄ = omega arith

    between : (d₁ d₂ d₃ d₄ p₁ p₂ p₃ p₄ : ℕ) →
        d₁ * 2 + d₂ * 8 + d₃ * 32 + d₄ * 128 + p₁ * 1 + p₂ * 4 + p₃ * 16 + p₄ * 64 ≡ laid p₁ d₁ p₂ d₂ p₃ d₃ p₄ d₄
    between d₁ d₂ d₃ d₄ p₁ p₂ p₃ p₄ = omega arith

pub returns : goal.returns
returns c =
    made c.args.v c.even-p1.ensures c.even-p2.ensures c.even-p3.ensures c.even-p4.ensures
