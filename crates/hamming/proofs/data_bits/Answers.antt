-- `data_bits`: the data bits by pairs, then the pairs together.
use borrow.Author.Rules.{rules}
use Prim.Native.Nat.{ℕ, ◌+◌, ◌*◌, ◌/◌, ◌%◌, ◌<◌}
use mathlib.Core.Path.{◌≡◌, ap, ◌∙◌}
use native.Mathlib.Omega.{arith}
use lib.Bits.{bit_and}
use Rattle.hamming.specs.Byte.{D}
use Rattle.hamming.proofs.Bits.{bit_small}
use Rattle.hamming.proofs.Checks.{valued, D1-D3, D2-D4}
use Rattle.hamming.proofs.data_bits.Goals as goal

pairs : (b : ℕ) → bit_and b 0x22 / 2 + bit_and b 0x88 / 4 ≡ D 2 b + 2 * D 4 b + 16 * (D 6 b + 2 * D 8 b)
pairs b = let e = D1-D3 b in let f = D2-D4 b in omega arith

pairs_small : (b : ℕ) → bit_and b 0x22 / 2 + bit_and b 0x88 / 4 < 64
pairs_small b =
    let e = pairs b in
    let l₁ = bit_small 2 b in
    let l₂ = bit_small 4 b in
    let l₃ = bit_small 6 b in
    let l₄ = bit_small 8 b in
    omega arith

together : (d₁ d₂ d₃ d₄ : ℕ) → d₁ < 2 → d₂ < 2 → let p = d₁ + 2 * d₂ + 16 * (d₃ + 2 * d₄) in p % 4 + p / 4 ≡ valued d₁ d₂ d₃ d₄
together d₁ d₂ d₃ d₄ l₁ l₂ = omega arith

pub overflow_add-pairs : goal.overflow_add-pairs
overflow_add-pairs c = let l = pairs_small c.args.b in search rules

pub overflow_add-result : goal.overflow_add-result
overflow_add-result c = let l = pairs_small c.args.b in search rules

pub returns : goal.returns
returns c =
    let b = c.args.b in
    ap (λ (p : ℕ). p % 4 + p / 4) (pairs b) ∙ together (D 2 b) (D 4 b) (D 6 b) (D 8 b) (bit_small 2 b) (bit_small 4 b)
