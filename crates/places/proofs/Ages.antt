-- Ages in seconds, compared without a difference: a sum in 64 bits does not wrap.
use Prim.Native.Nat.{ℕ, ◌+◌, ◌-◌, ◌<◌}
use mathlib.Core.Path.{◌≡◌, sym, ◌∙◌}
use native.Mathlib.Omega.{arith}
use native.Mathlib.Decide.{dec_le}
use borrow.Author.Tests.{le-leb, lt-leb, lt-ltb, le-ltb}
use lib.Dec.{leb, ltb}

pub at_most : (s v n : ℕ) → leb s (v + n) ≡ leb (s - v) n
at_most s v n =
    elim (dec_le s (v + n)) [
      | yes h ↦ le-leb s (v + n) h ∙ sym (le-leb (s - v) n (omega arith))
      | no h ↦ lt-leb s (v + n) (omega arith) ∙ sym (lt-leb (s - v) n (omega arith))
    ]

-- where n is not 0, or from v on
pub below : (s v n : ℕ) → (s < v → 0 < n) → ltb s (v + n) ≡ ltb (s - v) n
below s v n p =
    elim (dec_le (v + n) s) [
      | yes h ↦ le-ltb s (v + n) h ∙ sym (le-ltb (s - v) n (omega arith))
      | no h ↦
          let young : s - v < n = elim (dec_le v s) [ yes k ↦ omega arith | no k ↦ omega (arith, p (omega arith)) ] in
          lt-ltb s (v + n) (omega arith) ∙ sym (lt-ltb (s - v) n young)
    ]
