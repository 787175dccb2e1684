-- `address_damaged`: a value above 15 is that of a damaged byte.
use Prim.Native.Nat.{ℕ}
use mathlib.Core.Path.{◌≡◌, refl, sym, ap₂, ◌∙◌}
use mathlib.Core.Bool.{Bool, true, false, ◌||◌, or-false}
use Rattle.hamming.specs.Byte.{nibble_of}
use Rattle.label.specs.Packet.{damaged}
use Rattle.label.proofs.Nibbles.{over}
use Rattle.programmes.specs.Page.{byte_at}
use Rattle.preselection.proofs.packet.address_damaged.Goals as goal

three : (a b c : Bool) → (a || b || c) ≡ (a || (b || (c || false)))
three true b c = refl
three false true c = refl
three false false c = sym (or-false c)

pub returns : goal.returns
returns c =
    let a = c.args in
    let byte : ℕ → ℕ = byte_at a.bytes.now a.k in
    ap₂ (λ (x y : Bool). x || y) (ap₂ (λ (x y : Bool). x || y) (over (byte 0) c.value_at-magazine.ensures) (over (byte 1) c.value_at-packet.ensures)) (over (byte 2) c.value_at-designation.ensures)
    ∙ three (damaged (nibble_of (byte 0))) (damaged (nibble_of (byte 1))) (damaged (nibble_of (byte 2)))
