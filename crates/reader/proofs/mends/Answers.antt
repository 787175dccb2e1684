-- `mends` tells a mended byte from the others, which is a byte at distance 1.
use Rattle.std.proofs.Common.{cond, ◌≡◌, ℕ, Bool, true, false, eqb, refl, sym, ap, ◌∙◌}
use Rattle.hamming.specs.Byte.{away, nibble_of}
use Rattle.hamming.specs.declared.Nibble.{Nibble}
use Rattle.hamming.specs.declared.Nibble.TheVariants.{Damaged, Clean, Mended}
use Rattle.hamming.proofs.Nearest.{is_mended, mended_away}
use Rattle.reader.proofs.mends.Goals as goal
use Rattle.reader.proofs.mends.Goals.{in-Mended, in_default}

abbrev bit : Bool → ℕ
bit t = cond t 1 0

told : {n : Nibble} (t : Bool) {r : ℕ} → r ≡ bit t → t ≡ is_mended n → (b : ℕ) → n ≡ nibble_of b → r ≡ bit (eqb (away b) 1)
told t f e b d = f ∙ ap bit (e ∙ ap is_mended d ∙ mended_away b)

other : (n : Nibble) → ((v : ℕ) → n ≡ Mended v → ⊥) → false ≡ is_mended n
other Damaged h = refl
other (Clean v) h = refl
other (Mended v) h = absurd (h v refl)

pub returns : goal.returns
returns c =
    elim c.match-matches.branch [
      | in-Mended w ↦ told true (rw w.matches-is at c.from.ensures) (sym (ap is_mended w.in-Mended.is))
      | in_default w ↦ told false (rw w.matches-is at c.from.ensures) (other c.args.n w.in_default.not-Mended)
    ]
