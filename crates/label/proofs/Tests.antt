-- The writer's test: a label that fits.
use Prim.Native.Nat.{ℕ, ◌<◌}
use mathlib.Core.Path.{◌≡◌, refl}
use mathlib.Core.Bool.{Bool, true, false, not, ◌||◌, or-true, or-false, or_assoc}
use native.Mathlib.Omega.{arith}
use borrow.Author.Tests.{lt-leb, eqb-true}
use lib.Dec.{leb, eqb}
use Rattle.label.specs.declared.Label.{Label}
use Rattle.label.specs.Packet.{unfit, format2}

format_small : (d : ℕ) → format2 d ≡ true → d < 16
format_small d e = go (eqb d 2) refl
  where
    go : (t : Bool) → eqb d 2 ≡ t → d < 16
    go true h = let x = eqb-true d 2 h in omega arith
    go false h = let x = eqb-true d 3 (rw h at e) in omega arith

-- the tests of seven fields and the designation are those of every field: two fit their numbers' types, and a designation of format 2 fits
pub unfit_by : (l : Label) → l.cni < 65536 → l.pty < 256 →
    leb 4 l.lci || leb 2 l.luf || leb 2 l.prf || leb 4 l.pcs || leb 2 l.mi || leb 2 l.spare || leb 1048576 l.pil
    || not (format2 l.designation) ≡ unfit l
unfit_by l p q = rw (lt-leb 65536 l.cni p, lt-leb 256 l.pty q) (go (format2 l.designation) refl)
  where
    x : Bool
    x = leb 4 l.lci || leb 2 l.luf || leb 2 l.prf || leb 4 l.pcs || leb 2 l.mi || leb 2 l.spare

    y : Bool
    y = leb 4 l.lci || (leb 2 l.luf || (leb 2 l.prf || (leb 4 l.pcs || (leb 2 l.mi || (leb 2 l.spare || (leb 1048576 l.pil || (false || false)))))))

    go : (t : Bool) → format2 l.designation ≡ t → x || leb 1048576 l.pil || not (format2 l.designation) ≡ (leb 16 l.designation || y) || not (format2 l.designation)
    go true e = simp (or_assoc, or-false, lt-leb 16 l.designation (format_small l.designation e), e)
    go false e = simp (or-true, e)
