-- `shown`: the signs of the double time's pattern.
use borrow.Author.Rules.{rules}
use Prim.Native.Nat.{ℕ}
use mathlib.Core.List.{List}
use mathlib.Core.Path.{◌≡◌}
use mathlib.Core.Bool.{Bool, true, ◌&&◌, and_assoc, and-true}
use lib.Dec.{eqb}
use lib.ListN.{length}
use Rattle.codes.specs.Codes.{is_decimal, point, hyphen}
use Rattle.formats.specs.Formats.{at}
use Rattle.formats.proofs.Facts.{eleven}
use Rattle.formats.proofs.format.shown.Goals as goal

-- figure number i is decimal
abbrev z : List ℕ → ℕ → Bool
z cs i = is_decimal (at cs i)

-- the tests of the double time's signs, by pairs and one by one
twice : (a b c d e f g h i j k : Bool)
    → (((a && b) && (c && (d && e))) && (f && ((g && h) && (i && (j && k)))))
    ≡ (a && (b && (c && (d && (e && (f && (g && (h && (i && (j && (k && true)))))))))))
twice a b c d e f g h i j k = simp (and_assoc, and-true)

pub returns-in-Double : goal.returns-in-Double
returns-in-Double c =
    let cs = c.args.c in
    let all : length cs ≡ 11 = search rules in
    rw (c.in-Double.is, c.zz-in-Double.ensures, c.zz-in-Double-2.ensures, c.zz-in-Double-3.ensures, c.zz-in-Double-4.ensures, eleven cs all)
    (twice (z cs 0) (z cs 1) (eqb (at cs 2) point) (z cs 3) (z cs 4)
    (eqb (at cs 5) hyphen) (z cs 6) (z cs 7) (eqb (at cs 8) point) (z cs 9) (z cs 10))
