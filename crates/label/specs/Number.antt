-- Bytes 9 to 21 as one number, by which reader and writer compute. Only promises of the code's own parts cite it.
use Rattle.std.specs.Prelude.{ℕ, List, [], ◌∷◌, map}
use Rattle.label.specs.Layout.{Position, number_from}

-- the positions in some bytes, in the order in which their bits are sent
abbrev pub in_order : List ℕ → List Position
in_order [] = []
in_order (i ∷ is) = (i, 1) ∷ (i, 2) ∷ (i, 3) ∷ (i, 4) ∷ in_order is

-- the number of the bits of some bytes, where b gives the bit at each position
unfoldable pub number_by : (Position → ℕ) → List ℕ → ℕ
number_by b is = number_from 0 (map b (in_order is))
