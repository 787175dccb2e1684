-- What the code finds out of a word by its checks. Only promises of the code's own parts cite it.
use Rattle.std.specs.Prelude.{ℕ, ◌+◌, ◌%◌, List, [], ◌∷◌, ◌++◌, map}
use Rattle.triplet.specs.Word.{from_bits, run, bits_at, ones_among, covered}

-- 'D1 to D18 at 3, 5 to 7, 9 to 15, 17 to 23'
unfoldable pub places : List ℕ
places = run 1 3 ++ run 3 5 ++ run 7 9 ++ run 7 17

-- the number of a word's own data bits
unfoldable pub data_of : ℕ → ℕ
data_of w = from_bits (bits_at places w)

-- 1 where the ones among the positions are even in number, so that a check fails, and 0 where they are odd
abbrev pub wrong : List ℕ → ℕ → ℕ
wrong ns w = (1 + ones_among ns w) % 2

-- the five parity bits whose positions are a part of the word
abbrev pub five : List ℕ
five = 1 ∷ 2 ∷ 4 ∷ 8 ∷ 16 ∷ []

-- the number that has the bits of those of the five parity bits whose check fails
unfoldable pub spelt : ℕ → ℕ
spelt w = from_bits (map (λ p. wrong (covered p) w) five)
