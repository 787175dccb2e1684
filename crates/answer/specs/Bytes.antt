-- Numbers out of bytes (document 01, 'The sheet program').
use Rattle.std.specs.Prelude.{ℕ, ◌+◌, ◌*◌, List, [], ◌∷◌}

abbrev pub number_from : ℕ → List ℕ → ℕ
number_from n [] = n
number_from n (b ∷ bs) = number_from (n * 256 + b) bs

-- 'numbers have the high byte first'
abbrev pub number_of : List ℕ → ℕ
number_of bs = number_from 0 bs
