-- Numbers as text, and text stored in a buffer (document 01, 'The sheet program').
use Rattle.std.specs.Prelude.{ℕ, zero, suc, ◌+◌, ◌/◌, ◌%◌, cond, ◌≡◌, List, [], ◌∷◌, ◌++◌, ltb, length}
use Rattle.std.proofs.lemmas.List.Edits.{sets}

abbrev pub space : ℕ
space = 32

abbrev pub line_feed : ℕ
line_feed = 10

abbrev pub digit : ℕ → ℕ
digit d = 48 + d % 10

-- a number in decimal, with no 0 in front, where k digits hold it; else its k lowest digits
unfoldable pub decimal_in : ℕ → ℕ → List ℕ
decimal_in zero n = []
decimal_in (suc k) n = cond (ltb n 10) (digit n ∷ []) (decimal_in k (n / 10) ++ (digit n ∷ []))

-- what a writer of text promises: it is stored from place at on, and the place after it answered
abbrev pub Stored : List ℕ → ℕ → List ℕ → ℕ → List ℕ → Type 0
Stored out at text r after = (r ≡ at + length text) × (after ≡ sets out at text)
