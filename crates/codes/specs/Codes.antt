-- The codes of a preview page (EN 300 231 clause 7.3.1.1, table 4; document 02, #108), and the colour in force.
use Rattle.std.specs.Prelude.{ℕ, ◌-◌, Bool, false, cond, not, ◌&&◌, ◌||◌, List, [], ◌∷◌, ◌≡◌, ◌⊎◌, leb, ltb, eqb}
use Rattle.codes.specs.declared.Colour.{Colour}
use Rattle.codes.specs.declared.Colour.TheVariants.{Plain, Magenta, Graphics}

-- ── R2: the signs of table 4 ───────────────────────────────────────────────────────────────────────────────────────
-- `+`: 'any alphanumeric colour control character except "Alpha Magenta"', 01 02 03 04 06 07
abbrev pub is_colour : ℕ → Bool
is_colour c = leb 1 c && leb c 7 && not (eqb c 5)

-- `:`: '"Alpha Magenta" colour control character', 05
abbrev pub is_magenta : ℕ → Bool
is_magenta c = eqb c 5

-- '"Concealed display"', which table 4 prints as 1B
abbrev pub conceal : ℕ
conceal = 27

-- `%`
abbrev pub is_conceal : ℕ → Bool
is_conceal c = eqb c conceal

-- `z`: 'decimal figures 0 to 9', 30 to 39
abbrev pub is_decimal : ℕ → Bool
is_decimal c = leb 48 c && leb c 57

-- 41 to 46, A to F
abbrev pub is_letter : ℕ → Bool
is_letter c = leb 65 c && leb c 70

-- `h`: 'hexadecimal figures', 30 to 39 and 41 to 46
abbrev pub is_hexadecimal : ℕ → Bool
is_hexadecimal c = is_decimal c || is_letter c

-- the number that a figure shows: '(A to F are 10 to 15)'
abbrev pub figure : ℕ → ℕ
figure c = cond (is_decimal c) (c - 48) (cond (is_letter c) (c - 55) 0)

-- `.`: 'separation between hours and minutes'
abbrev pub point : ℕ
point = 46

-- `-`: 'separation between starting and finishing times in double-time format'
abbrev pub hyphen : ℕ
hyphen = 45

-- 'control characters for graphics', 10 to 17
abbrev pub is_graphics : ℕ → Bool
is_graphics c = leb 16 c && leb c 23

-- one of `+`, `:` and `%`
unfoldable pub is_mark : ℕ → Bool
is_mark c = is_colour c || (is_magenta c || is_conceal c)

-- 'a pair is two equal codes side by side: `++` (the same colour twice), `%%` or `::`'
abbrev pub is_pair : ℕ → ℕ → Bool
is_pair c d = is_mark c && eqb c d

-- 'all other codes, 00 included, are characters without effect'; those above 127 are no codes
unfoldable pub has_effect : ℕ → Bool
has_effect c = is_mark c || (is_graphics c || (is_hexadecimal c || (eqb c point || (eqb c hyphen || ltb 127 c))))

-- two lists of codes that differ only in characters without effect
unfoldable pub SameButText : List ℕ → List ℕ → Type 0
SameButText [] [] = Unit {0}
SameButText [] (d ∷ ds) = ⊥
SameButText (c ∷ cs) [] = ⊥
SameButText (c ∷ cs) (d ∷ ds) = ((c ≡ d) ⊎ ((has_effect c ≡ false) × (has_effect d ≡ false))) × SameButText cs ds

-- ── R3: the colour in force ────────────────────────────────────────────────────────────────────────────────────────
-- 'plain at the row's start; then set by the last code before that column that is a `+` (plain), `:` (magenta) or graphics code (graphics)'
unfoldable pub colour_by : Colour → ℕ → Colour
colour_by k c = cond (is_colour c) Plain (cond (is_magenta c) Magenta (cond (is_graphics c) Graphics k))
