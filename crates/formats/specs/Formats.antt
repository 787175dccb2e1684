-- R4: the figure formats (EN 300 231 clause 7.3.1.3, tables 4 and 5; document 02, #108).
use Rattle.std.specs.Prelude.{ℕ, Bool, true, false, cond, ◌&&◌, ◌||◌, List, [], ◌∷◌, ◌++◌, ◌≡◌, eqb, get_or}
use Rattle.codes.specs.declared.Colour.{Colour}
use Rattle.codes.specs.declared.Colour.TheVariants as colour
use Rattle.codes.specs.Codes.{is_colour, is_magenta, is_conceal, is_decimal, is_hexadecimal, figure, point, hyphen, is_mark}
use Rattle.formats.specs.declared.Start.{Start}
use Rattle.formats.specs.declared.Start.TheVariants as start
use Rattle.formats.specs.declared.Sign.{Sign}
use Rattle.formats.specs.declared.Sign.TheVariants.{Decimal, Hexadecimal, Point, Hyphen, PlusMinus, LetterF}
use Rattle.formats.specs.declared.Kind.{Kind}
use Rattle.formats.specs.declared.Kind.TheVariants as kind

-- ── what stands directly before the figures ────────────────────────────────────────────────────────────────────────
-- '`%` in graphics starts nothing'
abbrev pub concealed_in : Colour → Start
concealed_in colour.Plain = start.InPlain
concealed_in colour.Magenta = start.InMagenta
concealed_in colour.Graphics = start.Nothing

-- `+`, `:`, `%` in plain, `%` in magenta: by the code, and the colour in force before it
unfoldable pub start_of : Colour → ℕ → Start
start_of k c = cond (is_colour c) start.Colour (cond (is_magenta c) start.Magenta (cond (is_conceal c) (concealed_in k) start.Nothing))

abbrev pub is_coloured : Start → Bool
is_coloured start.Nothing = false
is_coloured start.Colour = true
is_coloured start.InPlain = false
is_coloured start.Magenta = false
is_coloured start.InMagenta = false

abbrev pub is_in_plain : Start → Bool
is_in_plain start.Nothing = false
is_in_plain start.Colour = false
is_in_plain start.InPlain = true
is_in_plain start.Magenta = false
is_in_plain start.InMagenta = false

abbrev pub is_magenta_start : Start → Bool
is_magenta_start start.Nothing = false
is_magenta_start start.Colour = false
is_magenta_start start.InPlain = false
is_magenta_start start.Magenta = true
is_magenta_start start.InMagenta = false

abbrev pub is_in_magenta : Start → Bool
is_in_magenta start.Nothing = false
is_in_magenta start.Colour = false
is_in_magenta start.InPlain = false
is_in_magenta start.Magenta = false
is_in_magenta start.InMagenta = true

-- the table's column 'directly before'
abbrev pub starts : Kind → Start → Bool
starts kind.Text s = false
starts kind.Single s = is_coloured s || is_in_plain s  -- `+`, or `%` in plain
starts kind.Double s = is_coloured s  -- `+`
starts kind.Original s = is_magenta_start s || is_in_magenta s  -- `:`, or `%` in magenta
starts kind.Date s = is_magenta_start s || is_in_magenta s  -- `:`, or `%` in magenta
starts kind.Network s = is_in_magenta s  -- `%` in magenta
starts kind.Offset s = is_in_magenta s
starts kind.Pty s = is_in_magenta s
starts kind.Word s = is_in_magenta s

-- ── the figures ────────────────────────────────────────────────────────────────────────────────────────────────────
-- the table's column 'figures'
abbrev pub pattern : Kind → List Sign
pattern kind.Text = []
pattern kind.Single = Decimal ∷ Decimal ∷ Point ∷ Decimal ∷ Decimal ∷ []  -- zz.zz
pattern kind.Double =  -- zz.zz-zz.zz
    Decimal ∷ Decimal ∷ Point ∷ Decimal ∷ Decimal ∷ Hyphen ∷ Decimal ∷ Decimal ∷ Point ∷ Decimal ∷ Decimal ∷ []
pattern kind.Original = Decimal ∷ Decimal ∷ Decimal ∷ Decimal ∷ []  -- zzzz
pattern kind.Date = Decimal ∷ Decimal ∷ Decimal ∷ Decimal ∷ Decimal ∷ Decimal ∷ []  -- zzzzzz
pattern kind.Network = Hexadecimal ∷ Hexadecimal ∷ Decimal ∷ Decimal ∷ Decimal ∷ []  -- hhzzz
pattern kind.Offset = PlusMinus ∷ Decimal ∷ Decimal ∷ []  -- 0zz or 9zz
pattern kind.Pty = LetterF ∷ Hexadecimal ∷ Hexadecimal ∷ []  -- Fhh
pattern kind.Word = Hexadecimal ∷ Hexadecimal ∷ []  -- hh

-- a code is one that a sign stands for
abbrev pub shows : Sign → ℕ → Bool
shows Decimal c = is_decimal c
shows Hexadecimal c = is_hexadecimal c
shows Point c = eqb c point
shows Hyphen c = eqb c hyphen
shows PlusMinus c = eqb c 48 || eqb c 57
shows LetterF c = eqb c 70

-- codes are those of a pattern, one for each sign
abbrev pub fits : List Sign → List ℕ → Bool
fits [] [] = true
fits [] (c ∷ cs) = false
fits (s ∷ ss) [] = false
fits (s ∷ ss) (c ∷ cs) = shows s c && fits ss cs

-- the point and the hyphen are no figures
abbrev pub is_figure : Sign → Bool
is_figure Decimal = true
is_figure Hexadecimal = true
is_figure Point = false
is_figure Hyphen = false
is_figure PlusMinus = true
is_figure LetterF = true

-- what the figures of a pattern show
abbrev pub figures_by : List Sign → List ℕ → List ℕ
figures_by [] cs = []
figures_by (s ∷ ss) [] = []
figures_by (s ∷ ss) (c ∷ cs) = cond (is_figure s) (figure c ∷ figures_by ss cs) (figures_by ss cs)

-- figure number i
abbrev pub at : List ℕ → ℕ → ℕ
at fs i = get_or fs i 0

-- ── where a format stands ──────────────────────────────────────────────────────────────────────────────────────────
-- 'an end is one code `+`, `:` or `%`, or `<`', the end of the row
abbrev pub is_end : List ℕ → Bool
is_end [] = true
is_end (c ∷ cs) = is_mark c

-- 'one stands where a code of the first column is directly followed by the figures, and these directly by an end. .. The end is not
-- used up': of these codes the first begins a format of this kind with these figures, the colour in force before it being k
pub record Stands (k : Colour) (codes : List ℕ) (kind : Kind) (figures : List ℕ) : Type 0 where
  pub before : ℕ
  pub text : List ℕ
  pub rest : List ℕ
  pub are : codes ≡ before ∷ (text ++ rest)
  pub begins : starts kind (start_of k before) ≡ true
  pub shown : fits (pattern kind) text ≡ true
  pub ends : is_end rest ≡ true
  pub given : figures ≡ figures_by (pattern kind) text
