-- The codes after a start, taken as a format. What a format is, is said in Formats.antt; the laws say that this is the same.
use Rattle.std.specs.Prelude.{ℕ, Bool, true, false, cond, ◌&&◌, List, leb, eqb, length, take}
use Rattle.codes.specs.Codes.{is_decimal, is_hexadecimal}
use Rattle.formats.specs.declared.Start.{Start}
use Rattle.formats.specs.declared.Start.TheVariants as start
use Rattle.formats.specs.declared.Kind.{Kind}
use Rattle.formats.specs.declared.Kind.TheVariants as kind
use Rattle.formats.specs.Formats.{at, pattern, fits}

-- ── the kind ───────────────────────────────────────────────────────────────────────────────────────────────────────
-- what so many codes can only be: after `+`,
abbrev pub coloured_by : ℕ → Kind
coloured_by n = cond (eqb n 5) kind.Single (cond (eqb n 11) kind.Double kind.Text)

-- after `%` in plain,
abbrev pub plain_by : ℕ → Kind
plain_by n = cond (eqb n 5) kind.Single kind.Text

-- after `:`, and after `%` in magenta,
abbrev pub either_by : ℕ → Kind
either_by n = cond (eqb n 4) kind.Original (cond (eqb n 6) kind.Date kind.Text)

-- after `%` in magenta alone, three by the first of them
abbrev pub hidden_by : ℕ → ℕ → Kind
hidden_by n c =
    cond (eqb n 2) kind.Word (cond (eqb n 3) (cond (eqb c 70) kind.Pty kind.Offset) (cond (eqb n 5) kind.Network (either_by n)))

abbrev pub kind_by : Start → ℕ → ℕ → Kind
kind_by start.Nothing n c = kind.Text
kind_by start.Colour n c = coloured_by n
kind_by start.InPlain n c = plain_by n
kind_by start.Magenta n c = either_by n
kind_by start.InMagenta n c = hidden_by n c

-- no format
abbrev pub is_text : Kind → Bool
is_text kind.Text = true
is_text kind.Single = false
is_text kind.Double = false
is_text kind.Original = false
is_text kind.Date = false
is_text kind.Network = false
is_text kind.Offset = false
is_text kind.Pty = false
is_text kind.Word = false

-- `Text` where they are not its figures
abbrev pub fitting : Kind → List ℕ → Kind
fitting k text = cond (fits (pattern k) text) k kind.Text

unfoldable pub kind_in : Start → List ℕ → Kind
kind_in s text = fitting (kind_by s (length text) (at text 0)) text

-- the first n of eleven codes; more are no format
unfoldable pub kind_from : Start → ℕ → List ℕ → Kind
kind_from s n codes = cond (leb n 11) (kind_in s (take n codes)) kind.Text

-- ── its figures ────────────────────────────────────────────────────────────────────────────────────────────────────
-- as many codes as a pattern has signs
abbrev pub own_codes : Kind → List ℕ → List ℕ
own_codes k codes = take (length (pattern k)) codes

-- `zz` and `hh`
abbrev pub are_decimal : ℕ → ℕ → Bool
are_decimal c d = is_decimal c && is_decimal d

abbrev pub are_hexadecimal : ℕ → ℕ → Bool
are_hexadecimal c d = is_hexadecimal c && is_hexadecimal d
