-- A row taken one code at a time, with `<` as a forty-first. What it contains is said in Row.antt; the laws say that this is the same.
use Rattle.std.specs.Prelude.{ℕ, suc, ◌+◌, Bool, true, false, cond, not, ◌&&◌, ◌||◌, List, [], ◌∷◌, ◌++◌, ltb, set, replicate}
use Rattle.codes.specs.declared.Colour.TheVariants as colour
use Rattle.codes.specs.Codes.{is_mark, colour_by}
use Rattle.formats.specs.declared.Start.TheVariants as start
use Rattle.formats.specs.declared.Kind.{Kind}
use Rattle.formats.specs.declared.Kind.TheVariants as kind
use Rattle.formats.specs.Formats.{start_of, pattern, figures_by}
use Rattle.formats.specs.Taken.{is_text, own_codes, kind_from}
use Rattle.figures.specs.declared.Value.{Value}
use Rattle.figures.specs.declared.Value.TheVariants as value
use Rattle.figures.specs.declared.Found.{Found}
use Rattle.figures.specs.Taken.{found_by}
use Rattle.rows.specs.declared.Reading.{Reading}
use Rattle.rows.specs.declared.Reading.TheVariants.{Nothing, Opened, Empty, Filled, Done}
use Rattle.rows.specs.declared.Row.{Row}
use Rattle.rows.specs.Title.{is_opening, is_forbidden, begins_pair}
use Rattle.rows.specs.Row.{Content, format, title}

-- ── what is given out ──────────────────────────────────────────────────────────────────────────────────────────────
-- 'where open figures are a format, they are given out', at an end
unfoldable pub kind_here : Row → Bool → Kind
kind_here s end = cond end (kind_from s.start s.count s.codes) kind.Text

unfoldable pub found_here : Row → Bool → Found
found_here s end = found_by (kind_here s end) (own_codes (kind_here s end) s.codes)

abbrev pub is_filled : Reading → Bool
is_filled Nothing = false
is_filled Opened = false
is_filled Empty = false
is_filled Filled = true
is_filled Done = false

-- a pair, or `<`, 'ends a title being read that has text before the pair', if no format has just been given out
abbrev pub titled_by : Row → Bool → Bool → Bool
titled_by s pair text = text && (pair && is_filled s.title)

unfoldable pub title_here : Row → Bool → Bool → Bool
title_here s end pair = titled_by s pair (is_text (kind_here s end))

-- the same of what a format tells
abbrev pub is_text_value : Value → Bool
is_text_value value.Text = true
is_text_value value.Wrong = false
is_text_value (value.Single h m) = false
is_text_value (value.Double h m i n) = false
is_text_value (value.Original h m) = false
is_text_value (value.Date d m y) = false
is_text_value (value.Network n) = false
is_text_value (value.Offset o) = false
is_text_value (value.Pty n) = false
is_text_value (value.Word n) = false

-- ── the state after a code ─────────────────────────────────────────────────────────────────────────────────────────
abbrev pub advanced : Reading → Reading
advanced Nothing = Nothing
advanced Opened = Empty
advanced Empty = Filled
advanced Filled = Filled
advanced Done = Done

-- the row has had its title, or a title begins here, or none does
abbrev pub begun : Bool → Bool → Reading
begun had opens = cond had Done (cond opens Opened Nothing)

abbrev pub is_done : Reading → Bool
is_done Nothing = false
is_done Opened = false
is_done Empty = false
is_done Filled = false
is_done Done = true

-- a title being read goes on, or is dropped
abbrev pub kept : Reading → Bool → Reading
kept t dropped = cond dropped (begun (is_done t) false) (advanced t)

-- a pair begins or ends a title; otherwise 'a graphics code, or a `:` .., drops it', and so does a format that is given out
abbrev pub title_next : Row → ℕ → Bool → Bool → Reading
title_next s c pair text =
    cond pair
    (begun (is_done s.title || titled_by s pair text) (is_opening s.colour c))
    (kept s.title (is_forbidden c || not text))

-- the column of the pair that a title begins with
abbrev pub column_next : Row → ℕ → Bool → ℕ → ℕ
column_next s c pair p = cond (pair && is_opening s.colour c) p s.column

-- the first eleven codes since a mark are kept; of more, that they are more
abbrev pub count_after : ℕ → ℕ
count_after n = cond (ltb n 12) (suc n) n

-- after a code at column p, where a pair begins or not, and no format has been given out or one has
unfoldable pub row_next : Row → ℕ → ℕ → Bool → Bool → Row
row_next s c p pair text = record {
  colour = colour_by s.colour c;
  start = cond (is_mark c) (start_of s.colour c) s.start;
  count = cond (is_mark c) 0 (count_after s.count);
  codes = cond (is_mark c) s.codes (set s.codes s.count c);
  title = title_next s c pair text;
  column = column_next s c pair p;
}

unfoldable pub row_after : Row → ℕ → ℕ → Bool → Row
row_after s c p pair = row_next s c p pair (is_text (kind_here s (is_mark c)))

abbrev pub row_start : Row
row_start = record {
  colour = colour.Plain;
  start = start.Nothing;
  count = 0;
  codes = replicate 11 0;
  title = Nothing;
  column = 0;
}

-- ── the row ────────────────────────────────────────────────────────────────────────────────────────────────────────
-- a format, a title or nothing
unfoldable pub given_here : ℕ → Row → Bool → Bool → List Content
given_here row s end pair =
    cond (title_here s end pair) (title row (2 + s.column) ∷ [])
    (cond (is_text (kind_here s end)) [] (format (kind_here s end) (figures_by (pattern (kind_here s end)) (own_codes (kind_here s end) s.codes)) ∷ []))

unfoldable pub given_from : ℕ → Row → ℕ → List ℕ → List Content
given_from row s p [] = given_here row s true true
given_from row s p (c ∷ cs) =
    given_here row s (is_mark c) (begins_pair (c ∷ cs)) ++ given_from row (row_after s c p (begins_pair (c ∷ cs))) (suc p) cs

unfoldable pub row_given : ℕ → List ℕ → List Content
row_given row codes = given_from row row_start 0 codes
