-- Whatever a page contains stands on it, so its dates have years of two figures, and its networks countries of two.
use Prim.Native.Nat.{ℕ, suc, ◌≤◌}
use mathlib.Core.Path.{◌≡◌}
use mathlib.Core.Bool.{Bool, true, false}
use mathlib.Core.List.{List, [], ◌∷◌, ◌++◌}
use Rattle.codes.specs.declared.Colour.{Colour}
use Rattle.formats.specs.declared.Kind.TheVariants as kind
use Rattle.figures.specs.Permitted.{two, two_hexadecimal}
use Rattle.rows.specs.Row.{Content, format, title, Contains, figures, titled, text}
use Rattle.rows.specs.Row as rows
use Rattle.preview.specs.Page.{RowsContain, end, row}
use Rattle.booked.proofs.Figures.{year_small, country_small}

abbrev pub Small : List Content → Type 0
Small [] = Unit {0}
Small (format a fs ∷ xs) = (a ≡ kind.Date → two fs 4 ≤ 99) × (two_hexadecimal fs 0 ≤ 255) × Small xs
Small (title r c ∷ xs) = Small xs

small_append : (xs ys : List Content) → Small xs → Small ys → Small (xs ++ ys)
small_append [] ys u v = v
small_append (format a fs ∷ xs) ys u v = (u.0, u.1, small_append xs ys u.2 v)
small_append (title r c ∷ xs) ys u v = small_append xs ys u v

row_small : {r : ℕ} (had : Bool) {k : Colour} {p : ℕ} {cs : List ℕ} (xs : List Content) → Contains r had k p cs xs → Small xs
row_small had xs rows.end = Prim.tt {0}
row_small had xs (figures {xs = ys} a fs w v) = (year_small a fs w, country_small a fs w, row_small had ys v)
row_small had xs (titled {xs = ys} w v) = row_small true ys v
row_small had xs (text n w v) = row_small had xs v

pub rows_small : {page : List ℕ} (r : ℕ) (xs : List Content) → RowsContain page r xs → Small xs
rows_small r xs end = Prim.tt {0}
rows_small r xs (row {xs = ys} {ys = zs} h w v) = small_append ys zs (row_small false ys w) (rows_small (suc r) zs v)
