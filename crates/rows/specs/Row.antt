-- R7: what a row contains (EN 300 231 clause 7.3.1.2 a2), 7.3.1.5; document 02, #108).
use Rattle.std.specs.Prelude.{ℕ, suc, ◌+◌, Bool, true, false, List, [], ◌∷◌, ◌≡◌}
use Rattle.codes.specs.declared.Colour.{Colour}
use Rattle.codes.specs.declared.Colour.TheVariants as colour
use Rattle.codes.specs.Codes.{colour_by}
use Rattle.formats.specs.declared.Kind.{Kind}
use Rattle.formats.specs.Formats.{Stands}
use Rattle.rows.specs.Title.{NoFormat, Title}

-- what counts: a figure format, or a title, with the row and column of its text's first code (R10)
pub data Content : Type 0 where
  format : Kind → List ℕ → Content
  title : ℕ → ℕ → Content

-- 'in each row only the leftmost title counts. All that is no figure format of R4 and not that title is text and is passed over. What
-- counts is taken in page order: .. in a row from the left': the codes from column p on, with the colour in force before them, and
-- whether the row has had its title
pub data Contains (row : ℕ) : Bool → Colour → ℕ → List ℕ → List Content → Type 0 where
  end : {had : Bool} {k : Colour} {p : ℕ} → Contains row had k p [] []
  figures : {had : Bool} {k : Colour} {p c : ℕ} {cs : List ℕ} {xs : List Content} (a : Kind) (fs : List ℕ) → Stands k (c ∷ cs) a fs →
      Contains row had (colour_by k c) (suc p) cs xs → Contains row had k p (c ∷ cs) (format a fs ∷ xs)
  titled : {k : Colour} {p c : ℕ} {cs : List ℕ} {xs : List Content} → Title k (c ∷ cs) →
      Contains row true (colour_by k c) (suc p) cs xs → Contains row false k p (c ∷ cs) (title row (2 + p) ∷ xs)
  text : {had : Bool} {k : Colour} {p c : ℕ} {cs : List ℕ} {xs : List Content} → NoFormat k (c ∷ cs) →
      (had ≡ false → Title k (c ∷ cs) → ⊥) → Contains row had (colour_by k c) (suc p) cs xs → Contains row had k p (c ∷ cs) xs

-- 'plain at the row's start'
abbrev pub RowContains : ℕ → List ℕ → List Content → Type 0
RowContains row codes xs = Contains row false colour.Plain 0 codes xs
