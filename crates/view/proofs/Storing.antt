-- The lines of a page, programme by programme: what proves the loop over them.
use Prim.Native.Nat.{ℕ, ◌+◌, ◌≤◌, ◌<◌, min}
use mathlib.Core.Path.{◌≡◌, sym, ◌∙◌}
use mathlib.Core.List.{List, [], ◌∷◌, ◌++◌, append-nil, append_assoc}
use native.Mathlib.Numerals.{add-one}
use lib.ListN.{length, get_or, take}
use lib.Seq.{take_all, take-suc}
use Rattle.std.proofs.lemmas.List.{take_min}
use Rattle.text.specs.declared.Printer.{Printer}
use Rattle.text.specs.Printed.{Follows}
use Rattle.text.proofs.Printing.{then}
use Rattle.preview.specs.declared.Programme.{Programme}
use Rattle.preview.specs.Taken.{blank}
use Rattle.table.specs.Table.{most}
use Rattle.view.specs.View.{programme_line, programme_lines}

lines_more : (qs : List Programme) (q : Programme) → programme_lines (qs ++ (q ∷ [])) ≡ programme_lines qs ++ programme_line q
unfolding programme_lines
lines_more [] q = append-nil (programme_line q)
lines_more (r ∷ qs) q = rw (lines_more qs q) (sym (append_assoc (programme_line r) (programme_lines qs) (programme_line q)))

-- the lines of the first i programmes are printed
module _ (p q : Printer) (qs : List Programme) (i : ℕ) (printed : Follows p (programme_lines (take i qs)) q) where
  -- one programme more
  pub further : i < length qs → (r : Printer) → Follows q (programme_line (get_or qs i blank)) r → Follows p (programme_lines (take (i + 1) qs)) r
  further h r s = rw (add-one, take-suc qs i blank h, lines_more) (then p q r (programme_lines (take i qs)) (programme_line (get_or qs i blank)) printed s)

-- where all that are shown are passed, they are all that are counted
pub all_shown : (qs : List Programme) (i count : ℕ) → length qs ≡ most → length (take (min count most) qs) ≤ i → take i (take (min count most) qs) ≡ take count qs
all_shown qs i count e h = take_all i (take (min count most) qs) h ∙ rw (← e) (take_min count qs)
