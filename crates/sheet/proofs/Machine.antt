-- A sheet played piece by piece prints what the definition over the whole input says.
use Prim.Native.Nat.{ℕ}
use mathlib.Core.Path.{◌≡◌, refl, sym, ap, ◌∙◌}
use mathlib.Core.Bool.{true}
use mathlib.Core.List.{List, [], ◌∷◌, ◌++◌, append_assoc}
use Rattle.desk.specs.declared.Desk.{Desk}
use Rattle.desk.specs.Moments.{fresh}
use Rattle.items.specs.Items.{Item, Contents}
use Rattle.items.specs.Pieces.{split_after, piece_items, left_over}
use Rattle.answer.specs.Lists.{joined}
use Rattle.items.specs.Laws.{found}
use Rattle.items.proofs.Machine as split
use Rattle.sheet.specs.declared.Sheet.{Sheet}
use Rattle.sheet.specs.Sheet.{broken_line, item_told, item_left, lines_of, desk_left, last_line, sheet_of}
use Rattle.sheet.specs.Pieces.{blank, after_piece, piece_told, end_told}
use Rattle.sheet.specs.Laws.{printed}

-- some items, and then others
pub desk_more : (is js : List Item) (d : Desk) → desk_left (is ++ js) d ≡ desk_left js (desk_left is d)
unfolding desk_left
desk_more [] js d = refl
desk_more (i ∷ is) js d = desk_more is js (item_left i d)

pub lines_more : (is js : List Item) (d : Desk) → lines_of (is ++ js) d ≡ lines_of is d ++ lines_of js (desk_left is d)
unfolding lines_of desk_left
lines_more [] js d = refl
lines_more (i ∷ is) js d =
    rw (lines_more is js (item_left i d)) (sym (append_assoc (item_told i d) (lines_of is (item_left i d)) (lines_of js (desk_left is (item_left i d)))))

-- what contents print, from a desk on
abbrev says : Contents → Desk → List ℕ
says c d = lines_of c.items d ++ last_line c.whole (desk_left c.items d)

printed_says : (ps : List (List ℕ)) (s : Sheet) → printed ps s ≡ says (found ps s.split) s.desk
unfolding after_piece piece_told end_told lines_of desk_left
printed_says [] s = refl
printed_says (p ∷ ps) s =
    let d = s.desk in
    let is = piece_items p s.split in
    let c = found ps (split_after p s.split) in
    let e = desk_left is d in
    rw (printed_says ps (after_piece p s), lines_more is c.items d, desk_more is c.items d)
    (sym (append_assoc (lines_of is d) (lines_of c.items e) (last_line c.whole (desk_left c.items e))))

pub pieces : (ps : List (List ℕ)) → printed ps blank ≡ sheet_of (joined ps)
unfolding sheet_of
pieces ps = printed_says ps blank ∙ ap (λ (c : Contents). says c fresh) (split.pieces ps)

pub settled : (s : Sheet) (ps : List (List ℕ)) → left_over s.split.stage ≡ true → printed ps s ≡ broken_line s.desk
unfolding lines_of desk_left
settled s ps e = printed_says ps s ∙ ap (λ (c : Contents). says c s.desk) (split.settled s.split ps e)
