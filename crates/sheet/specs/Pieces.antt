-- A sheet as it is played, piece by piece: what a piece prints and leaves, and what the input's end prints.
use Rattle.std.specs.Prelude.{ℕ, ◌+◌, ◌*◌, Bool, cond, List, Option, Some, None, leb, length}
use Rattle.std.proofs.lemmas.List.Edits.{sets}
use Rattle.desk.specs.Moments.{fresh}
use Rattle.items.specs.Pieces.{unsplit, split_after, piece_items, whole_at}
use Rattle.sheet.specs.declared.Sheet.{Sheet}
use Rattle.sheet.specs.declared.Fed.{Fed}
use Rattle.sheet.specs.Sheet.{lines_of, desk_left, last_line}

-- after a piece of input, and what it prints
unfoldable pub after_piece : List ℕ → Sheet → Sheet
after_piece p s = record { desk = desk_left (piece_items p s.split) s.desk; split = split_after p s.split }

unfoldable pub piece_told : List ℕ → Sheet → List ℕ
piece_told p s = lines_of (piece_items p s.split) s.desk

-- what the input's end prints
unfoldable pub end_told : Bool → Sheet → List ℕ
end_told ended s = last_line (whole_at ended s.split) s.desk

-- a sheet of which nothing has arrived
abbrev pub blank : Sheet
blank = record { desk = fresh; split = unsplit }

-- no byte prints more than this
abbrev pub longest : ℕ
longest = 8

-- whether a buffer surely holds, from place at on, what n bytes print
abbrev pub has_room : List ℕ → ℕ → ℕ → Bool
has_room out at n = leb (at + longest * n) (length out)

-- a piece is taken where there is room, and its text stored from place at on; else it is not, and nothing changes
unfoldable pub fed_by : List ℕ → List ℕ → ℕ → Sheet → Option Fed
fed_by piece out at s =
    cond (has_room out at (length piece)) (Some (record { sheet = after_piece piece s; at = at + length (piece_told piece s) })) None

unfoldable pub out_after : List ℕ → List ℕ → ℕ → Sheet → List ℕ
out_after piece out at s = cond (has_room out at (length piece)) (sets out at (piece_told piece s)) out

-- the input's end prints its line where there is room, and the place after it is given; else nothing changes
unfoldable pub closed_by : Bool → List ℕ → ℕ → Sheet → Option ℕ
closed_by ended out at s = cond (has_room out at 1) (Some (at + length (end_told ended s))) None

unfoldable pub out_closed : Bool → List ℕ → ℕ → Sheet → List ℕ
out_closed ended out at s = cond (has_room out at 1) (sets out at (end_told ended s)) out
