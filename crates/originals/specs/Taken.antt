-- The data taken one at a time. What they must read as is said in Data.antt; the laws say that this is the same.
use Rattle.std.specs.Prelude.{ℕ, Bool, true, false, Option, Some, None, not, ◌&&◌, ◌||◌, List, [], ◌∷◌, ◌++◌}
use Rattle.figures.specs.declared.Offset.{Offset}
use Rattle.originals.specs.declared.InForce.{InForce}
use Rattle.originals.specs.declared.Original.{Original}
use Rattle.originals.specs.declared.Data.{Data}
use Rattle.originals.specs.Data.{Datum, N, A, O, Y, Two, nothing, with_network, with_date, with_offset, with_type, original_by, is_complete}

abbrev pub data_start : Data
data_start = record { force = nothing; typed = false; ended = false; wrong = false }

-- a value, with a type since the last original time or none; the page may not end after it
abbrev pub valued : Data → InForce → Bool → Bool → Data
valued s f typed wrong = record { force = f; typed = typed; ended = false; wrong = s.wrong || wrong }

abbrev pub after_network : Data → ℕ → Data
after_network s n = valued s (with_network n s.force) s.typed s.typed

abbrev pub after_date : Data → ℕ → ℕ → ℕ → Data
after_date s d m y = valued s (with_date d m y s.force) s.typed false

abbrev pub after_offset : Data → Offset → Data
after_offset s o = valued s (with_offset o s.force) s.typed false

abbrev pub after_type : Data → ℕ → Data
after_type s n = valued s (with_type n s.force) true false

-- the page may end after an original time
abbrev pub after_original : Data → Data
after_original s = record { force = with_type 0 s.force; typed = false; ended = true; wrong = s.wrong || not (is_complete s.force) }

abbrev pub data_after : Data → Datum → Data
data_after s (N n) = after_network s n
data_after s (A d m y) = after_date s d m y
data_after s (O o) = after_offset s o
data_after s (Y n) = after_type s n
data_after s (Two h m) = after_original s

-- the original time that is given then
abbrev pub originals_by : Data → Datum → List Original
originals_by s (N n) = []
originals_by s (A d m y) = []
originals_by s (O o) = []
originals_by s (Y n) = []
originals_by s (Two h m) = original_by s.force h m ∷ []

-- ── all of them ────────────────────────────────────────────────────────────────────────────────────────────────────
abbrev pub may_end : Data → Bool
may_end s = not s.wrong && s.ended

unfoldable pub data_from : Data → List Datum → Data
data_from s [] = s
data_from s (d ∷ ds) = data_from (data_after s d) ds

unfoldable pub originals_from : Data → List Datum → List Original
originals_from s [] = []
originals_from s (d ∷ ds) = originals_by s d ++ originals_from (data_after s d) ds

-- ── as it is told ──────────────────────────────────────────────────────────────────────────────────────────────────
-- one original time or none
abbrev pub given_of : List Original → Option Original
given_of [] = None
given_of (x ∷ xs) = Some x
