-- R8 to R10: what times and titles must read as (EN 300 231 clauses 7.3.1.4 a) and b), 7.3.1.5 rules 1 to 4 and 8; document 02, #108).
use Rattle.std.specs.Prelude.{ℕ, List, [], ◌∷◌, ◌++◌}
use Rattle.figures.specs.declared.Value.{Value}
use Rattle.figures.specs.declared.Value.TheVariants as value
use Rattle.figures.specs.Permitted.{value_of}
use Rattle.rows.specs.Row.{Content, format, title}
use Rattle.announced.specs.declared.Time.{Time}
use Rattle.announced.specs.declared.Announcement.{Announcement}

-- 'S single, D double, T title'
pub data Mark : Type 0 where
  S : Time → Mark
  D : Time → Time → Mark
  T : ℕ → ℕ → Mark

abbrev pub time : ℕ → ℕ → Time
time h m = record { hour = h; minute = m }

-- of a format: 'starting or finishing time', 'starting and finishing times'
abbrev pub marks_of : Value → List Mark
marks_of value.Text = []
marks_of value.Wrong = []
marks_of (value.Single h m) = S (time h m) ∷ []
marks_of (value.Double h m i n) = D (time h m) (time i n) ∷ []
marks_of (value.Original h m) = []
marks_of (value.Date d m y) = []
marks_of (value.Network n) = []
marks_of (value.Offset o) = []
marks_of (value.Pty n) = []
marks_of (value.Word n) = []

-- 'times and titles on their own, in page order'
unfoldable pub times_in : List Content → List Mark
times_in [] = []
times_in (format a fs ∷ xs) = marks_of (value_of a fs) ++ times_in xs
times_in (title row column ∷ xs) = T row column ∷ times_in xs

-- ── what they must read as ─────────────────────────────────────────────────────────────────────────────────────────
-- what stands before: nothing, a programme with a single time, or one with a double time
pub data Before : Type 0 where
  nothing : Before
  single : Before
  double : Before

-- where no time follows
abbrev pub no_time : Time
no_time = record { hour = 0; minute = 0 }

-- R10: 'row and column of the first code of the first title's text'
abbrev pub announced : ℕ → ℕ → Time → Time → Announcement
announced row column start finish = record { row = row; column = column; start = start; finish = finish }

-- '((S | D) T+)*  ( S T+ S  |  D T+ )': these marks, and what stands before them, are programmes with these announcements, and this is the
-- next start. R9: 'of a double time the second. Of a single time the start of the next programme, or the last S.'
pub data Announces : Before → List Mark → Time → List Announcement → Type 0 where
  -- S T .., a programme
  starts : {b : Before} {row column : ℕ} {a z : Time} {ms : List Mark} {xs : List Announcement} →
      Announces single ms z xs → Announces b (S a ∷ T row column ∷ ms) a (announced row column a z ∷ xs)
  -- D T .., a programme
  lasts : {b : Before} {row column : ℕ} {a z n : Time} {ms : List Mark} {xs : List Announcement} →
      Announces double ms n xs → Announces b (D a z ∷ T row column ∷ ms) a (announced row column a z ∷ xs)
  -- 'further titles before the next time are parts of the same title'
  part_single : {row column : ℕ} {n : Time} {ms : List Mark} {xs : List Announcement} → Announces single ms n xs → Announces single (T row column ∷ ms) n xs
  part_double : {row column : ℕ} {n : Time} {ms : List Mark} {xs : List Announcement} → Announces double ms n xs → Announces double (T row column ∷ ms) n xs
  -- 'the last S, with no title, stands exactly if the last programme is single'
  finishes : {a : Time} → Announces single (S a ∷ []) a []
  ends : Announces double [] no_time []
