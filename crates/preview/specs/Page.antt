-- A preview page (EN 300 231 clause 7.3.1; document 02, #108): R1, what counts as a reading of it, and R14 to R16.
use Rattle.std.specs.Prelude.{ℕ, suc, ◌+◌, ◌*◌, ◌%◌, ◌<◌, Bool, true, false, not, ◌&&◌, ◌≡◌, List, [], ◌∷◌, ◌++◌, ltb, eqb, length, take, drop}
use Rattle.answer.specs.Answer.{Answer, refused, given}
use Rattle.answer.specs.Lists.{some}
use Rattle.sums.specs.Counted.{counted}
use Rattle.figures.specs.Permitted.{permitted, value_of, words_of}
use Rattle.rows.specs.Row.{Content, format, title, RowContains}
use Rattle.announced.specs.declared.Time.{Time}
use Rattle.announced.specs.declared.Announcement.{Announcement}
use Rattle.announced.specs.Times.{time, times_in, Announces}
use Rattle.announced.specs.Times as times
use Rattle.originals.specs.declared.Original.{Original}
use Rattle.originals.specs.Data.{data_in, nothing, Gives}
use Rattle.preview.specs.declared.Programme.{Programme}

-- ── R1: the page ───────────────────────────────────────────────────────────────────────────────────────────────────
-- '960 bytes: rows 0 to 23 from the top, each of 40 codes'
abbrev pub row_of : List ℕ → ℕ → List ℕ
row_of page r = take 40 (drop (40 * r) page)

-- 'a code is 0 to 127'
unfoldable pub too_high : List ℕ → Bool
too_high page = some (λ c. ltb 127 c) page

-- 'what counts is taken in page order: rows from the top': what the rows from r on contain
pub data RowsContain (page : List ℕ) : ℕ → List Content → Type 0 where
  end : RowsContain page 24 []
  row : {r : ℕ} {xs ys : List Content} → r < 24 → RowContains r (row_of page r) xs → RowsContain page (suc r) ys → RowsContain page r (xs ++ ys)

-- ── R5: permitted figures ──────────────────────────────────────────────────────────────────────────────────────────
unfoldable pub all_permitted : List Content → Bool
all_permitted [] = true
all_permitted (format a fs ∷ xs) = permitted a fs && all_permitted xs
all_permitted (title r c ∷ xs) = all_permitted xs

-- ── a reading ──────────────────────────────────────────────────────────────────────────────────────────────────────
-- what a page contains, what its times and titles announce, and the original times that its data give
pub record Reading : Type 0 where
  pub contents : List Content
  pub announced : List Announcement
  pub originals : List Original

-- 'if R1, R5, R8, R11, R13 or R14 fails' there is none
pub record Reads (page : List ℕ) (r : Reading) : Type 0 where
  pub codes : too_high page ≡ false  -- R1
  pub contain : RowsContain page 0 r.contents  -- R2 to R7
  pub figures : all_permitted r.contents ≡ true  -- R5
  pub next : Time
  pub times : Announces times.nothing (times_in r.contents) next r.announced  -- R8 to R10
  pub data_read : Gives false nothing (data_in r.contents) r.originals  -- R11 to R13
  pub as_many : length r.announced ≡ length r.originals  -- R14

-- ── its programmes ─────────────────────────────────────────────────────────────────────────────────────────────────
abbrev pub programme_by : Announcement → Original → Programme
programme_by a o = record {
  row = a.row;
  column = a.column;
  start = a.start;
  finish = a.finish;
  network = o.network;
  day = o.day;
  month = o.month;
  year = o.year;
  original = time o.hour o.minute;
  offset = o.offset;
  pty = o.pty;
}

-- R14: 'the k-th belongs to the k-th'
abbrev pub programmes_by : List Announcement → List Original → List Programme
programmes_by [] os = []
programmes_by (a ∷ xs) [] = []
programmes_by (a ∷ xs) (o ∷ os) = programme_by a o ∷ programmes_by xs os

-- ── R15: the protection word ───────────────────────────────────────────────────────────────────────────────────────
-- 'the sum of all figures .. of all figure formats on the page but protection words'
unfoldable pub sum_in : List Content → ℕ
sum_in [] = 0
sum_in (format a fs ∷ xs) = counted a fs + sum_in xs
sum_in (title r c ∷ xs) = sum_in xs

unfoldable pub words_in : List Content → List ℕ
words_in [] = []
words_in (format a fs ∷ xs) = words_of (value_of a fs) ++ words_in xs
words_in (title r c ∷ xs) = words_in xs

abbrev pub is_empty : List ℕ → Bool
is_empty [] = true
is_empty (n ∷ ns) = false

-- 'at least one protection word stands on the page, anywhere, and each one is this sum'
unfoldable pub agrees : List Content → Bool
agrees xs = not (is_empty (words_in xs)) && not (some (λ n. not (eqb n (sum_in xs % 256))) (words_in xs))

-- ── R16: the answer ────────────────────────────────────────────────────────────────────────────────────────────────
-- '23 if not 960 bytes; else 24 if' it has no reading; 'else 25 if R15 fails; else the programmes in order'
pub data Answers (page : List ℕ) : Answer (List Programme) → Type 0 where
  wrong_length : (length page ≡ 960 → ⊥) → Answers page (refused 23)
  no_reading : length page ≡ 960 → ((r : Reading) → Reads page r → ⊥) → Answers page (refused 24)
  wrong_word : (r : Reading) → length page ≡ 960 → Reads page r → agrees r.contents ≡ false → Answers page (refused 25)
  read : (r : Reading) → length page ≡ 960 → Reads page r → agrees r.contents ≡ true →
      Answers page (given (programmes_by r.announced r.originals))
