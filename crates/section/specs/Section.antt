-- The timers section of a sheet, out of a preview page (document 02, #108).
use Rattle.std.specs.Prelude.{ℕ, zero, suc, ◌/◌, ◌%◌, List, [], ◌∷◌, ◌++◌, length, take, Option, None, Some}
use Rattle.answer.specs.Answer.{Answer, refused, given}
use Rattle.answer.specs.Lists.{filled}
use Rattle.preview.specs.declared.Programme.{Programme}
use Rattle.booked.specs.declared.Booked.{Booked}
use Rattle.booked.specs.Timer.{timer_of}
use Rattle.section.specs.declared.Section.{Section}

-- ── a timer's nine bytes ───────────────────────────────────────────────────────────────────────────────────────────
-- a number in k bytes: 'numbers have the high byte first'
abbrev pub bytes_in : ℕ → ℕ → List ℕ
bytes_in zero n = []
bytes_in (suc k) n = bytes_in k (n / 256) ++ (n % 256 ∷ [])

-- 'CNI 2, PIL 3, year 1' (document 01, 'The sheet program'), and the entry 'grows by tuner (1 byte) and length (2 bytes)' (02, #105)
unfoldable pub entry_of : ℕ → Booked → List ℕ
entry_of tuner b = bytes_in 2 b.cni ++ (bytes_in 3 b.pil ++ (b.year ∷ tuner ∷ bytes_in 2 b.length))

-- ── the section ────────────────────────────────────────────────────────────────────────────────────────────────────
-- '2500 gives no timer'
abbrev pub onto_timers : Option Booked → List Booked → List Booked
onto_timers None bs = bs
onto_timers (Some b) bs = b ∷ bs

-- the timers of a page's programmes, in page order
unfoldable pub timers_of : List Programme → List Booked
timers_of [] = []
timers_of (q ∷ qs) = onto_timers (timer_of q) (timers_of qs)

unfoldable pub entries_of : ℕ → List Booked → List ℕ
entries_of tuner [] = []
entries_of tuner (b ∷ bs) = entry_of tuner b ++ entries_of tuner bs

-- 'timers: a one-byte count', then nine bytes each; all with this home tuner
unfoldable pub section_of : ℕ → List Booked → List ℕ
section_of tuner bs = length bs ∷ entries_of tuner bs

-- ── what is written ────────────────────────────────────────────────────────────────────────────────────────────────
-- 'writes the timers section of a sheet from the page (a refused page gives .. nothing on standard output ..)'
abbrev pub written : ℕ → Answer (List Programme) → List ℕ
written tuner (refused n) = []
written tuner (given qs) = section_of tuner (timers_of qs)

-- a count, and nine bytes for each programme of a page
abbrev pub longest : ℕ
longest = 217

-- as it is held: so many bytes, filled up
abbrev pub held_as : List ℕ → Section
held_as text = record { length = length text; bytes = filled longest 0 text }

-- 'a refused page gives its number on standard error'
abbrev pub section_by : ℕ → Answer (List Programme) → Answer Section
section_by tuner (refused n) = refused n
section_by tuner (given qs) = given (held_as (written tuner (given qs)))

-- what an answer has to write: the bytes that are held, and of a refused page none (law `whole`)
abbrev pub text_of : Answer Section → List ℕ
text_of (refused n) = []
text_of (given s) = take s.length s.bytes
