-- A page's packets X/26 as they are written (document 02, #103).
use Rattle.std.specs.Prelude.{ℕ, zero, suc, ◌+◌, ◌*◌, ◌/◌, ◌%◌, Bool, true, false, cond, not, ◌&&◌, ◌||◌, List, [], ◌∷◌, ◌++◌, ltb, eqb, length, get_or, take, Option, None, Some, Result, Ok, Err}
use Rattle.std.proofs.lemmas.List.Edits.{sets}
use Rattle.answer.specs.Answer.{Answer, refused, given, Row, first_of}
use Rattle.answer.specs.Lists.{some}
use Rattle.hamming.specs.Byte as byte
use Rattle.triplet.specs.Word as word
use Rattle.group.specs.declared.Offset.{Offset}
use Rattle.group.specs.declared.Offset.TheVariants.{East, West}
use Rattle.group.specs.declared.Group.{Group}
use Rattle.group.specs.declared.Group.TheVariants as group
use Rattle.group.specs.Group.{bits_of}
use Rattle.programmes.specs.declared.Finish.{Finish}
use Rattle.programmes.specs.declared.Finish.TheVariants as finish
use Rattle.programmes.specs.declared.Programme.{Programme}
use Rattle.programmes.specs.declared.InForce.{InForce}
use Rattle.programmes.specs.declared.Page.{Page}
use Rattle.programmes.specs.declared.WriteRefusal.{WriteRefusal}
use Rattle.programmes.specs.declared.WriteRefusal.TheVariants.{WrongLength, OutOfRange}
use Rattle.programmes.specs.Meaning.{nothing}

-- ── the groups of a programme ──────────────────────────────────────────────────────────────────────────────────────
abbrev pub same_offset : Offset → Offset → Bool
same_offset (East a) (East b) = eqb a b
same_offset (East a) (West b) = false
same_offset (West a) (East b) = false
same_offset (West a) (West b) = eqb a b

-- two numbers have come, and are these
abbrev pub is_pair : Option (ℕ × ℕ) → ℕ → ℕ → Bool
is_pair None a b = false
is_pair (Some p) a b = eqb p.0 a && eqb p.1 b

abbrev pub same_source : InForce → Programme → Bool
same_source f q = is_pair f.source q.country q.source

abbrev pub same_date : InForce → Programme → Bool
same_date f q = is_pair f.date q.month q.day

-- 'it writes source, date and offset where they change'
abbrev pub source_sent : InForce → Programme → List Group
source_sent f q = cond (same_source f q) [] (group.Source q.country q.source ∷ [])

abbrev pub date_sent : InForce → Programme → List Group
date_sent f q = cond (same_date f q) [] (group.Date q.month q.day ∷ [])

abbrev pub offset_sent : InForce → Programme → List Group
offset_sent f q = cond (same_offset f.offset q.offset) [] (group.Offset q.row q.offset ∷ [])

-- 'the pair, the finish, the series, with the programme's own row and column'
abbrev pub pair_sent : Programme → List Group
pair_sent q = group.Start q.row q.hour q.controlled ∷ group.Minutes q.column q.minute ∷ []

abbrev pub finish_sent : ℕ → ℕ → Finish → List Group
finish_sent row column finish.Absent = []
finish_sent row column (finish.Time h m) = group.Finish row h false ∷ group.Minutes column m ∷ []
finish_sent row column (finish.Duration h m) = group.Finish row h true ∷ group.Minutes column m ∷ []

abbrev pub series_sent : Option ℕ → List Group
series_sent None = []
series_sent (Some k) = group.Series k ∷ []

unfoldable pub groups_of : InForce → Programme → List Group
groups_of f q =
    source_sent f q ++ (date_sent f q ++ (offset_sent f q ++ (pair_sent q ++ (finish_sent q.row q.column q.finish ++ series_sent q.series))))

-- what is in force after a programme
abbrev pub force_of : Programme → InForce
force_of q = record { source = Some (q.country, q.source); date = Some (q.month, q.day); offset = q.offset }

unfoldable pub groups_from : InForce → List Programme → List Group
groups_from f [] = []
groups_from f (q ∷ qs) = groups_of f q ++ groups_from (force_of q) qs

unfoldable pub groups_for : List Programme → List Group
groups_for qs = groups_from nothing qs

-- ── the page's bytes ───────────────────────────────────────────────────────────────────────────────────────────────
-- 'then terminators (all eighteen bits 1) to the end of the last packet, at least one always'
abbrev pub packets_for : List Group → ℕ
packets_for gs = length gs / 13 + 1

-- the eighteen bits of triplet n of the page
abbrev pub bits_at : List Group → ℕ → ℕ
bits_at gs n = bits_of (get_or gs n group.Terminator)

-- a word's byte 0, 1 or 2, the lowest first
abbrev pub byte_of : ℕ → ℕ → ℕ
byte_of w zero = w % 256
byte_of w (suc zero) = w / 256 % 256
byte_of w (suc (suc n)) = w / 65536 % 256

-- byte i of packet k
abbrev pub byte_in : ℕ → List Group → ℕ → ℕ → ℕ
byte_in m gs k zero = byte.good m
byte_in m gs k (suc zero) = byte.good 13
byte_in m gs k (suc (suc zero)) = byte.good k
byte_in m gs k (suc (suc (suc i))) = byte_of (word.good (bits_at gs (13 * k + i / 3))) (i % 3)

-- the first n bytes of the page
unfoldable pub bytes_to : ℕ → List Group → ℕ → List ℕ
bytes_to m gs zero = []
bytes_to m gs (suc i) = bytes_to m gs i ++ (byte_in m gs (i / 42) (i % 42) ∷ [])

-- ── the writer ─────────────────────────────────────────────────────────────────────────────────────────────────────
abbrev pub outside_offset : Offset → Bool
outside_offset (East q) = ltb 63 q
outside_offset (West q) = ltb q 1 || ltb 63 q

abbrev pub outside_finish : Finish → Bool
outside_finish finish.Absent = false
outside_finish (finish.Time h m) = ltb 23 h || ltb 59 m
outside_finish (finish.Duration h m) = ltb 39 h || ltb 59 m

abbrev pub outside_series : Option ℕ → Bool
outside_series None = false
outside_series (Some k) = ltb 127 k

-- '19: .. country above 15, source above 127, month not 1 to 12, day not 1 to 31, hour above 23, minute above 59, row not 1 to 24,
-- column above 39, offset beyond 63 either way, series above 127, a finishing time beyond 23:59 or a duration beyond 39:59'
unfoldable pub outside : Programme → Bool
outside q =
    ltb 15 q.country
    || (ltb 127 q.source
    || (ltb q.month 1 || (ltb 12 q.month
    || (ltb q.day 1 || (ltb 31 q.day
    || (ltb 23 q.hour
    || (ltb 59 q.minute
    || (ltb q.row 1 || (ltb 24 q.row
    || (ltb 39 q.column
    || (outside_offset q.offset
    || (outside_finish q.finish
    || outside_series q.series))))))))))))

-- 'a field outside its range' (the magazine above 7 too) 'or a page that needs more than sixteen packets'
unfoldable pub unfit : ℕ → List Programme → Bool
unfit m qs = ltb 7 m || (some outside qs || ltb 16 (packets_for (groups_for qs)))

-- 'a lent buffer of sixteen packets, 672 bytes: another length is 20'
abbrev pub writer_rows : ℕ → List Programme → List ℕ → List Row
writer_rows m qs buf = (not (eqb (length buf) 672), 20) ∷ (unfit m qs, 19) ∷ []

-- how many packets were written, and the buffer after it
pub record Wrote : Type 0 where
  pub packets : ℕ
  pub bytes : List ℕ

-- 'it tells how many packets it wrote and leaves the bytes of the others as they were'
unfoldable pub writing_of : ℕ → List Programme → List ℕ → Answer Wrote
writing_of m qs buf =
    let gs = groups_for qs in
    first_of (writer_rows m qs buf) (record { packets = packets_for gs; bytes = sets buf 0 (bytes_to m gs (42 * packets_for gs)) })

-- the programmes of a page: its first `count`
abbrev pub programmes_of : Page → List Programme
programmes_of page = take page.count page.programmes

-- the paper's numbers, and 0 for what is written
abbrev pub refusal_number : WriteRefusal → ℕ
refusal_number WrongLength = 20
refusal_number OutOfRange = 19

abbrev pub written_number : Result ℕ WriteRefusal → ℕ
written_number (Err r) = refusal_number r
written_number (Ok n) = 0

abbrev pub written_answer : Result ℕ WriteRefusal → Answer ℕ
written_answer (Err r) = refused (refusal_number r)
written_answer (Ok n) = given n
