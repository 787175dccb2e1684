-- A page's programmes as plain bytes, for callers in another language.
use Rattle.std.specs.Prelude.{ℕ, zero, suc, ◌+◌, ◌*◌, Bool, cond, not, List, [], ◌∷◌, ◌++◌, eqb, length, get_or, take, Option, None, Some}
use Rattle.std.specs.Option.{unwrap_or}
use Rattle.answer.specs.Answer.{Answer, refused, given, first_of, and_then}
use Rattle.group.specs.declared.Offset.{Offset}
use Rattle.group.specs.declared.Offset.TheVariants.{East, West}
use Rattle.programmes.specs.declared.Finish.{Finish}
use Rattle.programmes.specs.declared.Finish.TheVariants as finish
use Rattle.programmes.specs.declared.Programme.{Programme}
use Rattle.answer.specs.Lists.{filled}
use Rattle.programmes.specs.Page.{reading_of, blank, most}
use Rattle.programmes.specs.Timer.{pil_of}
use Rattle.programmes.specs.Written.{Wrote, writing_of}

-- ── a programme's sixteen bytes ────────────────────────────────────────────────────────────────────────────────────
-- 0 no finish, 1 a time, 2 a duration
abbrev pub finish_kind : Finish → ℕ
finish_kind finish.Absent = 0
finish_kind (finish.Time h m) = 1
finish_kind (finish.Duration h m) = 2

abbrev pub finish_hour : Finish → ℕ
finish_hour finish.Absent = 0
finish_hour (finish.Time h m) = h
finish_hour (finish.Duration h m) = h

abbrev pub finish_minute : Finish → ℕ
finish_minute finish.Absent = 0
finish_minute (finish.Time h m) = m
finish_minute (finish.Duration h m) = m

-- 0 east, 1 west
abbrev pub side : Offset → ℕ
side (East n) = 0
side (West n) = 1

abbrev pub quarters : Offset → ℕ
quarters (East n) = n
quarters (West n) = n

abbrev pub flag : Bool → ℕ
flag b = cond b 1 0

abbrev pub in_series : Option ℕ → ℕ
in_series None = 0
in_series (Some k) = 1

abbrev pub series_code : Option ℕ → ℕ
series_code None = 0
series_code (Some k) = k

-- what is absent is 0
unfoldable pub programme_bytes : Programme → List ℕ
programme_bytes q =
    q.row ∷ q.column ∷ q.day ∷ q.month ∷ q.hour ∷ q.minute
    ∷ finish_kind q.finish ∷ finish_hour q.finish ∷ finish_minute q.finish
    ∷ q.country ∷ q.source ∷ side q.offset ∷ quarters q.offset
    ∷ flag q.controlled ∷ in_series q.series ∷ series_code q.series ∷ []

-- ── and back ───────────────────────────────────────────────────────────────────────────────────────────────────────
-- every kind but 0 and 1 is a duration
abbrev pub finish_by : ℕ → ℕ → ℕ → Finish
finish_by kind h m = cond (eqb kind 0) finish.Absent (cond (eqb kind 1) (finish.Time h m) (finish.Duration h m))

abbrev pub offset_by : ℕ → ℕ → Offset
offset_by s n = cond (eqb s 0) (East n) (West n)

abbrev pub series_by : ℕ → ℕ → Option ℕ
series_by s k = cond (eqb s 0) None (Some k)

-- the programme whose sixteen bytes begin at a place
unfoldable pub programme_at : List ℕ → ℕ → Programme
programme_at f at = record {
  row = get_or f at 0;
  column = get_or f (at + 1) 0;
  day = get_or f (at + 2) 0;
  month = get_or f (at + 3) 0;
  hour = get_or f (at + 4) 0;
  minute = get_or f (at + 5) 0;
  finish = finish_by (get_or f (at + 6) 0) (get_or f (at + 7) 0) (get_or f (at + 8) 0);
  country = get_or f (at + 9) 0;
  source = get_or f (at + 10) 0;
  offset = offset_by (get_or f (at + 11) 0) (get_or f (at + 12) 0);
  controlled = not (eqb (get_or f (at + 13) 0) 0);
  series = series_by (get_or f (at + 14) 0) (get_or f (at + 15) 0);
}

-- ── a page's bytes ─────────────────────────────────────────────────────────────────────────────────────────────────
unfoldable pub bytes_of : List Programme → List ℕ
bytes_of [] = []
bytes_of (q ∷ qs) = programme_bytes q ++ bytes_of qs

-- how many programmes a page has, then 103 of them, its own and blank ones
unfoldable pub page_bytes : List Programme → List ℕ
page_bytes qs = length qs ∷ bytes_of (filled most blank qs)

-- the first n programmes after a magazine and a count
unfoldable pub programmes_to : List ℕ → ℕ → List Programme
programmes_to f zero = []
programmes_to f (suc k) = programmes_to f k ++ (programme_at f (2 + 16 * k) ∷ [])

-- as many as the count says; above 103, all that there are
abbrev pub programmes_in : List ℕ → List Programme
programmes_in f = take (get_or f 1 0) (programmes_to f most)

-- ── the calls ──────────────────────────────────────────────────────────────────────────────────────────────────────
-- the answer where lent bytes are more or fewer than those asked for: no number of the paper
abbrev pub wrong_room : ℕ
wrong_room = 255

-- bytes that are n in number
abbrev pub room_of : ℕ → List ℕ → Answer (List ℕ)
room_of n f = first_of ((not (eqb (length f) n), wrong_room) ∷ []) f

-- a number, or n times that of a refusal
abbrev pub plain : ℕ → Answer ℕ → ℕ
plain n (refused why) = why * n
plain n (given a) = a

-- what a page is read as, in the 1 + 103 * 16 bytes of a lent buffer
unfoldable pub page_into : List ℕ → List ℕ → Answer (List ℕ)
page_into p out = and_then (room_of 1649 out) (λ o. and_then (reading_of p) (λ qs. given (page_bytes qs)))

-- what a magazine, a count and 103 programmes write into a lent buffer
unfoldable pub page_from : List ℕ → List ℕ → Answer Wrote
page_from f buf = and_then (room_of 1650 f) (λ g. writing_of (get_or g 0 0) (programmes_in g) buf)

abbrev pub packets_told : Answer Wrote → Answer ℕ
packets_told a = and_then a (λ w. given w.packets)

abbrev pub bytes_left : Answer Wrote → Answer (List ℕ)
bytes_left a = and_then a (λ w. given w.bytes)

-- 2 ^ 20, which is no PIL, where there is none
abbrev pub pil_number : Option ℕ → ℕ
pil_number p = unwrap_or p 1048576

unfoldable pub pil_from : List ℕ → Answer ℕ
pil_from f = and_then (room_of 16 f) (λ g. given (pil_number (pil_of (programme_at g 0))))
