-- A preview page's programmes as plain bytes, for callers in another language.
use Rattle.std.specs.Prelude.{ℕ, ◌/◌, ◌%◌, not, List, [], ◌∷◌, ◌++◌, ◌≡◌, eqb, length}
use Rattle.answer.specs.Answer.{Answer, given, first_of, number, after, and_then}
use Rattle.answer.specs.Lists.{filled}
use Rattle.figures.specs.declared.Offset.{Offset}
use Rattle.figures.specs.declared.Offset.TheVariants.{Plus, Minus}
use Rattle.table.specs.Table.{most}
use Rattle.preview.specs.declared.Programme.{Programme}
use Rattle.preview.specs.Page.{Answers}
use Rattle.preview.specs.Taken.{blank}

-- ── a programme's sixteen bytes ────────────────────────────────────────────────────────────────────────────────────
-- 0 plus, 1 minus
abbrev pub side : Offset → ℕ
side (Plus n) = 0
side (Minus n) = 1

abbrev pub quarters : Offset → ℕ
quarters (Plus n) = n
quarters (Minus n) = n

-- the place of its title, its times, its date, its network, the high byte first, its original time, its offset and its type
unfoldable pub programme_bytes : Programme → List ℕ
programme_bytes q =
    q.row ∷ q.column ∷ q.start.hour ∷ q.start.minute ∷ q.finish.hour ∷ q.finish.minute
    ∷ q.day ∷ q.month ∷ q.year ∷ q.network / 256 % 256 ∷ q.network % 256
    ∷ q.original.hour ∷ q.original.minute ∷ side q.offset ∷ quarters q.offset ∷ q.pty ∷ []

-- ── a page's bytes ─────────────────────────────────────────────────────────────────────────────────────────────────
unfoldable pub bytes_of : List Programme → List ℕ
bytes_of [] = []
bytes_of (q ∷ qs) = programme_bytes q ++ bytes_of qs

-- how many programmes a page has, then 24 of them, its own and blank ones
unfoldable pub page_bytes : List Programme → List ℕ
page_bytes qs = length qs ∷ bytes_of (filled most blank qs)

-- ── the call ───────────────────────────────────────────────────────────────────────────────────────────────────────
-- the answer where lent bytes are more or fewer than those asked for: no number of the paper
abbrev pub wrong_room : ℕ
wrong_room = 255

-- bytes that are n in number
abbrev pub room_of : ℕ → List ℕ → Answer (List ℕ)
room_of n f = first_of ((not (eqb (length f) n), wrong_room) ∷ []) f

-- what a page is answered, in the 1 + 24 * 16 bytes of a lent buffer
unfoldable pub page_into : Answer (List Programme) → List ℕ → Answer (List ℕ)
page_into a out = and_then (room_of 385 out) (λ o. and_then a (λ qs. given (page_bytes qs)))

-- the number and the buffer that a reader left, by the answer that the grammar has
abbrev pub ReadInto : List ℕ → List ℕ → ℕ → List ℕ → Type 0
ReadInto page was n left =
    (a : Answer (List Programme)) × Answers page a × (n ≡ number (page_into a was)) × (left ≡ after was (page_into a was))
