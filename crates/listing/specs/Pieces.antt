-- A page as it is collected, piece by piece, and its listing as it is stored.
use Rattle.std.specs.Prelude.{ℕ, ◌+◌, ◌-◌, ◌*◌, Bool, cond, ◌≡◌, List, ◌++◌, leb, length, Result, Ok, Err}
use Rattle.std.proofs.lemmas.List.Edits.{sets}
use Rattle.answer.specs.Answer.{given, and_then}
use Rattle.held.specs.Held as first
use Rattle.programmes.specs.declared.Page.{Page}
use Rattle.programmes.specs.declared.Refusal.{Refusal}
use Rattle.programmes.specs.Page.{most, reading_of, page_of, read_number, reading_answer}
use Rattle.programmes.specs.Written.{programmes_of}
use Rattle.listing.specs.declared.Collected.{Collected}
use Rattle.listing.specs.Listing.{programme_lines, count_line, refusal_line, listing_of}

-- seventeen packets decide what is printed: a seventeenth is refused, whatever follows it (law `first_17` of `programmes`)
abbrev pub deciding : ℕ
deciding = 714

-- how many bytes are held: a length above all of them counts as that
abbrev pub held_in : ℕ → ℕ
held_in n = first.held_in deciding n

unfoldable pub held : Collected → List ℕ
held c = first.held deciding c.held

-- after a piece of input: as many of its bytes as find room stand after those held
unfoldable pub after_piece : List ℕ → Collected → Collected
after_piece p c = record { held = first.after_piece deciding p c.held }

-- nothing has arrived
unfoldable pub blank : Collected
blank = record { held = first.blank deciding }

-- no byte more decides anything (law `settled`)
abbrev pub is_full : Collected → Bool
is_full c = first.is_full deciding c.held

-- how many bytes may still decide something
abbrev pub left : Collected → ℕ
left c = deciding - c.held.length

-- what the input's end prints
unfoldable pub end_told : Collected → List ℕ
end_told c = listing_of (held c)

-- no programme's line is longer than this
abbrev pub longest_line : ℕ
longest_line = 54

-- and no listing: a line for each programme, and the last line
abbrev pub longest : ℕ
longest = most * longest_line + 6

-- it is stored from the first place on where the buffer surely holds it, and its length answered; else nothing changes, and 0 is
unfoldable pub reported_by : List ℕ → Collected → ℕ
reported_by out c = cond (leb longest (length out)) (length (end_told c)) 0

unfoldable pub out_after : List ℕ → Collected → List ℕ
out_after out c = cond (leb longest (length out)) (sets out 0 (end_told c)) out

-- a page as the reader gives it: its programmes, or the paper's number
abbrev pub ReadAs : List ℕ → Result Page Refusal → Type 0
ReadAs p r = reading_answer r ≡ and_then (reading_of p) (λ qs. given (page_of qs))

unfoldable pub read_lines : Result Page Refusal → List ℕ
read_lines (Err r) = refusal_line (read_number r)
read_lines (Ok page) = programme_lines (programmes_of page) ++ count_line page.count
