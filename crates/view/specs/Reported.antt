-- What is printed of a page as it is stored.
use Rattle.std.specs.Prelude.{ℕ, ◌+◌, ◌*◌, cond, ◌≡◌, List, ◌++◌, leb, length, take}
use Rattle.std.proofs.lemmas.List.Edits.{sets}
use Rattle.answer.specs.Answer.{Answer, refused, given}
use Rattle.preview.specs.declared.Page.{Page}
use Rattle.preview.specs.declared.Programme.{Programme}
use Rattle.preview.specs.Page.{Answers}
use Rattle.table.specs.Table.{most}
use Rattle.collected.specs.declared.Collected.{Collected}
use Rattle.collected.specs.Collected.{held}
use Rattle.view.specs.View.{programme_lines, count_line, refusal_line, viewed, view_of}

-- what the input's end prints
unfoldable pub end_told : Collected → List ℕ
end_told c = view_of (held c)

-- no programme's line is longer than this
abbrev pub longest_line : ℕ
longest_line = 64

-- and no print of a page: a line for each programme, and the last line
abbrev pub longest : ℕ
longest = most * longest_line + 6

-- a text is stored from the first place on where the buffer surely holds it, and its length answered; else nothing changes, and 0 is
unfoldable pub reported_by : List ℕ → List ℕ → ℕ
reported_by out text = cond (leb longest (length out)) (length text) 0

unfoldable pub out_after : List ℕ → List ℕ → List ℕ
out_after out text = cond (leb longest (length out)) (sets out 0 text) out

-- what is printed of the answer that the grammar has for the bytes held is stored so
abbrev pub ReportedAs : List ℕ → Collected → ℕ → List ℕ → Type 0
ReportedAs out c r end =
    (a : Answer (List Programme)) × Answers (held c) a × (r ≡ reported_by out (viewed a)) × (end ≡ out_after out (viewed a))

-- a page as the reader gives it: the number of its refusal, or its programmes
unfoldable pub read_lines : Answer Page → List ℕ
read_lines (refused n) = refusal_line n
read_lines (given page) = programme_lines (take page.count page.programmes) ++ count_line page.count
