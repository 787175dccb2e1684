-- A page's timers taken one at a time, as the code enters them.
use Rattle.std.specs.Prelude.{ℕ, ◌+◌, ◌*◌, List, ◌∷◌, length, take, set, Option, None, Some}
use Rattle.std.proofs.lemmas.List.Edits.{sets}
use Rattle.answer.specs.Answer.{Answer, refused, given}
use Rattle.answer.specs.Lists.{filled}
use Rattle.preview.specs.declared.Page.{Page}
use Rattle.booked.specs.declared.Booked.{Booked}
use Rattle.section.specs.declared.Entries.{Entries}
use Rattle.section.specs.declared.Section.{Section}
use Rattle.section.specs.Section.{entry_of, entries_of, longest, section_by}

-- the entries so far, behind the place of their count
unfoldable pub entered : ℕ → List Booked → Entries
entered tuner bs = record { count = length bs; bytes = filled longest 0 (0 ∷ entries_of tuner bs) }

-- what one more makes of them
unfoldable pub after_timer : ℕ → Entries → Option Booked → Entries
after_timer tuner e None = e
after_timer tuner e (Some b) = record { count = e.count + 1; bytes = sets e.bytes (1 + 9 * e.count) (entry_of tuner b) }

-- and their count before them
unfoldable pub counted : Entries → Section
counted e = record { length = 1 + 9 * e.count; bytes = set e.bytes 0 e.count }

-- of a page as the reader gives it: the number of its refusal, or its programmes
unfoldable pub section_read : ℕ → Answer Page → Answer Section
section_read tuner (refused n) = section_by tuner (refused n)
section_read tuner (given page) = section_by tuner (given (take page.count page.programmes))
