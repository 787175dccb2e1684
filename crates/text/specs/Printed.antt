-- What a printer has printed.
use Rattle.std.specs.Prelude.{ℕ, ◌+◌, ◌≡◌, List, length, max, min}
use Rattle.std.proofs.lemmas.List.Edits.{sets}
use Rattle.text.specs.declared.Printer.{Printer}

-- the place after k bytes from a place on, in a buffer of n: what finds no room there is not printed
unfoldable pub place_after : ℕ → ℕ → ℕ → ℕ
place_after n at k = max at (min (at + k) n)

-- what of a text finds room is stored from the printer's place on, and its place is after it
unfoldable pub Follows : Printer → List ℕ → Printer → Type 0
Follows p text q = (q.buffer.now ≡ sets p.buffer.now p.at text) × (q.at ≡ place_after (length p.buffer.now) p.at (length text))

-- what each writer of text promises: that, in the same buffer
abbrev pub Printed : Printer → List ℕ → Printer → Type 0
Printed p text q = (q.buffer.ghost_name ≡ p.buffer.ghost_name) × Follows p text q
