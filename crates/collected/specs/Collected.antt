-- A preview page as it is collected, piece by piece: as many bytes as decide its answer.
use Rattle.std.specs.Prelude.{ℕ, ◌-◌, Bool, List}
use Rattle.held.specs.Held as first
use Rattle.collected.specs.declared.Collected.{Collected}

-- so many bytes decide its answer: a page longer than 960 is refused, whatever follows
abbrev pub deciding : ℕ
deciding = 961

-- how many bytes are held: a length above all of them counts as that
abbrev pub held_in : ℕ → ℕ
held_in n = first.held_in deciding n

unfoldable pub held : Collected → List ℕ
held c = first.held deciding c.held

-- after a piece of input: as many of its bytes as find room stand after those held
unfoldable pub after_piece : List ℕ → Collected → Collected
after_piece p c = record { held = first.after_piece deciding p c.held }

-- nothing has arrived
unfoldable pub blank : Collected
blank = record { held = first.blank deciding }

-- no byte more decides anything (law `settled`)
abbrev pub is_full : Collected → Bool
is_full c = first.is_full deciding c.held

-- how many bytes may still decide something
abbrev pub left : Collected → ℕ
left c = deciding - c.held.length
