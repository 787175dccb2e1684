-- The first bytes of an input as they are collected, piece by piece: as many as decide anything.
use Rattle.std.specs.Prelude.{ℕ, ◌+◌, ◌-◌, min, Bool, ◌≡◌, List, [], ◌∷◌, Option, leb, length, take, replicate}
use Rattle.std.proofs.lemmas.List.Edits.{sets}
use Rattle.std.specs.Io.KnownBytes.{Consumes}
use Rattle.answer.specs.Lists.{joined}
use Rattle.held.specs.declared.Held.{Held}

-- how many bytes are held: a length above all of them counts as that
abbrev pub held_in : ℕ → ℕ → ℕ
held_in deciding n = min n deciding

unfoldable pub held : (deciding : ℕ) → Held deciding → List ℕ
held deciding c = take (held_in deciding c.length) c.bytes

-- after a piece of input: as many of its bytes as find room stand after those held
abbrev pub kept : ℕ → List ℕ → ℕ → List ℕ
kept deciding p n = take (deciding - n) p

unfoldable pub after_piece : (deciding : ℕ) → List ℕ → Held deciding → Held deciding
after_piece deciding p c =
    let n = held_in deciding c.length in
    record { length = n + length (kept deciding p n); bytes = sets c.bytes n (kept deciding p n) }

-- nothing has arrived
unfoldable pub blank : (deciding : ℕ) → Held deciding
blank deciding = record { length = 0; bytes = replicate deciding 0 }

-- no byte more decides anything (law `settled`)
abbrev pub is_full : (deciding : ℕ) → Held deciding → Bool
is_full deciding c = leb deciding c.length

-- after pieces one after the other, of whatever is collected
abbrev pub after_all : {A : Type 0} → (List ℕ → A → A) → List (List ℕ) → A → A
after_all after [] a = a
after_all after (p ∷ ps) a = after_all after ps (after p a)

-- c is what is collected, from `nothing` on, of the bytes that an input gave: of each of them once, and in their order
abbrev pub Collects : {A : Type 0} → (List ℕ → A → A) → Option (List ℕ) → Option (List ℕ) → A → A → Type 0
Collects after old new nothing c = (ps : List (List ℕ)) × (c ≡ after_all after ps nothing) × Consumes old new (joined ps)
