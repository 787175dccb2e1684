-- A report stored in a buffer that may be too small for it: what the call of this crate promises.
use Rattle.std.specs.Prelude.{ℕ, cond, List, leb, length}
use Rattle.std.proofs.lemmas.List.Edits.{sets}

-- no report is longer than this
abbrev pub longest : ℕ
longest = 194

-- a report is stored from the first place on where the buffer surely holds it, and its length answered; else nothing changes, and 0 is
unfoldable pub length_in : List ℕ → List ℕ → ℕ
length_in out text = cond (leb longest (length out)) (length text) 0

unfoldable pub stored_in : List ℕ → List ℕ → List ℕ
stored_in out text = cond (leb longest (length out)) (sets out 0 text) out
