-- What a call answers (document 01, 'Timers and calls'): the number of a refusal, or what it gives.
use Rattle.std.specs.Prelude.{ℕ, Bool, cond, List, [], ◌∷◌, ◌≡◌}

pub data Answer (A : Type 0) : Type 0 where
  refused : ℕ → Answer A
  given : A → Answer A

-- a row of the table of refusals: whether it applies, and its number
abbrev pub Row : Type 0
Row = Bool × ℕ

-- 'each is given exactly then, by the first that applies'
abbrev pub first_of : {A : Type 0} → List Row → A → Answer A
first_of [] a = given a
first_of (row ∷ rows) a = cond row.0 (refused row.1) (first_of rows a)

-- 'its answer is the number alone; desk, clock and lent buffers are unchanged': what was, or what is given
abbrev pub after : {A : Type 0} → A → Answer A → A
after was (refused n) = was
after was (given a) = a

-- what a promise allows is one outcome
abbrev pub Unique : {A : Type 0} → (A → Type 0) → Type 0
Unique {A} P = (r s : A) → P r → P s → r ≡ s

-- the number that answers a call: that of a refusal, or 0
abbrev pub number : {A : Type 0} → Answer A → ℕ
number (refused n) = n
number (given a) = 0

-- what a call gives goes on into another
abbrev pub and_then : {A B : Type 0} → Answer A → (A → Answer B) → Answer B
and_then (refused n) next = refused n
and_then (given a) next = next a
