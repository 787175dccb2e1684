-- What is claimed of a preview page. Proved in proofs/Proved.antt.
use Rattle.std.specs.Prelude.{ℕ, ◌≤◌, true, false, cond, ◌≡◌, List, [], ◌∷◌, ◌++◌, length, Result}
use Rattle.answer.specs.Answer.{Answer, refused, given, Unique}
use Rattle.codes.specs.Codes.{SameButText}
use Rattle.sums.specs.Counted.{sum_of, is_word}
use Rattle.rows.specs.Row.{Content, format, title}
use Rattle.preview.specs.declared.Programme.{Programme}
use Rattle.preview.specs.declared.Page as reader
use Rattle.preview.specs.declared.Refusal.{Refusal}
use Rattle.preview.specs.Page.{Reading, Reads, programmes_by, sum_in, agrees, Answers}
use Rattle.preview.specs.Taken.{read_number, ReadAs}

-- 7.3.1.2 d): 'the numerical figures occurring in all the AT-1, AT-2, AD and CNI, LTO and PTY data of a given programme-preview page'
abbrev pub figures_in : List Content → List ℕ
figures_in [] = []
figures_in (format a fs ∷ xs) = cond (is_word a) [] fs ++ figures_in xs
figures_in (title r c ∷ xs) = figures_in xs

pub record Laws : Type 0 where
  -- 'no page has two readings'
  pub one_reading : (page : List ℕ) (r s : Reading) → Reads page r → Reads page s → r ≡ s
  -- every list of bytes has an answer, and one only
  pub answered : (page : List ℕ) → (a : Answer (List Programme)) × Answers page a
  pub one_answer : (page : List ℕ) (a b : Answer (List Programme)) → Answers page a → Answers page b → a ≡ b
  -- 'a page is accepted exactly if the written grammar has a reading for it and its protection word agrees', and gives that reading's
  -- programmes; the other way about is `read` of Answers
  pub accepted_only : (page : List ℕ) (qs : List Programme) → Answers page (given qs) →
      (length page ≡ 960) × ((r : Reading) × Reads page r × (agrees r.contents ≡ true) × (qs ≡ programmes_by r.announced r.originals))
  -- 24 exactly if it has none, and 25 exactly if there is one and the word is missing or wrong
  pub only_24 : (page : List ℕ) → Answers page (refused 24) → (length page ≡ 960) × ((r : Reading) → Reads page r → ⊥)
  pub only_25 : (page : List ℕ) → Answers page (refused 25) → (length page ≡ 960) × ((r : Reading) × Reads page r × (agrees r.contents ≡ false))
  -- the sum is that of all these figures
  pub sum : (xs : List Content) → sum_in xs ≡ sum_of (figures_in xs)
  -- 'at most 24'
  pub at_most_24 : (page : List ℕ) (qs : List Programme) → Answers page (given qs) → length qs ≤ 24
  -- a page in which characters without effect are replaced by others, anywhere, reads the same
  pub text_changes_nothing : (p q : List ℕ) (a : Answer (List Programme)) → SameButText p q → Answers p a → Answers q a
  -- each call's promise allows one outcome
  pub read_unique : (page : List ℕ) → Unique {A = Result reader.Page Refusal × List ℕ} (λ o. ReadAs page o.0 × (o.1 ≡ page))
  pub number_unique : (r : Refusal) → Unique (λ n. n ≡ read_number r)
