-- What is asked for, piece by piece: the first byte of the input is the home tuner, and what follows is the page.
use Rattle.std.specs.Prelude.{ℕ, ◌+◌, cond, Bool, ◌&&◌, ◌≡◌, List, [], ◌∷◌, drop, get_or, Option, None, Some, is_some, unwrap_or}
use Rattle.answer.specs.Answer.{Answer}
use Rattle.preview.specs.declared.Programme.{Programme}
use Rattle.preview.specs.Page.{Answers}
use Rattle.preview.specs.Taken.{answer_of}
use Rattle.collected.specs.Collected as page
use Rattle.section.specs.declared.Section.{Section}
use Rattle.section.specs.declared.Asked.{Asked}
use Rattle.section.specs.Section.{section_by}

-- 'home tuner'; 0 where the input has no byte, but then it has no page either
abbrev pub tuner_in : List ℕ → ℕ
tuner_in input = get_or input 0 0

abbrev pub page_in : List ℕ → List ℕ
page_in input = drop 1 input

-- what is written for the whole input: for the answer that the grammar has for the page (law `told`)
unfoldable pub section_in : List ℕ → Answer Section
section_in input = section_by (tuner_in input) (answer_of (page_in input))

-- nothing has arrived
unfoldable pub nothing : Asked
nothing = record { tuner = None; page = page.blank }

-- the page's bytes, once its tuner is known
abbrev pub on_page : ℕ → List ℕ → Asked → Asked
on_page tuner p k = record { tuner = Some tuner; page = page.after_piece p k.page }

abbrev pub beginning : List ℕ → Asked → Asked
beginning [] k = k
beginning (tuner ∷ p) k = on_page tuner p k

-- after a piece of input, by whether the tuner is known
abbrev pub with_tuner : Option ℕ → List ℕ → Asked → Asked
with_tuner None p k = beginning p k
with_tuner (Some tuner) p k = on_page tuner p k

unfoldable pub after_piece : List ℕ → Asked → Asked
after_piece p k = with_tuner k.tuner p k

-- no byte more decides anything (law `settled`)
abbrev pub is_full : Asked → Bool
is_full k = is_some k.tuner && page.is_full k.page

-- how many bytes may still decide something: those of the page, and the tuner
abbrev pub left : Asked → ℕ
left k = page.left k.page + cond (is_some k.tuner) 0 1

-- the tuner, and 0 where none has arrived: then no page has, either
abbrev pub tuner_of : Asked → ℕ
tuner_of k = unwrap_or k.tuner 0

-- what is written where the input ends here, by the answer that the grammar has for the bytes held
abbrev pub SectionAs : Asked → Answer Section → Type 0
SectionAs k r = (a : Answer (List Programme)) × Answers (page.held k.page) a × (r ≡ section_by (tuner_of k) a)
