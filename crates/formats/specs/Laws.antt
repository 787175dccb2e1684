-- What is claimed of the formats. Proved in proofs/Proved.antt.
use Rattle.std.specs.Prelude.{ℕ, ◌≡◌, List}
use Rattle.answer.specs.Answer.{Unique}
use Rattle.codes.specs.declared.Colour.{Colour}
use Rattle.formats.specs.declared.Start.{Start}
use Rattle.formats.specs.declared.Kind.{Kind}
use Rattle.formats.specs.Formats.{start_of, Stands}
use Rattle.formats.specs.Taken.{kind_from}

pub record Laws : Type 0 where
  -- 'after one starting code at most one format fits': its kind and its figures are one
  pub one_kind : (k : Colour) (cs : List ℕ) (a b : Kind) (fs gs : List ℕ) → Stands k cs a fs → Stands k cs b gs → a ≡ b
  pub one_figures : (k : Colour) (cs : List ℕ) (a b : Kind) (fs gs : List ℕ) → Stands k cs a fs → Stands k cs b gs → fs ≡ gs
  -- each call's promise allows one outcome
  pub start_of_unique : (k : Colour) (c : ℕ) → Unique (λ r. r ≡ start_of k c)
  pub kind_of_unique : (s : Start) (n : ℕ) (codes : List ℕ) → Unique (λ r. r ≡ kind_from s n codes)
