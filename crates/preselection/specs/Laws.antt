-- What is claimed of a page that is read and written: each promise allows one outcome. Proved in proofs/Proved.antt.
use Rattle.std.specs.Prelude.{ℕ, ◌≡◌, List, Result}
use Rattle.answer.specs.Answer.{Unique, after, and_then, given}
use Rattle.programmes.specs.declared.Page.{Page}
use Rattle.programmes.specs.declared.Refusal.{Refusal}
use Rattle.programmes.specs.declared.WriteRefusal.{WriteRefusal}
use Rattle.programmes.specs.Page.{reading_answer, reading_of, page_of}
use Rattle.programmes.specs.Written.{written_answer, writing_of, programmes_of}

pub record Laws : Type 0 where
  pub read_unique : (p : List ℕ) →
      Unique {A = Result Page Refusal × List ℕ} (λ o.
      (reading_answer o.0 ≡ and_then (reading_of p) (λ qs. given (page_of qs))) × (o.1 ≡ p))
  pub write_unique : (m : ℕ) (page : Page) (p : List ℕ) →
      Unique {A = Result ℕ WriteRefusal × List ℕ} (λ o.
      (written_answer o.0 ≡ and_then (writing_of m (programmes_of page) p) (λ w. given w.packets))
      × (o.1 ≡ after p (and_then (writing_of m (programmes_of page) p) (λ w. given w.bytes))))
