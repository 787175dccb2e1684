-- What is claimed of what is printed of a preview page. Proved in proofs/Proved.antt.
use Rattle.std.specs.Prelude.{ℕ, ◌≤◌, ◌≡◌, List, length}
use Rattle.answer.specs.Answer.{Answer, Unique}
use Rattle.answer.specs.Lists.{joined}
use Rattle.preview.specs.declared.Programme.{Programme}
use Rattle.preview.specs.Page.{Answers}
use Rattle.collected.specs.declared.Collected.{Collected}
use Rattle.collected.specs.Collected.{blank}
use Rattle.collected.specs.Laws.{after_pieces}
use Rattle.view.specs.View.{viewed, view_of}
use Rattle.view.specs.Reported.{end_told, longest, ReportedAs}

pub record Laws : Type 0 where
  -- what is printed is what the answer by the grammar prints
  pub told : (p : List ℕ) (a : Answer (List Programme)) → Answers p a → view_of p ≡ viewed a
  -- however the input arrives in pieces, what is printed is the one definition's
  pub pieces : (ps : List (List ℕ)) → end_told (after_pieces ps blank) ≡ view_of (joined ps)
  -- and no print of a page is longer than the room that is asked for it
  pub room : (p : List ℕ) → length (view_of p) ≤ longest
  -- the call's promise allows one outcome
  pub report_unique : (c : Collected) (out : List ℕ) → Unique {A = ℕ × List ℕ} (λ o. ReportedAs out c o.0 o.1)
