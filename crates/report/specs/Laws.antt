-- What is claimed of a report. Proved in proofs/Proved.antt.
use Rattle.std.specs.Prelude.{ℕ, ◌≤◌, Bool, ◌≡◌, List, length, get_or}
use Rattle.answer.specs.Answer.{Unique}
use Rattle.report.specs.declared.Tuner.{Tuner}
use Rattle.report.specs.Report.{silence, report}
use Rattle.report.specs.Room.{longest, length_in, stored_in}

pub record Laws : Type 0 where
  -- no report is longer than the room that is asked for it
  pub short : (heard : ℕ → Tuner) (whole : Bool) → length (report heard whole) ≤ longest
  -- the call's promise allows one outcome
  pub report_unique : (tuners : List Tuner) (whole : Bool) (out : List ℕ) → let text = report (λ k. get_or tuners k silence) whole in
      Unique {A = ℕ × List ℕ} (λ o. (o.0 ≡ length_in out text) × (o.1 ≡ stored_in out text))
