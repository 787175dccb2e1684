-- The laws of label updates.
use mathlib.Core.Path.{◌≡◌, refl}
use mathlib.Core.Bool.{cond}
use lib.Dec.{eqb}
use Rattle.answer.specs.Answer.{Answer, refused, given}
use Rattle.answer.proofs.Answers.{equation, numbered}
use Rattle.moving.specs.declared.Verdict.{Verdict}
use Rattle.moving.specs.declared.Verdict.TheVariants.{NoMatch, NotReal, Ended, Repeats, Moves}
use Rattle.moving.specs.Moving.{Update, repeats, moves, verdict_answer, update_for, moved_in}
use Rattle.moving.specs.Laws.{Laws}
use Rattle.moving.proofs.Update.{codes_refused}

-- the verdict back from its answer
abbrev verdict_back : Answer Update → Verdict
verdict_back (refused n) = cond (eqb n 7) NoMatch (cond (eqb n 11) NotReal Ended)
verdict_back (given repeats) = Repeats
verdict_back (given (moves slot b)) = Moves slot b

verdict_back_lem : (v : Verdict) → verdict_back (verdict_answer v) ≡ v
verdict_back_lem NoMatch = refl
verdict_back_lem NotReal = refl
verdict_back_lem Ended = refl
verdict_back_lem Repeats = refl
verdict_back_lem (Moves slot b) = refl

pub laws : Laws
laws = record {
  codes_refused = codes_refused;
  judge_unique = λ s old l timers. numbered verdict_answer verdict_back verdict_back_lem (update_for s old l timers);
  moved_in_unique = λ s slot b timers. equation (moved_in s slot b timers);
}
