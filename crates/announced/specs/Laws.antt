-- What is claimed of times and titles. Proved in proofs/Proved.antt.
use Rattle.std.specs.Prelude.{ℕ, Bool, true, ◌≡◌, List}
use Rattle.answer.specs.Answer.{Unique}
use Rattle.figures.specs.declared.Value.{Value}
use Rattle.announced.specs.declared.Time.{Time}
use Rattle.announced.specs.declared.Announcement.{Announcement}
use Rattle.announced.specs.declared.Stage.{Stage}
use Rattle.announced.specs.declared.Stage.TheVariants.{First}
use Rattle.announced.specs.Times.{Mark, marks_of, nothing, Announces}
use Rattle.announced.specs.Taken.{after_title, by_title, may_end, stage_from, announced_from, told_of}

pub record Laws : Type 0 where
  -- times and titles taken one at a time to an end read as what is announced,
  pub taken_read : (ms : List Mark) → may_end (stage_from First ms) ≡ true → (t : Time) × Announces nothing ms t (announced_from First ms)
  -- and those that read as announcements are taken to an end, and announce these
  pub read_taken : (ms : List Mark) (t : Time) (xs : List Announcement) → Announces nothing ms t xs →
      (may_end (stage_from First ms) ≡ true) × (xs ≡ announced_from First ms)
  -- each call's promise allows one outcome
  pub after_unique : (s : Stage) (v : Value) → Unique (λ r. r ≡ stage_from s (marks_of v))
  pub told_unique : (s : Stage) (v : Value) → Unique (λ r. r ≡ told_of (announced_from s (marks_of v)))
  pub titled_unique : (s : Stage) (row column : ℕ) → Unique (λ r. r ≡ after_title s row column)
  pub entitled_unique : (s : Stage) (row column : ℕ) → Unique (λ r. r ≡ told_of (by_title s row column))
  pub ends_unique : (s : Stage) → Unique (λ (r : Bool). r ≡ may_end s)
