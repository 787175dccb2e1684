-- What is claimed of the data. Proved in proofs/Proved.antt.
use Rattle.std.specs.Prelude.{Bool, true, false, ◌≡◌, List}
use Rattle.answer.specs.Answer.{Unique}
use Rattle.figures.specs.declared.Value.{Value}
use Rattle.originals.specs.declared.Original.{Original}
use Rattle.originals.specs.declared.Data.{Data}
use Rattle.originals.specs.Data.{Datum, data_of, nothing, Gives}
use Rattle.originals.specs.Taken.{data_start, may_end, data_from, originals_from, given_of}

pub record Laws : Type 0 where
  -- data taken one at a time to an end read as the original times that they give,
  pub taken_read : (ds : List Datum) → may_end (data_from data_start ds) ≡ true → Gives false nothing ds (originals_from data_start ds)
  -- and data that read as original times are taken to an end, and give these
  pub read_taken : (ds : List Datum) (os : List Original) → Gives false nothing ds os →
      (may_end (data_from data_start ds) ≡ true) × (os ≡ originals_from data_start ds)
  -- each call's promise allows one outcome
  pub new_unique : Unique (λ r. r ≡ data_start)
  pub after_unique : (s : Data) (v : Value) → Unique (λ r. r ≡ data_from s (data_of v))
  pub given_unique : (s : Data) (v : Value) → Unique (λ r. r ≡ given_of (originals_from s (data_of v)))
  pub ends_unique : (s : Data) → Unique (λ (r : Bool). r ≡ may_end s)
