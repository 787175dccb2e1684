-- One outcome for each call.
use Rattle.std.specs.Prelude.{Result, ℕ}
use mathlib.Core.Path.{◌≡◌}
use Rattle.answer.specs.Answer.{Unique}
use Rattle.answer.proofs.Answers.{equation}
use Rattle.programmes.specs.declared.Programme.{Programme}
use Rattle.programmes.specs.declared.Refusal.{Refusal}
use Rattle.programmes.specs.declared.WriteRefusal.{WriteRefusal}
use Rattle.programmes.specs.Page.{read_number}
use Rattle.programmes.specs.Written.{refusal_number, written_number}
use Rattle.programmes.specs.Timer.{pil_of}

pub read_number_unique : (r : Refusal) → Unique (λ n. n ≡ read_number r)
read_number_unique r = equation (read_number r)

pub refusal_number_unique : (r : WriteRefusal) → Unique (λ n. n ≡ refusal_number r)
refusal_number_unique r = equation (refusal_number r)

pub written_number_unique : (w : Result ℕ WriteRefusal) → Unique (λ n. n ≡ written_number w)
written_number_unique w = equation (written_number w)

pub pil_unique : (q : Programme) → Unique (λ r. r ≡ pil_of q)
pil_unique q = equation (pil_of q)
