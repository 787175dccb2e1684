-- The laws of a programme's timer.
use Rattle.answer.proofs.Answers.{equation}
use Rattle.booked.specs.Timer.{timer_of}
use Rattle.booked.specs.Laws.{Laws}
use Rattle.booked.proofs.Added.{real, parts, cni_below, pil_below, length_below}

pub laws : Laws
laws = record {
  real = real;
  parts = parts;
  cni_below = cni_below;
  pil_below = pil_below;
  length_below = length_below;
  timer_unique = λ q. equation (timer_of q);
}
