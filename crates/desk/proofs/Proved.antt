-- The laws of the desk.
use mathlib.Core.Path.{◌≡◌}
use Rattle.answer.specs.Answer.{number, after}
use Rattle.answer.proofs.Answers.{equation, paired}
use Rattle.desk.specs.Moments.{fresh}
use Rattle.desk.specs.Calls.{packet_of}
use Rattle.reply.specs.Numbers.{packet_number}
use Rattle.desk.specs.Laws.{Laws}
use Rattle.desk.proofs.Settle.{moment_settled, moment_counted}
use Rattle.desk.proofs.Only.{packet_unique, wait_unique, second_unique, add_unique, cancel_unique, ask_unique}

pub laws : Laws
laws = record {
  twice = moment_settled;
  counts = moment_counted;
  new_unique = equation fresh;
  packet_unique =
      λ d tuner t bytes.
      paired (λ r. (packet_number r.answer ≡ number (packet_of tuner t bytes d)) × (r.desk ≡ after d (packet_of tuner t bytes d))) (λ q. q ≡ bytes)
      (packet_unique d tuner t bytes) (equation bytes);
  wait_unique = wait_unique;
  second_unique = second_unique;
  add_unique = add_unique;
  cancel_unique = cancel_unique;
  ask_unique = ask_unique;
  live_unique = λ d. equation d.live;
}
