-- The laws of the answers' numbers.
use Rattle.answer.specs.Answer.{number}
use Rattle.answer.proofs.Answers.{equation}
use Rattle.reply.specs.Numbers.{packet_refusal, packet_number, wait_answer, add_answer, cancel_number, state_says, ask_answer, second_number}
use Rattle.reply.specs.Laws.{Laws}

pub laws : Laws
laws = record {
  packet_refusal_number_unique = λ a. equation (packet_refusal a);
  packet_number_unique = λ a. equation (packet_number a);
  wait_number_unique = λ a. equation (number (wait_answer a));
  add_number_unique = λ a. equation (number (add_answer a));
  cancel_number_unique = λ a. equation (cancel_number a);
  state_number_unique = λ s. equation (state_says s).state;
  ask_number_unique = λ a. equation (number (ask_answer a));
  second_number_unique = λ a. equation (second_number a);
}
