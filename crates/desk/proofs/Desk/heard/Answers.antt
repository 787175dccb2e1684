-- `Gate` carries it: what `barred` answers is the first of 8, 9 and 10 that applies; the reader's refusals and the label follow.
use Rattle.std.specs.Prelude.{◌≡◌}
use Rattle.std.proofs.Common.{rules}
use Rattle.answer.specs.Answer.{and_then}
use Rattle.label.specs.Packet.{reading_of}
use Rattle.label.proofs.Mended.{label_read}
use Rattle.desk.specs.Calls.{tuner_rows, obeying, packet_of}
use Rattle.desk.proofs.Gate.{past_gate}
use Rattle.reply.specs.Numbers.{told, packet_refusal}
use Rattle.desk.proofs.Desk.heard.Goals as goal
use Rattle.desk.proofs.Desk.heard.Goals.{After-barred}

-- past the gate the packet is read
gate : (j : After-barred) → let a = j.args in
    packet_of a.tuner a.time a.bytes.now a.self ≡
    and_then (told packet_refusal j.barred.result) (λ u. and_then (reading_of a.bytes.now) (λ l. obeying a.tuner a.time l a.self))
unfolding packet_of
gate j =
    let a = j.args in
    past_gate tt a.bytes.now (λ p. and_then (reading_of p) (λ l. obeying a.tuner a.time l a.self)) (tuner_rows a.self a.tuner a.time) packet_refusal j.barred.result j.barred.ensures

pub returns-in_err-barred-clause-answer_value : goal.returns-in_err-barred-clause-answer_value
returns-in_err-barred-clause-answer_value c = rw (gate (goal.at.returns-in_err-barred-clause-answer_value c).After-barred, c.in_err-barred.was) (search rules)

pub returns-in_err-got-clause-answer_value : goal.returns-in_err-got-clause-answer_value
returns-in_err-got-clause-answer_value c =
    rw (gate (goal.at.returns-in_err-got-clause-answer_value c).After-barred, c.in_ok-barred.was, ← label_read _ c.read.ensures.result_value) (search rules)

pub returns-clause-answer_value : goal.returns-clause-answer_value
returns-clause-answer_value c =
    rw (gate (goal.at.returns-clause-answer_value c).After-barred, c.in_ok-barred.was, ← label_read _ c.read.ensures.result_value) (search rules)
