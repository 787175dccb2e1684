-- The laws of the exported calls.
use Rattle.answer.specs.Answer.{after, number}
use Rattle.answer.proofs.Answers.{equation}
use Rattle.calendar.specs.Calendar.{window_in}
use Rattle.hamming.specs.Byte.{nibble_of, coding_of}
use Rattle.label.specs.Pil.{service_of}
use Rattle.fields.specs.Fields.{plain, page_into, page_from, packets_told, bytes_left, pil_from}
use Rattle.fields.proofs.Proved.{left, one_left}
use Rattle.viewed.proofs.Proved.{read_once}
use Rattle.triplet.specs.Word.{word_of, triplet_of}
use Rattle.triplet.specs.Word as word
use Rattle.probe.specs.Plain.{nibble_number, byte_or, read_into, write_from, service_number, window_or, triplet_number}
use Rattle.probe.specs.Laws.{Laws}

pub laws : Laws
laws = record {
  decode_unique = λ b. equation (nibble_number (nibble_of b));
  encode_unique = λ v. equation (byte_or (coding_of v));
  read_unique = λ p out. left (number (read_into p out)) (after out (read_into p out)) p;
  write_unique = λ f p. left (number (write_from f p)) (after p (write_from f p)) f;
  service_unique = λ pil. equation (service_number (service_of pil));
  window_unique = λ pil year. equation (window_or (window_in pil year));
  triplet_unique = λ a b c. equation (triplet_number (triplet_of (word_of a b c)));
  triplet_word_unique = λ v. equation (plain 16777216 (word.coding_of v));
  page_read_unique = λ p out. left (number (page_into p out)) (after out (page_into p out)) p;
  page_write_unique = λ f buf. left (plain 256 (packets_told (page_from f buf))) (after buf (bytes_left (page_from f buf))) f;
  pil_unique = λ f. one_left (plain 16777216 (pil_from f)) f;
  preview_unique = read_once;
}
