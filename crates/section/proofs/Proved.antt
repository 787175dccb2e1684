-- The laws of a page's timers section.
use mathlib.Core.Path.{◌≡◌}
use Rattle.answer.proofs.Answers.{equation, paired}
use Rattle.collected.proofs.Readings.{sound}
use Rattle.section.specs.Laws.{Laws}
use Rattle.section.specs.Asked.{nothing, after_piece, is_full}
use Rattle.section.proofs.Entered.{few_bytes, text_whole}
use Rattle.section.proofs.Machine.{told, pieces, settled, section_once}
use Rattle.section.proofs.Sheets.{timers, fields}

pub laws : Laws
laws = record {
  told = told;
  pieces = pieces;
  settled = settled;
  room = λ tuner page a w. few_bytes tuner a (sound page a w);
  whole = λ tuner page a w. text_whole tuner a (sound page a w);
  timers = timers;
  fields = fields;
  new_unique = equation nothing;
  feed_unique = λ k piece. paired (λ r. r ≡ after_piece piece k) (λ p. p ≡ piece) (equation (after_piece piece k)) (equation piece);
  full_unique = λ k. equation (is_full k);
  section_unique = section_once;
}
