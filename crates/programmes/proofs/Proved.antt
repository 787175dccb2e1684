-- The laws of a page's programmes.
use Rattle.answer.proofs.Answers.{equation}
use Rattle.programmes.specs.Laws.{Laws}
use Rattle.programmes.specs.Meaning.{nothing}
use Rattle.programmes.specs.Page.{blank}
use Rattle.programmes.proofs.Round.{back, again, kept}
use Rattle.programmes.proofs.Damage.{one, two_byte, two_triplet}
use Rattle.programmes.proofs.Seventeen.{first_17}
use Rattle.programmes.proofs.Most.{at_most_103, whole}
use Rattle.programmes.proofs.Active.{nothing_after}
use Rattle.programmes.proofs.Parts.{parts, no_parts}
use Rattle.programmes.proofs.Numbers.{read_number_unique, refusal_number_unique, written_number_unique, pil_unique}

pub laws : Laws
laws = record {
  back = back;
  again = again;
  kept = kept;
  one = one;
  two_byte = two_byte;
  two_triplet = two_triplet;
  at_most_103 = at_most_103;
  first_17 = first_17;
  whole = whole;
  nothing_after = nothing_after;
  parts = parts;
  no_parts = no_parts;
  blank_unique = equation blank;
  nothing_unique = equation nothing;
  read_number_unique = read_number_unique;
  refusal_number_unique = refusal_number_unique;
  written_number_unique = written_number_unique;
  pil_unique = pil_unique;
}
