-- The laws of texts that are printed.
use Rattle.text.specs.Laws.{Laws}
use Rattle.text.proofs.Rooms.{column_short, pair_short, signed_short, hour_minute_short, quarters_short, line_short}
use Rattle.text.proofs.Printing.{stored, one_outcome}

pub laws : Laws
laws = record {
  column_room = column_short;
  pair_room = pair_short;
  signed_room = signed_short;
  hour_minute_room = hour_minute_short;
  quarters_room = quarters_short;
  number_line_room = line_short;
  printed_whole = stored;
  printed_unique = one_outcome;
}
