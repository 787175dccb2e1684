-- The laws of what is printed.
use Rattle.view.specs.Laws.{Laws}
use Rattle.view.proofs.Readings.{told, pieces, room, report_once}

pub laws : Laws
laws = record {
  told = told;
  pieces = pieces;
  room = room;
  report_unique = report_once;
}
