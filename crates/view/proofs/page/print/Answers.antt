-- What is printed finds room, and is stored whole.
use Rattle.std.proofs.Common.{rules, ◌≤◌, length}
use native.Mathlib.Omega.{arith}
use Rattle.text.proofs.Printing.{stored}
use Rattle.preview.specs.Taken.{reading_answer}
use Rattle.view.specs.Reported.{read_lines}
use Rattle.view.proofs.page.print.Goals as goal

pub returns : goal.returns
returns c =
    let lines = read_lines (reading_answer c.args.reading) in
    let room : length lines ≤ length c.args.out.now = c.requires in
    let whole = stored _ c.put_reading.new.out lines (omega (arith, room)) c.put_reading.ensures.1 in
    search (rules, whole)
