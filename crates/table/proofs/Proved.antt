-- The laws of the table.
use Rattle.answer.proofs.Answers.{equation}
use Rattle.table.specs.Laws.{Laws}
use Rattle.table.specs.Table.{agreed, table_start, after_format, titled_at, with_code}

pub laws : Laws
laws = record {
  agree_unique = λ w sum. equation (agreed w sum);
  new_unique = equation table_start;
  format_unique = λ t f. equation (after_format t f);
  titled_unique = λ t row column. equation (titled_at t row column);
  coded_unique = λ t c. equation (with_code t c);
}
