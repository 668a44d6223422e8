use Rattle.test_meanings.proofs.RowLaws.{all_have_rows}
use Rattle.test_meanings.proofs.rows.all_have_rows.Goals as goal

pub returns : goal.returns
returns c = all_have_rows
