use Rattle.script_lines.proofs.ReadBack.{four_bytes_are_read_back}
use Rattle.script_lines.proofs.laws.four_bytes_are_read_back.Goals as goal

pub returns : goal.returns
returns c = four_bytes_are_read_back
