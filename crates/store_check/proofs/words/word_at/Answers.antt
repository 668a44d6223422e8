-- `word_at` returns the word with an index, by the laws of db_format.
use Rattle.std.proofs.Common.{◌*◌}
use Rattle.db_format.proofs.WordLaws.{u32_at_part}
use Rattle.store_check.proofs.words.word_at.Goals as goal

pub returns : goal.returns
returns c = u32_at_part c.read_u32.result (4 * c.args.index) c.args.bytes.now c.read_u32.ensures
