use Rattle.std.proofs.Common.{ap}
use Rattle.std.specs.Prelude.{slice_index}
use Rattle.std.proofs.lemmas.Bool.{OnTrue_at}
use Rattle.master_table.specs.Known.{Remembered}
use Rattle.master_table.proofs.FurtherLaws.{word_is_slot}
use Rattle.master_table.proofs.known.KnownTables.has_slot_further_on.Goals as goal

pub returns-then-is_word_of : goal.returns-then-is_word_of
returns-then-is_word_of c = λ image knows.
    word_is_slot image c.args.self.now (slice_index c.self.inside.places c.entry_of_block.result) c.args.slot knows
    (c.entry_of_block.result, ap (λ (k : Remembered). slice_index k.places c.entry_of_block.result) c.self.view_is)
    (OnTrue_at c.if-is_word_of.true c.is_word_of.ensures)
