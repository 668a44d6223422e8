use Rattle.test_managers.proofs.Wholes.{records_can}
use Rattle.test_managers.proofs.store.whole.make_records.Goals as goal

pub create_whole-requires-clause-whole : goal.create_whole-requires-clause-whole
create_whole-requires-clause-whole c = records_can c.info_of_two.result c.info_of_two.ensures.name c.info_of_two.ensures.attributes c.info_of_two.ensures.entry_count
