use Rattle.laws_heap.proofs.Migrations.{migrated}
use Rattle.laws_heap.proofs.laws.bytes_tell_migration.Goals as goal

pub returns : goal.returns
returns c = migrated
