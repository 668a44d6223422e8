-- The fields of a header that stay when it is set.
use Rattle.std.specs.Prelude.{◌≡◌}
use Rattle.heap_model.specs.Database.{has_resources}
use Rattle.db_format.specs.declared.header.DbHeader.{DbHeader}

-- the info blocks, the number of the entries and their kind stay
pub record KeepsEntries (old new : DbHeader) : Type 0 where
  pub app_info : new.app_info ≡ old.app_info
  pub sort_info : new.sort_info ≡ old.sort_info
  pub entry_count : new.entry_count ≡ old.entry_count
  pub kind : has_resources new.attributes ≡ has_resources old.attributes
