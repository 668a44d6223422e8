-- The fields of headers and entries of databases, as C sees them.
use Rattle.std.specs.Prelude.{Some, None, if◌then◌else◌, take}
use Rattle.heap_model.specs.declared.database.DbInfo as model
use Rattle.heap_model.specs.declared.entry.RecordInfo as model_records
use Rattle.heap_model.specs.declared.entry.ResourceInfo as model_resources
use Rattle.palmheap_c.specs.Calls.{as_name}
use Rattle.palmheap_c.specs.declared.infos.DatabaseInfo.{DatabaseInfo}
use Rattle.palmheap_c.specs.declared.infos.RecordInfo.{RecordInfo}
use Rattle.palmheap_c.specs.declared.infos.ResourceInfo.{ResourceInfo}

abbrev pub database_from_c : DatabaseInfo → model.DbInfo
database_from_c info = record {
  name = take info.name_length info.name;
  attributes = info.attributes;
  version = info.version;
  creation_date = info.creation_date;
  modification_date = info.modification_date;
  backup_date = info.backup_date;
  modification_number = info.modification_number;
  kind = info.kind;
  creator = info.creator;
  seed = info.seed;
  entry_count = info.entry_count;
}

abbrev pub record_from_c : RecordInfo → model_records.RecordInfo
record_from_c info = record {
  attributes = info.attributes;
  id = info.id;
  «data» = if info.has_data then Some (as_name info.«data») else None;
}

abbrev pub resource_from_c : ResourceInfo → model_resources.ResourceInfo
resource_from_c info = record {
  kind = info.kind;
  id = info.id;
  «data» = as_name info.«data»;
}
