-- The refusals, the reply and the effect of each call on databases as a whole: one row a call.
use Rattle.std.specs.Prelude.{◌≡◌, ◌≢◌, ◌≤◌, ◌<◌, ◌+◌, ◌++◌, ◌==◌, if◌then◌else◌, ℕ, Bool, true, false, List, [], ◌∷◌, length, slice_get, Option, Some, None, All}
use Rattle.std.specs.List.{Any}
use Rattle.heap_model.specs.Chunk.{data_owner}
use Rattle.heap_model.specs.Memory.{Memory}
use Rattle.heap_model.specs.Heap.{directory_of}
use Rattle.heap_model.specs.Reading.{held}
use Rattle.heap_model.specs.DatabaseFields.{header_size}
use Rattle.heap_model.specs.Database.{DatabaseHeader, Database, data_in, IsDatabaseName, with_resources_of}
use Rattle.heap_model.specs.Maps.{reowned}
use Rattle.heap_model.specs.Store.{StoredDatabase, Store, directory_bytes, numbers_of, names_of, most_databases, listed_size}
use Rattle.heap_model.specs.Rooms.{Part, making, growth_part}
use Rattle.heap_model.specs.Refusals.{Check, ◌brings◌}
use Rattle.heap_model.specs.Steps.{Row, done, a_number, a_name}
use Rattle.heap_model.specs.MemorySteps.{Of, IsLocked, no_owner}
use Rattle.heap_model.specs.EntrySteps.{raised, giving_checks}
use Rattle.heap_model.specs.StoreWords.{with_changed, without_database, all_gone, with_number, In, no_database, read_only, may_run_out, becomes, becomes_with, stays, next_modification}
use Rattle.heap_model.specs.declared.names.Name.{Name}
use Rattle.heap_model.specs.declared.names.Db.{Db}
use Rattle.heap_model.specs.declared.names.Which.{Which}
use Rattle.heap_model.specs.declared.names.Which.TheVariants.{App, Sort}
use Rattle.heap_model.specs.declared.database.DbInfo.{DbInfo}
use Rattle.heap_model.specs.declared.call.DatabaseCall as given
use Rattle.heap_model.specs.declared.call.DatabaseCall.TheVariants.{Create, Delete, Find, Nth, Count, Info, SetInfo, SetInfoBlock, TakeInfoBlock, InfoBlock}
use Rattle.heap_model.specs.declared.call.Reply.{Reply}
use Rattle.heap_model.specs.declared.call.Reply.TheVariants as replies
use Rattle.heap_model.specs.declared.refusal.Refusal.TheVariants.{ChunkLocked, NoSuchDatabase, TooManyEntries, AlreadyExists, InvalidName, NoInfoBlock}

-- ---- calls

-- a call on databases, with databases given by their numbers and chunks by their names
abbrev pub DatabaseCall : Type 0
DatabaseCall = given.DatabaseCall Name Db

-- the same call, with its chunk and its database given another way
abbrev pub database_call : {One Other ThisOne ThisOther : Type 0} → (One → Other) → (ThisOne → ThisOther) → given.DatabaseCall One ThisOne → given.DatabaseCall Other ThisOther
database_call chunk number (Create name kind creator resources date) = Create name kind creator resources date
database_call chunk number (Delete db) = Delete (number db)
database_call chunk number (Find name) = Find name
database_call chunk number (Nth index) = Nth index
database_call chunk number Count = Count
database_call chunk number (Info db) = Info (number db)
database_call chunk number (SetInfo db info) = SetInfo (number db) info
database_call chunk number (SetInfoBlock db which name) = SetInfoBlock (number db) which (chunk name)
database_call chunk number (TakeInfoBlock db which owner) = TakeInfoBlock (number db) which owner
database_call chunk number (InfoBlock db which) = InfoBlock (number db) which

-- ---- words of the rows

-- A database of another number has this name. No database has the number 0.
abbrev pub IsTaken : Store → ℕ → List ℕ → Type 0
IsTaken store db name = Any (λ one. (one.db ≢ db) × (one.database.header.name ≡ name)) store.databases

-- a chunk that the database names has a lock
abbrev pub locked_data : Store → Db → Check
locked_data store db = In store db (λ database. Any (λ name. Of (store.map name) IsLocked) (data_in database)) brings ChunkLocked

abbrev pub no_name : List ℕ → Check
no_name name = (IsDatabaseName name → ⊥) brings InvalidName

abbrev pub taken : Store → ℕ → List ℕ → Check
taken store db name = IsTaken store db name brings AlreadyExists

-- ---- words of the answers

abbrev pub a_database : (Db → Type 0) → Reply → Memory → Type 0
a_database P (replies.Database db) new = P db
a_database P reply new = ⊥

abbrev pub an_info : (DbInfo → Type 0) → Reply → Memory → Type 0
an_info P (replies.Info info) new = P info
an_info P reply new = ⊥

-- the fields of a header, and the number of entries
abbrev pub info_of : Database ℕ → DbInfo
info_of database = record {
  name = database.header.name;
  attributes = database.header.attributes;
  version = database.header.version;
  creation_date = database.header.creation_date;
  modification_date = database.header.modification_date;
  backup_date = database.header.backup_date;
  modification_number = database.header.modification_number;
  kind = database.header.kind;
  creator = database.header.creator;
  seed = database.header.seed;
  entry_count = length database.entries;
}

-- ---- databases made and changed

-- a database without entries, of resources or of records
abbrev pub empty_database : List ℕ → ℕ → ℕ → Bool → ℕ → Database ℕ
empty_database name kind creator resources date = record {
  header = record {
    name = name;
    attributes = if resources then 1 else 0;
    version = 0;
    creation_date = date;
    modification_date = date;
    backup_date = 0;
    modification_number = 0;
    kind = kind;
    creator = creator;
    seed = 0;
  };
  app_info = 0;
  sort_info = 0;
  entries = [];
}

-- The parts that a new database takes: a header, and a directory with one slot more. The directory
-- is made if there is none.
abbrev pub create_parts : List ℕ → List Part
create_parts image =
    if directory_of image == 0
    then (making header_size ∷ making listed_size ∷ [])
    else (making header_size ∷ growth_part image (directory_of image) (length (directory_bytes image) + listed_size) ∷ [])

-- how many slots a new database takes
abbrev pub create_slots : List ℕ → ℕ
create_slots image = if directory_of image == 0 then 2 else 1

-- A header with the fields of another one. The lowest bit of the attributes stays, which says
-- whether there are resources, and so does the seed. The modification number counts the call.
abbrev pub header_set : DbInfo → DatabaseHeader → DatabaseHeader
header_set info header = record header {
  name = info.name;
  attributes = with_resources_of header.attributes info.attributes;
  version = info.version;
  creation_date = info.creation_date;
  modification_date = info.modification_date;
  backup_date = info.backup_date;
  modification_number = next_modification header.modification_number;
  kind = info.kind;
  creator = info.creator;
}

-- the names of the data of a database, if there is one
abbrev pub named_in : Option StoredDatabase → List ℕ
named_in None = []
named_in (Some one) = data_in one.database

-- a store without a database and the chunks that it names
abbrev pub dropped : Store → Db → Store
dropped store db = record {
  map = all_gone store.map (named_in (with_number store db.0));
  databases = without_database store.databases db.0;
}

-- ---- info blocks

-- the name of an info block, or 0, which names nothing, if there is none
abbrev pub info_block : Which → Database ℕ → ℕ
info_block App database = database.app_info
info_block Sort database = database.sort_info

-- a database with another info block
abbrev pub with_info_block : Which → ℕ → Database ℕ → Database ℕ
with_info_block App name database = record database { app_info = name }
with_info_block Sort name database = record database { sort_info = name }

abbrev pub info_block_of : Which → Option StoredDatabase → ℕ
info_block_of which None = 0
info_block_of which (Some one) = info_block which one.database

-- the same for the database of a number
abbrev pub info_block_under : Store → Db → Which → ℕ
info_block_under store db which = info_block_of which (with_number store db.0)

-- a store in which a caller's chunk became an info block
abbrev pub info_block_set : Store → Db → Which → ℕ → Store
info_block_set store db which name = record {
  map = reowned store.map name data_owner;
  databases = with_changed store.databases db.0 (with_info_block which name);
}

-- a store in which a database lost an info block, and the block's chunk got an owner
abbrev pub info_block_taken : Store → Db → Which → ℕ → Store
info_block_taken store db which owner = record {
  map = reowned store.map (info_block_under store db which) owner;
  databases = with_changed store.databases db.0 (with_info_block which 0);
}

-- the info block is there; and below, it isn't
abbrev pub has_block : Store → Db → Which → Check
has_block store db which = (0 < info_block_under store db which) brings AlreadyExists

abbrev pub no_block : Store → Db → Which → Check
no_block store db which = (info_block_under store db which ≡ 0) brings NoInfoBlock

-- ---- the rows

-- the row of a call on a region that means a store
abbrev pub database_row : Memory → Store → DatabaseCall → Row Store
database_row old store (Create name kind creator resources date) = record {
  only_asks = false;
  refusals =
      no_name name
      ∷ taken store 0 name
      ∷ ((most_databases ≤ length store.databases) brings TooManyEntries)
      ∷ may_run_out old.bytes (create_slots old.bytes) (create_parts old.bytes)
      ∷ [];
  answers = a_database (λ db. held old.bytes db.0 ≡ None);
  effect = becomes_with
      (λ db before. record before { databases = before.databases ++ (record { db = db.0; database = empty_database name kind creator resources date } ∷ []) });
}
database_row old store (Delete db) = record {
  only_asks = false;
  refusals = no_database store db ∷ locked_data store db ∷ [];
  answers = done;
  effect = becomes (λ before. dropped before db);
}
database_row old store (Find name) = record {
  only_asks = true;
  refusals = (All (λ other. other ≢ name) (names_of store.databases) brings NoSuchDatabase) ∷ [];
  answers = a_database (λ db. In store db (λ database. database.header.name ≡ name));
  effect = stays;
}
database_row old store (Nth index) = record {
  only_asks = true;
  refusals = ((length store.databases ≤ index) brings NoSuchDatabase) ∷ [];
  answers = a_database (λ db. slice_get (numbers_of store.databases) index ≡ Some db.0);
  effect = stays;
}
database_row old store Count = record {
  only_asks = true;
  refusals = [];
  answers = a_number (λ count. count ≡ length store.databases);
  effect = stays;
}
database_row old store (Info db) = record {
  only_asks = true;
  refusals = no_database store db ∷ [];
  answers = an_info (λ info. In store db (λ database. info ≡ info_of database));
  effect = stays;
}
database_row old store (SetInfo db info) = record {
  only_asks = false;
  refusals = no_database store db ∷ no_name info.name ∷ taken store db.0 info.name ∷ [];
  answers = done;
  effect = becomes
      (λ before. record before {
        databases = with_changed before.databases db.0 (λ database. record database { header = header_set info database.header });
      });
}
database_row old store (SetInfoBlock db which name) = record {
  only_asks = false;
  refusals =
      no_database store db
      ∷ read_only store db
      ∷ has_block store db which
      ∷ giving_checks store.map name.0 [];
  answers = done;
  effect = becomes (λ before. raised (info_block_set before db which name.0) db);
}
database_row old store (TakeInfoBlock db which owner) = record {
  only_asks = false;
  refusals =
      no_database store db
      ∷ read_only store db
      ∷ no_block store db which
      ∷ no_owner owner
      ∷ [];
  answers = a_name (λ name. name.0 ≡ info_block_under store db which);
  effect = becomes (λ before. raised (info_block_taken before db which owner) db);
}
database_row old store (InfoBlock db which) = record {
  only_asks = true;
  refusals = no_database store db ∷ no_block store db which ∷ [];
  answers = a_name (λ name. name.0 ≡ info_block_under store db which);
  effect = stays;
}
