-- The statements of the laws of databases and stores in `heap_model`.
use Rattle.std.specs.Prelude.{◌≡◌, ◌<◌, ◌≤◌, ◌+◌, ◌⊎◌, ◌%◌, Option, ◌^◌, ◌++◌, ◌↔◌, ℕ, true, List, [], ◌∷◌, length, slice_get, slice_set, All, Some, None, IsSome, suc, insert, drop, slice_range}
use Rattle.std.specs.List.{flat_map, remove}
use Rattle.heap_model.specs.Bytes.{u32_bytes, AreBytes, overwritten}
use Rattle.heap_model.specs.Chunk.{need, data_owner}
use Rattle.heap_model.specs.Heap.{HeapAccepted, directory_of}
use Rattle.heap_model.specs.Meaning.{LiveChunk, ChunkMap}
use Rattle.heap_model.specs.Reading.{held}
use Rattle.heap_model.specs.Maps.{updated, changed_at, made, callers_map}
use Rattle.heap_model.specs.Placing.{SameFrame}
use Rattle.heap_model.specs.Space.{rooms, Short, ShortFor}
use Rattle.heap_model.specs.Lists.{same, times, u32s_in, moved, Distinct}
use Rattle.heap_model.specs.DatabaseFields.{header_size}
use Rattle.heap_model.specs.Database.{Database, Entry, entry_data, data_in, has_resources, header_bytes, entry_bytes, spelled, EntryFits, DatabaseFits, IsSpelled, entry_offset, database_in, HasShape}
use Rattle.heap_model.specs.UniqueIds.{greatest_id, IsFresh}
use Rattle.heap_model.specs.Store.{StoredDatabase, Store, owner_of, owner_under, databases, numbers_of, unique_id, unique_ids, IsHeaderSlot, Accepted, Means, store_of, bytes_under}
use Rattle.heap_model.specs.Counts.{NamesData, HasDatabases, IsSound}
use Rattle.heap_model.specs.Leaving.{Leaves, rewritten, Respells, database_here, SpellsHere}
use Rattle.heap_model.specs.Rooms.{Lowers, makes, growth_part, Stuck}
use Rattle.heap_model.specs.Memory.{Memory}
use Rattle.heap_model.specs.MemorySteps.{MemoryCall, AsBefore, Does}
use Rattle.heap_model.specs.declared.names.Db.{Db}
use Rattle.heap_model.specs.declared.call.Call.TheVariants as calls
use Rattle.heap_model.specs.declared.call.Reply.{Reply}
use Rattle.heap_model.specs.StoreWords.{SameStore, with_number, with_changed, without_database}
use Rattle.heap_model.specs.DatabaseSteps.{dropped}
use Rattle.heap_model.specs.EntrySteps.{most_entries, entry_made, replaced, with_entry_at, raised_header, with_chunks, LeavesStore}
use Rattle.heap_model.specs.StoreSteps.{StoreAsBefore, DoesInStore}
use Rattle.laws_store.specs.Entries.{HasNewId, HasOwnId}
use Rattle.laws_store.specs.StoreTests.{is_store}
use Rattle.laws_store.specs.Changes.{KeepsManagers, Rewrites, Appends, Drops, Clears, HasStore, Change, all_updated, Edits}

-- ---- spellings

-- the database that is read off bytes is the one that they spell, so they spell no other
abbrev pub SpellingsAreRead : Type 0
SpellingsAreRead = (database : Database ℕ) (bytes : List ℕ) → IsSpelled database bytes → database_in bytes ≡ database

-- bytes spell the database that is read off them exactly if they have the right shape
abbrev pub ShapesAreSpellings : Type 0
ShapesAreSpellings = (bytes : List ℕ) → AreBytes bytes → (IsSpelled (database_in bytes) bytes ↔ HasShape bytes)

-- to replace an entry is to write its bytes over those of the old entry at its index
abbrev pub EntriesAreWritten : Type 0
EntriesAreWritten =
    (database : Database ℕ) (index : ℕ) (entry : Entry ℕ) → DatabaseFits database → EntryFits (has_resources database.header.attributes) entry → index < length database.entries
    → spelled (record database { entries = slice_set database.entries index entry }) ≡ overwritten (spelled database) (entry_offset (has_resources database.header.attributes) index) (entry_bytes entry)

-- To insert or remove an entry is to keep the bytes of the entries before it, to move those of the
-- entries after it, and to write the header, which has another number of entries.
abbrev pub EntriesAreMoved : Type 0
EntriesAreMoved =
    ((database other : Database ℕ) (index : ℕ) (entry : Entry ℕ) → DatabaseFits database → index ≤ length database.entries → other.entries ≡ insert database.entries index entry
    → spelled other
    ≡ header_bytes other
    ++ (slice_range (spelled database) header_size (entry_offset (has_resources database.header.attributes) index) ++ (entry_bytes entry ++ drop (entry_offset (has_resources database.header.attributes) index) (spelled database))))
    × ((database other : Database ℕ) (index : ℕ) → DatabaseFits database → index < length database.entries → other.entries ≡ remove database.entries index
    → spelled other
    ≡ header_bytes other
    ++ (slice_range (spelled database) header_size (entry_offset (has_resources database.header.attributes) index) ++ drop (entry_offset (has_resources database.header.attributes) (suc index)) (spelled database)))

-- to replace a header is to write its bytes over the old ones; the entries stay
abbrev pub HeadersAreWritten : Type 0
HeadersAreWritten = (database other : Database ℕ) → DatabaseFits database → DatabaseFits other → other.entries ≡ database.entries → spelled other ≡ overwritten (spelled database) 0 (header_bytes other)

-- ---- entries

-- A sound database stays sound after each of these edits: an entry that fits is inserted; an entry
-- is replaced by one that fits and has the same ID or one of its own; an entry is removed; an entry
-- is moved; the modification number is raised.
abbrev pub EditsAreSound : Type 0
EditsAreSound =
    ((d : Database ℕ) (index : ℕ) (e : Entry ℕ) → IsSound d → EntryFits (has_resources d.header.attributes) e → NamesData e → HasNewId (unique_ids d) e → index ≤ length d.entries → length d.entries < most_entries → IsSound (with_entry_at index e d))
    × ((d : Database ℕ) (index : ℕ) (change : Entry ℕ → Entry ℕ) (e : Entry ℕ) → IsSound d → slice_get d.entries index ≡ Some e → EntryFits (has_resources d.header.attributes) (change e) → NamesData (change e)
    → (unique_id (change e) ≡ unique_id e) ⊎ HasOwnId d.entries index (change e) → IsSound (record d { entries = replaced d.entries index change }))
    × ((d : Database ℕ) (index : ℕ) → IsSound d → index < length d.entries → IsSound (record d { entries = remove d.entries index }))
    × ((d : Database ℕ) (from to : ℕ) → IsSound d → from < length d.entries → to ≤ length d.entries → IsSound (record d { entries = moved d.entries from to }))
    × ((d : Database ℕ) → IsSound d → IsSound (record d { header = raised_header d.header }))

-- the data that a database names after each edit of an entry: inserted, replaced, removed or moved
abbrev pub EditsAreCounted : Type 0
EditsAreCounted =
    ((q : ℕ) (d : Database ℕ) (index : ℕ) (e : Entry ℕ) → times q (data_in (with_entry_at index e d)) ≡ times q (data_in d) + same (entry_data e) q)
    × ((q : ℕ) (d : Database ℕ) (index : ℕ) (change : Entry ℕ → Entry ℕ) (e : Entry ℕ) → slice_get d.entries index ≡ Some e
    → times q (data_in (record d { entries = replaced d.entries index change })) + same (entry_data e) q ≡ times q (data_in d) + same (entry_data (change e)) q)
    × ((q : ℕ) (d : Database ℕ) (index : ℕ) (e : Entry ℕ) → slice_get d.entries index ≡ Some e → times q (data_in (record d { entries = remove d.entries index })) + same (entry_data e) q ≡ times q (data_in d))
    × ((q : ℕ) (d : Database ℕ) (from to : ℕ) → from < length d.entries → times q (data_in (record d { entries = moved d.entries from to })) ≡ times q (data_in d))

-- ---- what an image has

-- if an accepted image is a list of bytes, so is the body under each name
abbrev pub BodiesAreBytes : Type 0
BodiesAreBytes = (image : List ℕ) (name : ℕ) → HeapAccepted image → AreBytes image → AreBytes (bytes_under image name)

-- the bytes that spell a list of slots are read as that list, and spell the list that is read
abbrev pub DirectoriesAreRead : Type 0
DirectoriesAreRead =
    ((slots : List ℕ) → All (λ slot. slot < 2 ^ 32) slots → u32s_in (flat_map u32_bytes slots) ≡ slots)
    × ((bytes : List ℕ) → AreBytes bytes → length bytes % 4 ≡ 0 → flat_map u32_bytes (u32s_in bytes) ≡ bytes)

-- After a seed there is exactly one fresh ID, if fewer IDs are taken than there are. A record may
-- have this ID, and it is not taken.
pub record HasFresh (ids : List ℕ) (seed : ℕ) : Type 0 where
  pub id : ℕ
  pub fresh : IsFresh ids seed id
  pub some : 0 < id
  pub fits : id ≤ greatest_id
  pub free : times id ids ≡ 0
  pub once : (other : ℕ) → IsFresh ids seed other → other ≡ id

abbrev pub FreshIdsExist : Type 0
FreshIdsExist = (ids : List ℕ) (seed : ℕ) → seed ≤ greatest_id → length ids < greatest_id → HasFresh ids seed

-- ---- the accepted image

-- an image has a list of databases, by the counts, exactly if it is accepted and that list is read
-- off it
abbrev pub AcceptanceIsCounted : Type 0
AcceptanceIsCounted = (image : List ℕ) (stored : List StoredDatabase) → (HasDatabases image stored ↔ (Accepted image × (databases image ≡ stored)))

-- the tests of an accepted image are all true exactly if the image is accepted
abbrev pub StoresAreDecided : Type 0
StoresAreDecided = (image : List ℕ) → ((is_store image ≡ true) ↔ Accepted image)

-- an accepted image means the store that is read off it, and no other
abbrev pub MeansOneStore : Type 0
MeansOneStore = (image : List ℕ) → Accepted image → Means image (store_of image) × ((one other : Store) → Means image one → Means image other → one ≡ other)

-- accepted images of bytes that mean the same store, and have the same directory word, hold the
-- same chunk under each name, including the manager's
abbrev pub StoresTell : Type 0
StoresTell =
    (one other : List ℕ) → AreBytes one → AreBytes other → Accepted one → Accepted other → directory_of one ≡ directory_of other → SameStore (store_of one) (store_of other)
    → (name : ℕ) → held one name ≡ held other name

-- ---- changes

-- an image whose manager's chunks were kept has the databases that the old one had
abbrev pub StoresAreKept : Type 0
StoresAreKept = (old new : List ℕ) (stored : List StoredDatabase) → HasDatabases old stored → KeepsManagers old new → HasDatabases new stored

-- a call of the memory manager leaves the databases that the heap had, even if it is refused
abbrev pub MemoryCallsKeepStores : Type 0
MemoryCallsKeepStores = (old new : Memory) (call : MemoryCall) (reply : Reply) (stored : List StoredDatabase) → Does old call reply new → HasDatabases old.bytes stored → HasDatabases new.bytes stored

-- a call of the memory manager on an accepted image is a step of the store that the image means
abbrev pub MemoryCallsAreStoreSteps : Type 0
MemoryCallsAreStoreSteps = (old new : Memory) (call : MemoryCall) (reply : Reply) → Accepted old.bytes → Does old call reply new → DoesInStore old (calls.Memory call) reply new

-- an image in which one database was rewritten has the others as they were
abbrev pub StoresAreRewritten : Type 0
StoresAreRewritten =
    (old new : List ℕ) (stored : List StoredDatabase) (index : ℕ) (one : StoredDatabase) → HasDatabases old stored → Rewrites old new stored index one → HasDatabases new (slice_set stored index one)

-- an image to which a database was added has it after the others
abbrev pub StoresAreAppended : Type 0
StoresAreAppended = (old new : List ℕ) (stored : List StoredDatabase) (one : StoredDatabase) → HasDatabases old stored → Appends old new stored one → HasDatabases new (stored ++ one ∷ [])

-- an image from which a database was removed has the others
abbrev pub StoresAreDropped : Type 0
StoresAreDropped =
    (old new : List ℕ) (stored : List StoredDatabase) (index : ℕ) (one : StoredDatabase) → HasDatabases old stored → Drops old new stored index one → HasDatabases new (remove stored index)

-- ---- databases by number

-- if no two databases have the same number, the database with a number is found at any index
abbrev pub DatabasesAreFound : Type 0
DatabasesAreFound =
    (store : Store) (db : ℕ) (one : StoredDatabase) → Distinct (numbers_of store.databases) → ((with_number store db ≡ Some one) ↔ ((one.db ≡ db) × ((index : ℕ) × (slice_get store.databases index ≡ Some one))))

-- the database with a number is changed at its index
abbrev pub DatabasesAreChanged : Type 0
DatabasesAreChanged =
    (stored : List StoredDatabase) (db index : ℕ) (one : StoredDatabase) (change : Database ℕ → Database ℕ) → Distinct (numbers_of stored) → slice_get stored index ≡ Some one → one.db ≡ db
    → with_changed stored db change ≡ slice_set stored index (record { db = db; database = change one.database })

-- the database with a number is removed at its index
abbrev pub DatabasesAreTakenOut : Type 0
DatabasesAreTakenOut = (stored : List StoredDatabase) (db index : ℕ) (one : StoredDatabase) → Distinct (numbers_of stored) → slice_get stored index ≡ Some one → one.db ≡ db → without_database stored db ≡ remove stored index

-- A number is that of a database exactly if it has a chunk of the manager's and isn't the
-- directory's. No two databases have the same number.
abbrev pub NumbersAreKnown : Type 0
NumbersAreKnown =
    (image : List ℕ) (store : Store) → HasDatabases image store.databases
    → Distinct (numbers_of store.databases)
    × ((db : ℕ) → (IsHeaderSlot image db ↔ IsSome (with_number store db)) × ((IsHeaderSlot image db → ⊥) ↔ (with_number store db ≡ None)))

-- a database of an accepted image is sound, and is spelled under its number
abbrev pub DatabasesAreSound : Type 0
DatabasesAreSound = (image : List ℕ) (db : ℕ) → Accepted image → IsSome (with_number (store_of image) db) → IsSound (database_here image db) × SpellsHere image db

-- ---- steps of the store

-- an image that has a list of databases means the store of that list and of the chunks that callers
-- may name
abbrev pub DatabasesAreStores : Type 0
DatabasesAreStores = (image : List ℕ) (store : Store) → HasDatabases image store.databases → ((name : ℕ) → callers_map image name ≡ store.map name) → HasStore image store

-- an image in which one database was rewritten means the store with that database changed, and with
-- the chunks that callers may name
abbrev pub SetsAreSteps : Type 0
SetsAreSteps =
    (old new : List ℕ) (db index : ℕ) (was : StoredDatabase) (change : Database ℕ → Database ℕ) (map : ChunkMap) → Accepted old → slice_get (databases old) index ≡ Some was → was.db ≡ db
    → Rewrites old new (databases old) index (record { db = db; database = change was.database }) → ((name : ℕ) → callers_map new name ≡ map name)
    → HasStore new (record { map = map; databases = with_changed (databases old) db change })

-- if a database was added to an image, and callers may name what they could before, the new image
-- means the store with that database added
abbrev pub CreatesAreSteps : Type 0
CreatesAreSteps =
    (old new : List ℕ) (one : StoredDatabase) → Accepted old → Appends old new (databases old) one → ((name : ℕ) → callers_map new name ≡ callers_map old name)
    → HasStore new (record (store_of old) { databases = (store_of old).databases ++ (one ∷ []) })

-- an image from which a database and all that it named were removed means the store without them
abbrev pub DropsAreSteps : Type 0
DropsAreSteps = (old new : List ℕ) (db : Db) (index : ℕ) (one : StoredDatabase) → Accepted old → one.db ≡ db.0 → Drops old new (databases old) index one → Clears old new one → HasStore new (dropped (store_of old) db)

-- An image that holds what it held under every name means the store that it meant. If the same
-- amount is free too, all is as before, as after a refusal.
abbrev pub RefusalsAreSteps : Type 0
RefusalsAreSteps =
    ((old new : List ℕ) → Accepted old → SameFrame old new → ((name : ℕ) → held new name ≡ held old name) → HasStore new (store_of old))
    × ((old new : Memory) → Accepted old.bytes → SameFrame old.bytes new.bytes → AsBefore old new → Accepted new.bytes × StoreAsBefore old new)

-- an image in which one database and some chunks were edited means the store with these changed
abbrev pub EditsAreSteps : Type 0
EditsAreSteps =
    (old new : List ℕ) (db : Db) (change : Database ℕ → Database ℕ) (changes : List Change) → Accepted old → IsSome (with_number (store_of old) db.0)
    → Edits old new db.0 (change (database_here old db.0)) changes
    → LeavesStore old new (record { map = all_updated (callers_map old) changes; databases = with_changed (databases old) db.0 change })

-- an image to which an entry that fits was added, with a new chunk for its data, means the store
-- with that entry made
abbrev pub MakesAreSteps : Type 0
MakesAreSteps =
    (old new : List ℕ) (db : Db) (index : ℕ) (e : Entry ℕ) (size : ℕ) → Accepted old → IsSome (with_number (store_of old) db.0)
    → Leaves old new (made (rewritten (held old) db.0 (spelled (with_entry_at index e (database_here old db.0)))) (entry_data e) size data_owner 0) → held old (entry_data e) ≡ None
    → EntryFits (has_resources (database_here old db.0).header.attributes) e → NamesData e → HasNewId (unique_ids (database_here old db.0)) e → index ≤ length (database_here old db.0).entries → length (database_here old db.0).entries < most_entries
    → LeavesStore old new (entry_made (store_of old) db index e size)

-- an image in which one database became another, of the same name and with the same data, means the
-- store with that database changed
abbrev pub RespellsAreSteps : Type 0
RespellsAreSteps =
    (old new : List ℕ) (db : Db) (change : Database ℕ → Database ℕ) → Accepted old → IsSome (with_number (store_of old) db.0) → Respells old new db.0 (change (database_here old db.0))
    → IsSound (change (database_here old db.0)) → (change (database_here old db.0)).header.name ≡ (database_here old db.0).header.name
    → ((q : ℕ) → 0 < q → times q (data_in (change (database_here old db.0))) ≡ times q (data_in (database_here old db.0)))
    → LeavesStore old new (record (store_of old) { databases = with_changed (store_of old).databases db.0 change })

-- An image in which one chunk for data was replaced means the store with the new chunk. The same
-- holds if the chunk was changed by a function that keeps its owner and its locks. An image that
-- holds what it held means the store that it meant.
abbrev pub ChunksAreSteps : Type 0
ChunksAreSteps =
    ((old new : List ℕ) (name : ℕ) (now : Option LiveChunk) → Accepted old → Leaves old new (updated (held old) name now) → owner_under old name ≡ data_owner → owner_of now ≡ data_owner
    → ((before after : LiveChunk) → held old name ≡ Some before → now ≡ Some after → after.lock ≡ before.lock) → LeavesStore old new (with_chunks (store_of old) (updated (callers_map old) name now)))
    × ((old new : List ℕ) (name : ℕ) (change : LiveChunk → LiveChunk) → ((live : LiveChunk) → (change live).owner ≡ live.owner) → ((live : LiveChunk) → (change live).lock ≡ live.lock) → Accepted old
    → Leaves old new (changed_at (held old) name change) → owner_under old name ≡ data_owner → LeavesStore old new (with_chunks (store_of old) (changed_at (callers_map old) name change)))
    × ((old new : List ℕ) → Accepted old → Leaves old new (held old) → LeavesStore old new (store_of old))

-- ---- rooms

-- A call of one part runs out of room exactly if the image is short of that part. The part is a
-- chunk that is made, or an unlocked chunk that grows.
abbrev pub OnePartIsShort : Type 0
OnePartIsShort =
    ((image : List ℕ) (size : ℕ) → (Stuck (rooms image) (makes size ∷ []) ↔ Short image size))
    × ((image : List ℕ) (name count : ℕ) (live : LiveChunk) → HeapAccepted image → held image name ≡ Some live → live.lock ≡ 0
    → (Stuck (rooms image) (growth_part image name count ∷ []) ↔ ShortFor image name (need count)))

-- If a chunk was made, and then an unlocked chunk finds no room to grow, a call of these two parts
-- can run out of room.
abbrev pub MadeThenShort : Type 0
MadeThenShort =
    (old mid : List ℕ) (size name count : ℕ) (live : LiveChunk) → HeapAccepted mid → Lowers old mid size → held old name ≡ Some live → held mid name ≡ Some live → live.lock ≡ 0 → ShortFor mid name (need count)
    → Stuck (rooms old) (makes size ∷ growth_part old name count ∷ [])
