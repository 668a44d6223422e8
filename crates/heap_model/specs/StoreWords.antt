-- The vocabulary of the rows of calls on a store: its databases by number, the checks that rows
-- share, and relations between the store before a call and after it.
use Rattle.std.specs.Prelude.{◌≡◌, ◌<◌, ◌+◌, ◌%◌, ◌^◌, ◌⊎◌, ◌==◌, if◌then◌else◌, not, ℕ, true, List, map, filter, Option, Some, None}
use Rattle.std.specs.List.{find}
use Rattle.heap_model.specs.Meaning.{ChunkMap}
use Rattle.heap_model.specs.Space.{free_slots, rooms}
use Rattle.heap_model.specs.Lists.{times}
use Rattle.heap_model.specs.Database.{Database, is_read_only}
use Rattle.heap_model.specs.Store.{StoredDatabase, Store}
use Rattle.heap_model.specs.Rooms.{Part, Stuck}
use Rattle.heap_model.specs.Refusals.{Check, ◌brings◌, ◌may_bring◌}
use Rattle.heap_model.specs.declared.names.Db.{Db}
use Rattle.heap_model.specs.declared.call.Reply.{Reply}
use Rattle.heap_model.specs.declared.call.Reply.TheVariants as replies
use Rattle.heap_model.specs.declared.refusal.Refusal.TheVariants.{NotEnoughSpace, NoSuchDatabase, ReadOnly}

-- ---- stores

-- two stores are the same
pub record SameStore (one other : Store) : Type 0 where
  pub map : (name : ℕ) → one.map name ≡ other.map name
  pub databases : one.databases ≡ other.databases

-- the database with a change, if it has this number
abbrev pub changed_if : ℕ → (Database ℕ → Database ℕ) → StoredDatabase → StoredDatabase
changed_if db change one = if one.db == db then record { db = db; database = change one.database } else one

-- the databases, with one of them changed and the others as they were
abbrev pub with_changed : List StoredDatabase → ℕ → (Database ℕ → Database ℕ) → List StoredDatabase
with_changed stored db change = map (changed_if db change) stored

-- the databases without one
abbrev pub without_database : List StoredDatabase → ℕ → List StoredDatabase
without_database stored db = filter (λ one. not (one.db == db)) stored

-- a map without some names
abbrev pub all_gone : ChunkMap → List ℕ → ChunkMap
all_gone chunks names name = if times name names == 0 then chunks name else None

-- ---- words of the rows

-- a property of a database, if there is one
abbrev pub OfDatabase : Option StoredDatabase → (Database ℕ → Type 0) → Type 0
OfDatabase None P = ⊥
OfDatabase (Some one) P = P one.database

-- the database of a number
abbrev pub with_number : Store → ℕ → Option StoredDatabase
with_number store db = find (λ one. one.db == db) store.databases

-- a property of the database with a number
abbrev pub In : Store → Db → (Database ℕ → Type 0) → Type 0
In store db P = OfDatabase (with_number store db.0) P

-- ---- checks that rows share

abbrev pub no_database : Store → Db → Check
no_database store db = (with_number store db.0 ≡ None) brings NoSuchDatabase

-- the database may only be read
abbrev pub read_only : Store → Db → Check
read_only store db = In store db (λ database. is_read_only database.header.attributes ≡ true) brings ReadOnly

-- The parts of a call may not all find room. Either fewer slots are free than the new chunks need.
-- Or the parts, done one after the other, can run out of room.
abbrev pub may_run_out : List ℕ → ℕ → List Part → Check
may_run_out image slots parts = ((free_slots image < slots) ⊎ Stuck (rooms image) parts) may_bring NotEnoughSpace

-- ---- words of the effects

-- the store afterwards is the store before with a change
abbrev pub becomes : (Store → Store) → Reply → Store → Store → Type 0
becomes change reply old new = SameStore new (change old)

-- the same, if the change needs the database in the reply
abbrev pub becomes_with : (Db → Store → Store) → Reply → Store → Store → Type 0
becomes_with change (replies.Database db) old new = SameStore new (change db old)
becomes_with change reply old new = ⊥

-- the store is unchanged
abbrev pub stays : Reply → Store → Store → Type 0
stays reply old new = SameStore new old

-- the modification number after this one
abbrev pub next_modification : ℕ → ℕ
next_modification count = (count + 1) % 2 ^ 32
