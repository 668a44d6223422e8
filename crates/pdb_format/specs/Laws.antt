-- The statements of the laws about files.
use Rattle.std.specs.Prelude.{◌≡◌, ◌≤◌, ◌<◌, ◌+◌, ◌^◌, ℕ, List, length, Option}
use Rattle.std.specs.List.{Contains}
use Rattle.heap_model.specs.Bytes.{AreBytes}
use Rattle.heap_model.specs.Maps.{callers_map}
use Rattle.heap_model.specs.Database.{Database}
use Rattle.heap_model.specs.Store.{StoredDatabase, content, databases, Accepted}
use Rattle.heap_model.specs.Files.{HasNoFault, Reads, idle, file_of}
use Rattle.pdb_format.specs.Writable.{file_size, most_front, IsWritable}

-- each file of bytes that has no fault is read as a database
abbrev pub FilesAreRead : Type 0
FilesAreRead = (file : List ℕ) → AreBytes file → HasNoFault file → (database : Database (Option (List ℕ))) × Reads file database

-- no file is read as two databases
abbrev pub FilesAreReadOnce : Type 0
FilesAreReadOnce = (file : List ℕ) (one other : Database (Option (List ℕ))) → Reads file one → Reads file other → one ≡ other

-- the file of a database that can be written is read as that database, with no record busy
abbrev pub WrittenFilesAreRead : Type 0
WrittenFilesAreRead = (database : Database (Option (List ℕ))) → IsWritable database → Reads (file_of database) (idle database)

-- that file has the size `file_size`
abbrev pub WrittenFilesHaveTheirSize : Type 0
WrittenFilesHaveTheirSize = (database : Database (Option (List ℕ))) → IsWritable database → length (file_of database) ≡ file_size database

-- the content of each database of an accepted image of bytes can be written
abbrev pub ContentsAreWritable : Type 0
ContentsAreWritable =
    (image : List ℕ) (stored : StoredDatabase) → AreBytes image → Accepted image → Contains (databases image) stored
    → IsWritable (content (callers_map image) stored.database)

-- In the image each block of the database's content is a chunk of its own. So the blocks together
-- are at most as long as the image, and the file is short enough for offsets of four bytes.
abbrev pub ContentsAreShort : Type 0
ContentsAreShort =
    (image : List ℕ) (stored : StoredDatabase) → Accepted image → Contains (databases image) stored
    → (file_size (content (callers_map image) stored.database) ≤ length image + most_front)
    × (file_size (content (callers_map image) stored.database) < 2 ^ 32)
