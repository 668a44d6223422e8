-- The numbers and the names of refusals.
use Rattle.std.specs.Prelude.{ℕ, List, codes}
use Rattle.heap_model.specs.declared.refusal.Refusal.{Refusal}
use Rattle.heap_model.specs.declared.refusal.Refusal.TheVariants.{InvalidHandle, OwnedByDatabase, ChunkLocked, ChunkNotLocked, LockOverflow, ChunkFixed, InvalidOwner, NotEnoughSpace, OutOfBounds, NoSuchDatabase, NotRecordDatabase, NotResourceDatabase, ReadOnly, IndexOutOfRange, RecordDeleted, RecordBusy, TooManyEntries, InvalidCategory, DuplicateId, UniqueIdNotFound, AlreadyExists, InvalidName, ResourceNotFound, NoInfoBlock, BadFile, OutOfMemory, Lent}

abbrev pub number_of : Refusal → ℕ
number_of InvalidHandle = 1
number_of OwnedByDatabase = 2
number_of ChunkLocked = 3
number_of ChunkNotLocked = 4
number_of LockOverflow = 5
number_of ChunkFixed = 6
number_of InvalidOwner = 7
number_of NotEnoughSpace = 8
number_of OutOfBounds = 9
number_of NoSuchDatabase = 10
number_of NotRecordDatabase = 11
number_of NotResourceDatabase = 12
number_of ReadOnly = 13
number_of IndexOutOfRange = 14
number_of RecordDeleted = 15
number_of RecordBusy = 16
number_of TooManyEntries = 17
number_of InvalidCategory = 18
number_of DuplicateId = 19
number_of UniqueIdNotFound = 20
number_of AlreadyExists = 21
number_of InvalidName = 22
number_of ResourceNotFound = 23
number_of NoInfoBlock = 24
number_of (BadFile fault) = 25
number_of OutOfMemory = 26
number_of Lent = 27

abbrev pub name_of : Refusal → List ℕ
name_of InvalidHandle = codes "InvalidHandle"
name_of OwnedByDatabase = codes "OwnedByDatabase"
name_of ChunkLocked = codes "ChunkLocked"
name_of ChunkNotLocked = codes "ChunkNotLocked"
name_of LockOverflow = codes "LockOverflow"
name_of ChunkFixed = codes "ChunkFixed"
name_of InvalidOwner = codes "InvalidOwner"
name_of NotEnoughSpace = codes "NotEnoughSpace"
name_of OutOfBounds = codes "OutOfBounds"
name_of NoSuchDatabase = codes "NoSuchDatabase"
name_of NotRecordDatabase = codes "NotRecordDatabase"
name_of NotResourceDatabase = codes "NotResourceDatabase"
name_of ReadOnly = codes "ReadOnly"
name_of IndexOutOfRange = codes "IndexOutOfRange"
name_of RecordDeleted = codes "RecordDeleted"
name_of RecordBusy = codes "RecordBusy"
name_of TooManyEntries = codes "TooManyEntries"
name_of InvalidCategory = codes "InvalidCategory"
name_of DuplicateId = codes "DuplicateId"
name_of UniqueIdNotFound = codes "UniqueIdNotFound"
name_of AlreadyExists = codes "AlreadyExists"
name_of InvalidName = codes "InvalidName"
name_of ResourceNotFound = codes "ResourceNotFound"
name_of NoInfoBlock = codes "NoInfoBlock"
name_of (BadFile fault) = codes "BadFile"
name_of OutOfMemory = codes "OutOfMemory"
name_of Lent = codes "Lent"
