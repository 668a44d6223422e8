-- The commands, one row each: the word, the kinds of the words after it, and the line that they
-- make.
use Rattle.std.specs.Prelude.{ℕ, Bool, List, [], ◌∷◌, ◌++◌, map, take, Option, Some, None, codes}
use Rattle.std.specs.List.{find}
use Rattle.std.specs.Str.{bytes_eq}
use Rattle.heap_model.specs.DatabaseFields.{name_size}
use Rattle.heap_model.specs.declared.names.Which.{Which}
use Rattle.heap_model.specs.declared.call.Call.{Call}
use Rattle.heap_model.specs.declared.call.Call.TheVariants as calls
use Rattle.heap_model.specs.declared.call.MemoryCall.{MemoryCall}
use Rattle.heap_model.specs.declared.call.MemoryCall.TheVariants as memory
use Rattle.heap_model.specs.declared.call.DatabaseCall.{DatabaseCall}
use Rattle.heap_model.specs.declared.call.DatabaseCall.TheVariants as database
use Rattle.heap_model.specs.declared.call.RecordCall.{RecordCall}
use Rattle.heap_model.specs.declared.call.RecordCall.TheVariants as record_calls
use Rattle.heap_model.specs.declared.call.ResourceCall.{ResourceCall}
use Rattle.heap_model.specs.declared.call.ResourceCall.TheVariants as resource_calls
use Rattle.script_commands.specs.declared.line.ChunkLabel.{ChunkLabel}
use Rattle.script_commands.specs.declared.line.DatabaseLabel.{DatabaseLabel}
use Rattle.script_commands.specs.declared.line.Line.{Line}
use Rattle.script_commands.specs.declared.line.Line.TheVariants.{Print, Silent, BindChunk, BindDatabase}
use Rattle.script_commands.specs.declared.line.Line.TheVariants as lines
use Rattle.script_commands.specs.declared.command.Command.{Command}
use Rattle.script_commands.specs.declared.command.Command.TheVariants.{Memory, Database, Record, Resource}
use Rattle.script_commands.specs.declared.memory_command.MemoryCommand.{MemoryCommand}
use Rattle.script_commands.specs.declared.memory_command.MemoryCommand.TheVariants.{Bind, New, PtrNew, Free, Resize, SetOwner, Lock, Unlock, Size, Owner, Locks, Read, Write, Set, StrCopy, FreeByOwner, FreeBytes, Largest, Compact, MoreSlots}
use Rattle.script_commands.specs.declared.database_command.DatabaseCommand.{DatabaseCommand}
use Rattle.script_commands.specs.declared.database_command.DatabaseCommand.TheVariants.{Create, Find, Nth, Count, Delete, Info, SetInfo, SetInfoBlock, TakeInfoBlock, InfoBlock, Import, Export}
use Rattle.script_commands.specs.declared.record_command.RecordCommand.{RecordCommand}
use Rattle.script_commands.specs.declared.record_command.RecordCommand.TheVariants as records
use Rattle.script_commands.specs.declared.resource_command.ResourceCommand.{ResourceCommand}
use Rattle.script_commands.specs.declared.resource_command.ResourceCommand.TheVariants as resources
use Rattle.script_commands.specs.declared.value.Kind.{Kind}
use Rattle.script_commands.specs.declared.value.Kind.TheVariants as kinds
use Rattle.script_commands.specs.declared.value.Value.{Value}
use Rattle.script_commands.specs.declared.value.Value.TheVariants as values

-- a function to a line, from what words of the given kinds stand for
abbrev pub Makes : List Kind → Type 0
Makes [] = Line
Makes (kinds.Chunk ∷ behind) = ChunkLabel → Makes behind
Makes (kinds.Database ∷ behind) = DatabaseLabel → Makes behind
Makes (kinds.Byte ∷ behind) = ℕ → Makes behind
Makes (kinds.Short ∷ behind) = ℕ → Makes behind
Makes (kinds.Number ∷ behind) = ℕ → Makes behind
Makes (kinds.Flag ∷ behind) = Bool → Makes behind
Makes (kinds.Which ∷ behind) = Which → Makes behind
Makes (kinds.FourBytes ∷ behind) = ℕ → Makes behind
Makes (kinds.Bytes ∷ behind) = List ℕ → Makes behind
Makes (kinds.Text ∷ behind) = List ℕ → Makes behind

-- The line made of values of the given kinds, or none if the values are of other kinds. The bytes
-- of a word of bytes or text are given separately from the values of the other words.
abbrev pub line_by : (of : List Kind) → Makes of → List Value → List ℕ → Option Line
line_by [] make [] bytes = Some make
line_by (kinds.Chunk ∷ behind) make (values.Chunk label ∷ more) bytes = line_by behind (make label) more bytes
line_by (kinds.Database ∷ behind) make (values.Database label ∷ more) bytes = line_by behind (make label) more bytes
line_by (kinds.Byte ∷ behind) make (values.Byte byte ∷ more) bytes = line_by behind (make byte) more bytes
line_by (kinds.Short ∷ behind) make (values.Short number ∷ more) bytes = line_by behind (make number) more bytes
line_by (kinds.Number ∷ behind) make (values.Number number ∷ more) bytes = line_by behind (make number) more bytes
line_by (kinds.Flag ∷ behind) make (values.Flag is_set ∷ more) bytes = line_by behind (make is_set) more bytes
line_by (kinds.Which ∷ behind) make (values.Which which ∷ more) bytes = line_by behind (make which) more bytes
line_by (kinds.FourBytes ∷ behind) make (values.FourBytes number ∷ more) bytes = line_by behind (make number) more bytes
line_by (kinds.Bytes ∷ behind) make more bytes = line_by behind (make bytes) more bytes
line_by (kinds.Text ∷ behind) make more bytes = line_by behind (make bytes) more bytes
line_by of make more bytes = None

-- A command: its word, the kinds of the words after it, the function that makes its line of what
-- they stand for, and the same as a function of a list of values.
pub record CommandRow : Type 0 where
  pub word : List ℕ
  pub of : List Kind
  pub make : Makes of
  pub line : List Value → List ℕ → Option Line

abbrev pub row : List ℕ → (of : List Kind) → Makes of → CommandRow
row word of make = record { word = word; of = of; make = make; line = line_by of make }

-- the calls of the managers, over labels
abbrev pub LineCall : Type 0
LineCall = Call ChunkLabel DatabaseLabel (List ℕ)

abbrev pub in_memory : MemoryCall ChunkLabel (List ℕ) → LineCall
in_memory call = calls.Memory call

abbrev pub on_databases : DatabaseCall ChunkLabel DatabaseLabel → LineCall
on_databases call = calls.Database call

abbrev pub on_records : RecordCall ChunkLabel DatabaseLabel → LineCall
on_records call = calls.Record call

abbrev pub on_resources : ResourceCall ChunkLabel DatabaseLabel → LineCall
on_resources call = calls.Resource call

abbrev pub memory_row : MemoryCommand → CommandRow
memory_row Bind = row (codes "bind") (kinds.Chunk ∷ kinds.Number ∷ []) (λ label name. lines.Bind label name)
memory_row New = row (codes "new") (kinds.Chunk ∷ kinds.Number ∷ kinds.Byte ∷ []) (λ label size owner. BindChunk label (in_memory (memory.HandleNew size owner)))
memory_row PtrNew = row (codes "ptrnew") (kinds.Chunk ∷ kinds.Number ∷ kinds.Byte ∷ []) (λ label size owner. BindChunk label (in_memory (memory.PtrNew size owner)))
memory_row Free = row (codes "free") (kinds.Chunk ∷ []) (λ name. Print (in_memory (memory.Free name)))
memory_row Resize = row (codes "resize") (kinds.Chunk ∷ kinds.Number ∷ []) (λ name size. Print (in_memory (memory.Resize name size)))
memory_row SetOwner = row (codes "setowner") (kinds.Chunk ∷ kinds.Byte ∷ []) (λ name owner. Print (in_memory (memory.SetOwner name owner)))
memory_row Lock = row (codes "lock") (kinds.Chunk ∷ []) (λ name. Print (in_memory (memory.Lock name)))
memory_row Unlock = row (codes "unlock") (kinds.Chunk ∷ []) (λ name. Print (in_memory (memory.Unlock name)))
memory_row Size = row (codes "size") (kinds.Chunk ∷ []) (λ name. Print (in_memory (memory.Size name)))
memory_row Owner = row (codes "owner") (kinds.Chunk ∷ []) (λ name. Print (in_memory (memory.Owner name)))
memory_row Locks = row (codes "locks") (kinds.Chunk ∷ []) (λ name. Print (in_memory (memory.Locks name)))
memory_row Read = row (codes "read") (kinds.Chunk ∷ kinds.Number ∷ kinds.Number ∷ []) (λ name at count. Print (in_memory (memory.Read name at count)))
memory_row Write = row (codes "write") (kinds.Chunk ∷ kinds.Number ∷ kinds.Bytes ∷ []) (λ name at bytes. Print (in_memory (memory.Write name at bytes)))
memory_row Set = row (codes "set") (kinds.Chunk ∷ kinds.Number ∷ kinds.Number ∷ kinds.Byte ∷ []) (λ name at count byte. Print (in_memory (memory.Set name at count byte)))
memory_row StrCopy = row (codes "strcopy") (kinds.Chunk ∷ kinds.Number ∷ kinds.Text ∷ []) (λ name at text. Print (in_memory (memory.StrCopy name at text)))
memory_row FreeByOwner = row (codes "freeowner") (kinds.Byte ∷ []) (λ owner. Print (in_memory (memory.FreeByOwner owner)))
memory_row FreeBytes = row (codes "freebytes") [] (Print (in_memory memory.FreeBytes))
memory_row Largest = row (codes "largest") [] (Print (in_memory memory.LargestStretch))
memory_row Compact = row (codes "compact") [] (Silent (in_memory memory.Compact))
memory_row MoreSlots = row (codes "moreslots") [] (Print (in_memory memory.MoreSlots))

-- a database's name, as a call gives it: the first bytes of a text, at most one more than a name
-- may have
abbrev pub name_from_text : List ℕ → List ℕ
name_from_text text = take name_size text

abbrev pub database_row : DatabaseCommand → CommandRow
database_row Create = row (codes "create") (kinds.Database ∷ kinds.Text ∷ kinds.FourBytes ∷ kinds.FourBytes ∷ kinds.Flag ∷ kinds.Number ∷ []) (λ label text kind creator resources date. BindDatabase label (on_databases (database.Create (name_from_text text) kind creator resources date)))
database_row Find = row (codes "find") (kinds.Database ∷ kinds.Text ∷ []) (λ label text. BindDatabase label (on_databases (database.Find (name_from_text text))))
database_row Nth = row (codes "nth") (kinds.Database ∷ kinds.Number ∷ []) (λ label index. BindDatabase label (on_databases (database.Nth index)))
database_row Count = row (codes "dbcount") [] (Print (on_databases database.Count))
database_row Delete = row (codes "dbdelete") (kinds.Database ∷ []) (λ db. Print (on_databases (database.Delete db)))
database_row Info = row (codes "dbinfo") (kinds.Database ∷ []) (λ db. Print (on_databases (database.Info db)))
database_row SetInfo = row (codes "dbset") (kinds.Database ∷ kinds.Text ∷ kinds.Short ∷ kinds.Short ∷ kinds.Number ∷ kinds.Number ∷ kinds.Number ∷ kinds.FourBytes ∷ kinds.FourBytes ∷ []) (λ db text attributes version creation_date modification_date backup_date kind creator. Print (on_databases (database.SetInfo db (record {
  name = name_from_text text;
  attributes = attributes;
  version = version;
  creation_date = creation_date;
  modification_date = modification_date;
  backup_date = backup_date;
  modification_number = 0;
  kind = kind;
  creator = creator;
  seed = 0;
  entry_count = 0;
}))))
database_row SetInfoBlock = row (codes "infoset") (kinds.Database ∷ kinds.Which ∷ kinds.Chunk ∷ []) (λ db which name. Print (on_databases (database.SetInfoBlock db which name)))
database_row TakeInfoBlock = row (codes "infotake") (kinds.Database ∷ kinds.Which ∷ kinds.Byte ∷ kinds.Chunk ∷ []) (λ db which owner label. BindChunk label (on_databases (database.TakeInfoBlock db which owner)))
database_row InfoBlock = row (codes "info") (kinds.Database ∷ kinds.Which ∷ kinds.Chunk ∷ []) (λ db which label. BindChunk label (on_databases (database.InfoBlock db which)))
database_row Import = row (codes "import") (kinds.Database ∷ kinds.Number ∷ []) (λ label file. lines.Import label file)
database_row Export = row (codes "export") (kinds.Database ∷ []) (λ db. lines.Export db)

abbrev pub record_row : RecordCommand → CommandRow
record_row records.New = row (codes "recnew") (kinds.Database ∷ kinds.Number ∷ kinds.Number ∷ kinds.Chunk ∷ []) (λ db at size label. BindChunk label (on_records (record_calls.New db at size)))
record_row records.Delete = row (codes "recdelete") (kinds.Database ∷ kinds.Number ∷ []) (λ db index. Print (on_records (record_calls.Delete db index)))
record_row records.Archive = row (codes "recarchive") (kinds.Database ∷ kinds.Number ∷ []) (λ db index. Print (on_records (record_calls.Archive db index)))
record_row records.Remove = row (codes "recremove") (kinds.Database ∷ kinds.Number ∷ []) (λ db index. Print (on_records (record_calls.Remove db index)))
record_row records.Move = row (codes "recmove") (kinds.Database ∷ kinds.Number ∷ kinds.Number ∷ []) (λ db from to. Print (on_records (record_calls.Move db from to)))
record_row records.Get = row (codes "recget") (kinds.Database ∷ kinds.Number ∷ kinds.Chunk ∷ []) (λ db index label. BindChunk label (on_records (record_calls.Get db index)))
record_row records.Query = row (codes "recquery") (kinds.Database ∷ kinds.Number ∷ kinds.Chunk ∷ []) (λ db index label. BindChunk label (on_records (record_calls.Query db index)))
record_row records.Release = row (codes "recrelease") (kinds.Database ∷ kinds.Number ∷ kinds.Flag ∷ []) (λ db index dirty. Print (on_records (record_calls.Release db index dirty)))
record_row records.Info = row (codes "recinfo") (kinds.Database ∷ kinds.Number ∷ []) (λ db index. Print (on_records (record_calls.Info db index)))
record_row records.Resize = row (codes "recresize") (kinds.Database ∷ kinds.Number ∷ kinds.Number ∷ []) (λ db index size. Print (on_records (record_calls.Resize db index size)))
record_row records.Count = row (codes "reccount") (kinds.Database ∷ []) (λ db. Print (on_records (record_calls.Count db)))
record_row records.Attach = row (codes "recattach") (kinds.Database ∷ kinds.Number ∷ kinds.Chunk ∷ []) (λ db at name. Print (on_records (record_calls.Attach db at name)))
record_row records.AttachReplacing = row (codes "recreplace") (kinds.Database ∷ kinds.Number ∷ kinds.Chunk ∷ kinds.Byte ∷ kinds.Chunk ∷ []) (λ db index name owner label. BindChunk label (on_records (record_calls.AttachReplacing db index name owner)))
record_row records.Detach = row (codes "recdetach") (kinds.Database ∷ kinds.Number ∷ kinds.Byte ∷ kinds.Chunk ∷ []) (λ db index owner label. BindChunk label (on_records (record_calls.Detach db index owner)))
record_row records.SetInfo = row (codes "recset") (kinds.Database ∷ kinds.Number ∷ kinds.Byte ∷ kinds.Number ∷ []) (λ db index attributes id. Print (on_records (record_calls.SetInfo db index attributes id)))
record_row records.Find = row (codes "recfind") (kinds.Database ∷ kinds.Number ∷ []) (λ db id. Print (on_records (record_calls.FindById db id)))
record_row records.CountInCategory = row (codes "catcount") (kinds.Database ∷ kinds.Byte ∷ []) (λ db category. Print (on_records (record_calls.CountInCategory db category)))
record_row records.NextInCategory = row (codes "catnext") (kinds.Database ∷ kinds.Number ∷ kinds.Byte ∷ []) (λ db from category. Print (on_records (record_calls.NextInCategory db from category)))
record_row records.PositionInCategory = row (codes "catpos") (kinds.Database ∷ kinds.Number ∷ kinds.Byte ∷ []) (λ db index category. Print (on_records (record_calls.PositionInCategory db index category)))
record_row records.MoveCategory = row (codes "catmove") (kinds.Database ∷ kinds.Byte ∷ kinds.Byte ∷ kinds.Flag ∷ []) (λ db to from dirty. Print (on_records (record_calls.MoveCategory db to from dirty)))
record_row records.DeleteCategory = row (codes "catdelete") (kinds.Database ∷ kinds.Byte ∷ []) (λ db category. Print (on_records (record_calls.DeleteCategory db category)))

abbrev pub resource_row : ResourceCommand → CommandRow
resource_row resources.New = row (codes "resnew") (kinds.Database ∷ kinds.FourBytes ∷ kinds.Short ∷ kinds.Number ∷ kinds.Chunk ∷ []) (λ db kind id size label. BindChunk label (on_resources (resource_calls.New db kind id size)))
resource_row resources.Attach = row (codes "resattach") (kinds.Database ∷ kinds.FourBytes ∷ kinds.Short ∷ kinds.Chunk ∷ []) (λ db kind id name. Print (on_resources (resource_calls.Attach db kind id name)))
resource_row resources.Detach = row (codes "resdetach") (kinds.Database ∷ kinds.Number ∷ kinds.Byte ∷ kinds.Chunk ∷ []) (λ db index owner label. BindChunk label (on_resources (resource_calls.Detach db index owner)))
resource_row resources.Remove = row (codes "resremove") (kinds.Database ∷ kinds.Number ∷ []) (λ db index. Print (on_resources (resource_calls.Remove db index)))
resource_row resources.Resize = row (codes "resresize") (kinds.Database ∷ kinds.Number ∷ kinds.Number ∷ []) (λ db index size. Print (on_resources (resource_calls.Resize db index size)))
resource_row resources.Info = row (codes "resinfo") (kinds.Database ∷ kinds.Number ∷ kinds.Chunk ∷ []) (λ db index label. BindChunk label (on_resources (resource_calls.Info db index)))
resource_row resources.SetInfo = row (codes "resset") (kinds.Database ∷ kinds.Number ∷ kinds.FourBytes ∷ kinds.Short ∷ []) (λ db index kind id. Print (on_resources (resource_calls.SetInfo db index kind id)))
resource_row resources.Find = row (codes "resfind") (kinds.Database ∷ kinds.FourBytes ∷ kinds.Short ∷ []) (λ db kind id. Print (on_resources (resource_calls.Find db kind id)))
resource_row resources.FindType = row (codes "restype") (kinds.Database ∷ kinds.FourBytes ∷ kinds.Number ∷ []) (λ db kind nth. Print (on_resources (resource_calls.FindType db kind nth)))
resource_row resources.Count = row (codes "rescount") (kinds.Database ∷ []) (λ db. Print (on_resources (resource_calls.Count db)))

abbrev pub row_of : Command → CommandRow
row_of (Memory command) = memory_row command
row_of (Database command) = database_row command
row_of (Record command) = record_row command
row_of (Resource command) = resource_row command

abbrev pub word_of : Command → List ℕ
word_of command = (row_of command).word

abbrev pub kinds_of : Command → List Kind
kinds_of command = (row_of command).of

-- the line of a command and values
abbrev pub line_of : Command → List Value → List ℕ → Option Line
line_of command values bytes = (row_of command).line values bytes

-- every command
abbrev pub memory_commands : List MemoryCommand
memory_commands = Bind ∷ New ∷ PtrNew ∷ Free ∷ Resize ∷ SetOwner ∷ Lock ∷ Unlock ∷ Size ∷ Owner ∷ Locks ∷ Read ∷ Write ∷ Set ∷ StrCopy ∷ FreeByOwner ∷ FreeBytes ∷ Largest ∷ Compact ∷ MoreSlots ∷ []

abbrev pub database_commands : List DatabaseCommand
database_commands = Create ∷ Find ∷ Nth ∷ Count ∷ Delete ∷ Info ∷ SetInfo ∷ SetInfoBlock ∷ TakeInfoBlock ∷ InfoBlock ∷ Import ∷ Export ∷ []

abbrev pub record_commands : List RecordCommand
record_commands = records.New ∷ records.Delete ∷ records.Archive ∷ records.Remove ∷ records.Move ∷ records.Get ∷ records.Query ∷ records.Release ∷ records.Info ∷ records.Resize ∷ records.Count ∷ records.Attach ∷ records.AttachReplacing ∷ records.Detach ∷ records.SetInfo ∷ records.Find ∷ records.CountInCategory ∷ records.NextInCategory ∷ records.PositionInCategory ∷ records.MoveCategory ∷ records.DeleteCategory ∷ []

abbrev pub resource_commands : List ResourceCommand
resource_commands = resources.New ∷ resources.Attach ∷ resources.Detach ∷ resources.Remove ∷ resources.Resize ∷ resources.Info ∷ resources.SetInfo ∷ resources.Find ∷ resources.FindType ∷ resources.Count ∷ []

abbrev pub commands : List Command
commands = map Memory memory_commands ++ map Database database_commands ++ map Record record_commands ++ map Resource resource_commands

-- the command that has a word, if there is one
abbrev pub command_of : List ℕ → Option Command
command_of word = find (λ command. bytes_eq (word_of command) word) commands
