-- The calls of a script's lines, and what the lines bind, print and export.
use Rattle.std.specs.Prelude.{◌≡◌, ◌≢◌, ◌<◌, ◌++◌, ◌==◌, ◌-◌, ℕ, Bool, List, [], ◌∷◌, Option, Some, None, Result, IfOk, is_ok, take, get_or, slice_get, if◌then◌else◌, codes, decimal, true, false, ◌≤◌, length}
use Rattle.std.specs.List.{flat_map}
use Rattle.std.specs.Option.{option_to_list}
use Rattle.std.specs.Io.KnownBytes.{Appends}
use Rattle.hex.specs.Hex.{encode_lower}
use Rattle.heap_model.specs.Memory.{Memory as Region}
use Rattle.heap_model.specs.Bytes.{u16_bytes, u32_bytes}
use Rattle.palm_text.specs.Pieces.{piece_text, script_spelled}
use Rattle.heap_model.specs.StoreSteps.{Call, DoesInStore, call_by}
use Rattle.palm_text.specs.Counted.{Writes}
use Rattle.palm_text.specs.Output.{Output}
use Rattle.heap_model.specs.Numbers.{number_of, name_of}
use Rattle.heap_model.specs.declared.names.Name.{Name}
use Rattle.heap_model.specs.declared.names.Db.{Db}
pub use Rattle.palm_text.specs.FaultTexts.{which_word, fault_text}
use Rattle.heap_model.specs.declared.database.DbInfo.{DbInfo}
use Rattle.heap_model.specs.declared.entry.RecordInfo.{RecordInfo}
use Rattle.heap_model.specs.declared.entry.ResourceInfo.{ResourceInfo}
use Rattle.heap_model.specs.declared.call.Call.TheVariants.{Memory, Database as OnDatabases, Record as OnRecords, Resource as OnResources, File}
use Rattle.heap_model.specs.declared.call.MemoryCall.TheVariants as calls
use Rattle.heap_model.specs.declared.call.FileCall.TheVariants as files
use Rattle.heap_model.specs.declared.call.Reply.{Reply}
use Rattle.heap_model.specs.declared.call.Reply.TheVariants.{Refused, Done, Number, Named, Locked, Data, Database, Info, Made, Record, Resource}
use Rattle.heap_model.specs.declared.refusal.Refusal.{Refusal}
use Rattle.heap_model.specs.declared.refusal.Refusal.TheVariants.{BadFile, OutOfMemory}
use Rattle.script_lines.specs.Commands.{LineCall}
use Rattle.script_lines.specs.declared.line.Line.{Line}
use Rattle.script_lines.specs.declared.line.Line.TheVariants.{Bind, Print, Silent, BindChunk, BindDatabase, Import, Export}
use Rattle.palm_text.specs.declared.output.WriteFault.{WriteFault}
use Rattle.script_calls.specs.Movement.{Moves}
use Rattle.script_calls.specs.declared.calls.Outcome.{Outcome}
use Rattle.script_calls.specs.declared.calls.Outcome.TheVariants.{Replied, Reads}
use Rattle.script_calls.specs.declared.replies.Word.{Word}
use Rattle.script_calls.specs.declared.replies.Told.{Told}
use Rattle.script_calls.specs.declared.replies.Told.TheVariants.{Nothing, Values, Length}

-- ---- what labels stand for

-- what each label stands for, by its number
abbrev pub LabelTable : Type 0 → Type 0
LabelTable Bound = ℕ → Bound

-- the name that each label of a chunk stands for, and the number for each label of a database
pub record Bindings : Type 0 where
  pub chunks : LabelTable Name
  pub databases : LabelTable Db

-- the name of nothing, and the number of no database
abbrev pub name_of_nothing : Name
name_of_nothing = record { 0 = 0 }

abbrev pub number_of_nothing : Db
number_of_nothing = record { 0 = 0 }

-- no label is bound
abbrev pub unbound : Bindings
unbound = record { chunks = λ label. name_of_nothing; databases = λ label. number_of_nothing }

-- the table in which one label stands for something else
abbrev pub bind : {Bound : Type 0} → LabelTable Bound → ℕ → Bound → LabelTable Bound
bind bound label now other = if other == label then now else bound other

-- the table of a list; labels after the end of the list are not bound
abbrev pub table : {Bound : Type 0} → Bound → List Bound → LabelTable Bound
table nothing bound label = get_or bound label nothing

abbrev pub tables : List Name → List Db → Bindings
tables names databases = record { chunks = table name_of_nothing names; databases = table number_of_nothing databases }

-- ---- the call of each line

-- the call of a call over labels, with each label replaced by what it stands for
abbrev pub call_among : Bindings → LineCall → Call
call_among bound call = call_by (λ label. bound.chunks label.0) (λ label. bound.databases label.0) (λ bytes. bytes) call

-- the input file with a number, counted from 1; an empty file if there is none with this number
abbrev pub input_of : List (List ℕ) → ℕ → List ℕ
input_of inputs file = if file == 0 then [] else get_or inputs (file - 1) []

-- the call of a line
abbrev pub call_of : List (List ℕ) → Bindings → Line → Call
call_of inputs bound (Bind label name) = Memory (calls.Size (record { 0 = name }))
call_of inputs bound (Print call) = call_among bound call
call_of inputs bound (Silent call) = call_among bound call
call_of inputs bound (BindChunk label call) = call_among bound call
call_of inputs bound (BindDatabase label call) = call_among bound call
call_of inputs bound (Import label file) = File (files.Import (input_of inputs file))
call_of inputs bound (Export label) = File (files.Export (bound.databases label.0))

-- the calls that may run out of memory, if the bytes of a `read` are lent: those on files
abbrev pub may_want_memory : Call → Bool
may_want_memory (Memory call) = false
may_want_memory (OnDatabases call) = false
may_want_memory (OnRecords call) = false
may_want_memory (OnResources call) = false
may_want_memory (File call) = true

-- The outcome of a call. Either it was done, and only a call on files can have run out of memory.
-- Or it is a `read`, which is left to the caller and changes nothing.
abbrev pub Answers : Region → Call → Outcome → Region → Type 0
Answers old call (Replied reply) new = DoesInStore old call reply new × (may_want_memory call ≡ false → reply ≢ Refused OutOfMemory)
Answers old call (Reads name at count) new = (call ≡ Memory (calls.Read name at count)) × (new ≡ old)

-- a fact that is known if the call ran out of memory
abbrev pub OnWant : Outcome → Type 0 → Type 0
OnWant (Replied reply) fact = reply ≡ Refused OutOfMemory → fact
OnWant (Reads name at count) fact = Unit {0}

-- ---- what each line binds

-- the chunk that a reply names: by a name, as the data of a new entry, or as the data of a resource
abbrev pub chunk_in : Reply → Option Name
chunk_in (Refused refusal) = None
chunk_in Done = None
chunk_in (Number number) = None
chunk_in (Named name) = Some name
chunk_in (Locked place count) = None
chunk_in (Data bytes) = None
chunk_in (Database db) = None
chunk_in (Info info) = None
chunk_in (Made index name) = Some name
chunk_in (Record info) = None
chunk_in (Resource info) = Some info.data

-- the database that a reply names
abbrev pub database_of_reply : Reply → Option Db
database_of_reply (Refused refusal) = None
database_of_reply Done = None
database_of_reply (Number number) = None
database_of_reply (Named name) = None
database_of_reply (Locked place count) = None
database_of_reply (Data bytes) = None
database_of_reply (Database db) = Some db
database_of_reply (Info info) = None
database_of_reply (Made index name) = None
database_of_reply (Record info) = None
database_of_reply (Resource info) = None

-- a label of a chunk is bound to the chunk that a reply names, if it names one
abbrev pub bound_to : Bindings → ℕ → Option Name → Bindings
bound_to bound label None = bound
bound_to bound label (Some name) = record bound { chunks = bind bound.chunks label name }

-- the same for the label of a database
abbrev pub bound_to_database : Bindings → ℕ → Option Db → Bindings
bound_to_database bound label None = bound
bound_to_database bound label (Some db) = record bound { databases = bind bound.databases label db }

-- A line that is accepted binds its label: `bind` to the name given, and every other line to the
-- chunk or the database that its reply names. A refused line binds nothing.
abbrev pub bound_after : Bindings → Line → Reply → Bindings
bound_after bound (Bind label name) (Refused refusal) = bound
bound_after bound (Bind label name) reply = record bound { chunks = bind bound.chunks label.0 (record { 0 = name }) }
bound_after bound (Print call) reply = bound
bound_after bound (Silent call) reply = bound
bound_after bound (BindChunk label call) reply = bound_to bound label.0 (chunk_in reply)
bound_after bound (BindDatabase label call) reply = bound_to_database bound label.0 (database_of_reply reply)
bound_after bound (Import label file) reply = bound_to_database bound label.0 (database_of_reply reply)
bound_after bound (Export label) reply = bound

-- ---- what is printed

-- bytes in hex, or a dash for no bytes
abbrev pub hex_text : List ℕ → List ℕ
hex_text [] = codes "-"
hex_text (byte ∷ bytes) = encode_lower (byte ∷ bytes)

-- the words of a header: the name, the attributes in four hex digits, the version, the dates, the
-- modification number, the type, the creator, the seed in eight hex digits, and the number of
-- entries
abbrev pub info_words : DbInfo → List (List ℕ)
info_words info =
    script_spelled info.name
    ∷ encode_lower (u16_bytes info.attributes)
    ∷ decimal info.version
    ∷ decimal info.creation_date
    ∷ decimal info.modification_date
    ∷ decimal info.backup_date
    ∷ decimal info.modification_number
    ∷ script_spelled (u32_bytes info.kind)
    ∷ script_spelled (u32_bytes info.creator)
    ∷ encode_lower (u32_bytes info.seed)
    ∷ decimal info.entry_count
    ∷ []

-- the word for whether a record has data
abbrev pub data_word : Option Name → List ℕ
data_word (Some name) = codes "data"
data_word None = codes "none"

-- the words of a record's entry: the attributes in two hex digits, the ID, and whether it has data
abbrev pub record_words : RecordInfo → List (List ℕ)
record_words info = encode_lower (info.attributes ∷ []) ∷ decimal info.id ∷ data_word info.data ∷ []

-- the words of a resource's entry: the type and the ID
abbrev pub resource_words : ResourceInfo → List (List ℕ)
resource_words info = script_spelled (u32_bytes info.kind) ∷ decimal info.id ∷ []

-- words with a space before each
abbrev pub words_text : List (List ℕ) → List ℕ
words_text words = flat_map (λ word. codes " " ++ word) words

-- the text of a word after `ok`
abbrev pub text_of_word : Word → List ℕ
text_of_word word = codes " " ++ piece_text word.0

-- The values after `ok`: numbers, counts, indexes, bytes, and the words of a header or an entry.
-- Names, places and the numbers of databases aren't printed.
abbrev pub values_text : Reply → List ℕ
values_text (Number number) = codes " " ++ decimal number
values_text (Locked place count) = codes " " ++ decimal count
values_text (Data bytes) = codes " " ++ hex_text bytes
values_text (Info info) = words_text (info_words info)
values_text (Made index name) = codes " " ++ decimal index
values_text (Record info) = words_text (record_words info)
values_text (Resource info) = words_text (resource_words info)
values_text (Refused refusal) = []
values_text Done = []
values_text (Named name) = []
values_text (Database db) = []

-- the number of bytes of a reply of bytes
abbrev pub length_text : Reply → List ℕ
length_text (Data bytes) = codes " " ++ decimal (length bytes)
length_text reply = []

-- The part of the reply that a line prints if it is accepted: nothing, its values, or its length.
-- Names and databases are only bound, and have no value.
abbrev pub told_of : Line → Told
told_of (Bind label name) = Nothing
told_of (Print call) = Values
told_of (Silent call) = Nothing
told_of (BindChunk label call) = Values
told_of (BindDatabase label call) = Values
told_of (Import label file) = Nothing
told_of (Export label) = Length

abbrev pub told_text : Told → Reply → List ℕ
told_text Nothing reply = []
told_text Values reply = values_text reply
told_text Length reply = length_text reply

-- the text after the name of a refusal: the fault of a bad file, and nothing for all other refusals
abbrev pub details_text : Refusal → List ℕ
details_text (BadFile fault) = codes " " ++ fault_text fault
details_text refusal = []

abbrev pub refusal_line : Refusal → List ℕ
refusal_line refusal = codes "refused " ++ decimal (number_of refusal) ++ codes " " ++ name_of refusal ++ details_text refusal ++ codes "\n"

abbrev pub reply_text : Told → Reply → List ℕ
reply_text told (Refused refusal) = refusal_line refusal
reply_text told reply = codes "ok" ++ told_text told reply ++ codes "\n"

abbrev pub reply_line : Line → Reply → List ℕ
reply_line line reply = reply_text (told_of line) reply

-- ---- what is exported

-- the file in a reply, if it has one
abbrev pub file_in : Reply → List (List ℕ)
file_in (Data bytes) = bytes ∷ []
file_in (Refused refusal) = []
file_in Done = []
file_in (Number number) = []
file_in (Named name) = []
file_in (Locked place count) = []
file_in (Database db) = []
file_in (Info info) = []
file_in (Made index name) = []
file_in (Record info) = []
file_in (Resource info) = []

-- the file that a line exports, if it exports one
abbrev pub exported : Line → Reply → List (List ℕ)
exported (Bind label name) reply = []
exported (Print call) reply = []
exported (Silent call) reply = []
exported (BindChunk label call) reply = []
exported (BindDatabase label call) reply = []
exported (Import label file) reply = []
exported (Export label) reply = file_in reply

-- ---- the run of lines

-- What a run is given: the fact that an allocation failed (`short`), and the files that its lines
-- import.
pub record Setting : Type 1 where
  pub short : Type 0
  pub inputs : List (List ℕ)

abbrev pub setting : Type 0 → List (List ℕ) → Setting
setting short inputs = record { short = short; inputs = inputs }

-- a region, and what the labels stand for
pub record Labelled : Type 0 where
  pub region : Region
  pub bound : Bindings

abbrev pub labelled : Region → Bindings → Labelled
labelled region bound = record { region = region; bound = bound }

-- The call of a line does its step, and moves only the chunks of `Moves`. Only a call on files can
-- run out of memory, and then memory was short.
pub record LineStep (given : Setting) (old : Labelled) (line : Line) (reply : Reply) (new : Region) : Type 0 where
  pub does : DoesInStore old.region (call_of given.inputs old.bound line) reply new
  pub moves : Moves old.region (call_of given.inputs old.bound line) new
  pub takes_no_memory : may_want_memory (call_of given.inputs old.bound line) ≡ false → reply ≢ Refused OutOfMemory
  pub no_memory : reply ≡ Refused OutOfMemory → given.short

-- The lines in their order, from a region and bindings. Each line is one call. Its reply line
-- follows the text of the lines before it, and the file that it exports follows their files. The
-- label that it binds is bound for the lines after it.
abbrev pub Lines : Setting → Labelled → List Line → (text : List ℕ) → (files : List (List ℕ)) → Labelled → Type 0
Lines given old [] text files new = (text ≡ []) × (files ≡ []) × (new.region ≡ old.region) × (new.bound ≡ old.bound)
Lines given old (line ∷ lines) text files new =
    (reply : Reply) × (mid : Region) × (rest : List ℕ) × (more : List (List ℕ))
    × LineStep given old line reply mid
    × (text ≡ reply_line line reply ++ rest)
    × (files ≡ exported line reply ++ more)
    × Lines given (labelled mid (bound_after old.bound line reply)) lines rest more new

-- One line: its call is done, its label is bound, and its reply line is written to a writer. If the
-- write succeeded, the result is the file that the line exports, if it exports one.
pub record DoesLine {W : Type 0} (given : Setting) (line : Line) (old new : Labelled) (out : Output W) (answer : Result (Option (List ℕ)) WriteFault) : Type 0 where
  pub reply : Reply
  pub step : LineStep given old line reply new.region
  pub binds : new.bound ≡ bound_after old.bound line reply
  pub written : Writes out.contents out.old out.new (reply_line line reply) (is_ok answer)
  pub file : IfOk answer (λ file. exported line reply ≡ option_to_list file)

-- All lines were run, and all of their text was written to a writer, which wasn't flushed. `files`
-- are the files that they export. A line ran out of memory only if memory was short.
pub record RunsThroughShort {W : Type 0} (given : Setting) (lines : List Line) (old new : Region) (out : Output W) (files : List (List ℕ)) : Type 0 where
  pub text : List ℕ
  pub after : Bindings
  pub ran : Lines given (labelled old unbound) lines text files (labelled new after)
  pub written : Writes out.contents out.old out.new text true

-- A write failed in the reply line of some line. The text of the lines before it was written, and a
-- prefix of that reply line. The writer wasn't flushed. The line's call was done, and no call after
-- it. A line ran out of memory only if memory was short.
pub record BreaksOffShort {W : Type 0} (given : Setting) (lines : List Line) (old new : Region) (out : Output W) : Type 0 where
  pub count : ℕ
  pub text : List ℕ
  pub files : List (List ℕ)
  pub mid : Region
  pub bound : Bindings
  pub before : Lines given (labelled old unbound) (take count lines) text files (labelled mid bound)
  pub line : Line
  pub found : slice_get lines count ≡ Some line
  pub reply : Reply
  pub step : LineStep given (labelled mid bound) line reply new
  pub written : ℕ
  pub within : written ≤ length (reply_line line reply)
  pub front : Appends (out.contents out.old.writer) (out.contents out.new.writer) (text ++ take written (reply_line line reply))
  pub fault : out.old.faults < out.new.faults
  pub unflushed : out.new.flushes ≡ out.old.flushes

-- the same without the statement about memory
abbrev pub RunsThrough : {W : Type 0} → (inputs : List (List ℕ)) → List Line → (old new : Region) → Output W → (files : List (List ℕ)) → Type 0
RunsThrough inputs lines old new out files = RunsThroughShort (setting (Unit {0}) inputs) lines old new out files

abbrev pub BreaksOff : {W : Type 0} → (inputs : List (List ℕ)) → List Line → (old new : Region) → Output W → Type 0
BreaksOff inputs lines old new out = BreaksOffShort (setting (Unit {0}) inputs) lines old new out
