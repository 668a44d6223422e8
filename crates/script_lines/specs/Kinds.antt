-- What the words of a line stand for, each by the kind that the command takes at its place.
use Rattle.std.specs.Prelude.{ℕ, ◌+◌, ◌^◌, if◌then◌else◌, List, [], ◌∷◌, ◌++◌, Option, Some, None, Result, Ok, Err}
use Rattle.std.specs.Option.{option_map, option_map_or}
use Rattle.script_lines.specs.declared.fault.ScriptFault.{ScriptFault}
use Rattle.script_lines.specs.declared.fault.ScriptFault.TheVariants.{WrongCount, BadWord}
use Rattle.script_commands.specs.declared.value.Kind.{Kind}
use Rattle.script_commands.specs.declared.value.Kind.TheVariants.{Chunk, Database, Byte, Short, Number, Flag, Which, Bytes, Text, FourBytes}
use Rattle.script_commands.specs.declared.value.Value.{Value}
use Rattle.script_commands.specs.declared.value.Value.TheVariants.{Chunk as ChunkValue, Database as DatabaseValue, Byte as ByteValue, Short as ShortValue, Number as NumberValue, Flag as FlagValue, Which as WhichValue, FourBytes as FourBytesValue}
use Rattle.script_lines.specs.Numbering.{Numberings, label_number, with_chunk_label, with_database_label}
use Rattle.script_lines.specs.Spellings.{is_label, number_below, spelled_bytes, spelled_text, spelled_flag, spelled_which, spelled_four}

-- The part of a line that was read so far: the values of its words, the bytes of its word of bytes
-- or text, and the labels that have appeared in the script. No line has two words of bytes or text.
pub record WordsRead : Type 0 where
  pub values : List Value
  pub bytes : List ℕ
  pub labels : Numberings

-- the same with one more value
abbrev pub with_value : WordsRead → Value → WordsRead
with_value read value = record {
  values = read.values ++ value ∷ [];
  bytes = read.bytes;
  labels = read.labels;
}

-- the same with the bytes of a word of bytes or text
abbrev pub with_word_bytes : WordsRead → List ℕ → WordsRead
with_word_bytes read bytes = record {
  values = read.values;
  bytes = bytes;
  labels = read.labels;
}

-- the same with one more label of a chunk
abbrev pub with_chunk : WordsRead → List ℕ → WordsRead
with_chunk read word = record {
  values = read.values ++ ChunkValue (record { 0 = label_number read.labels.chunks word }) ∷ [];
  bytes = read.bytes;
  labels = with_chunk_label read.labels word;
}

-- the same with one more label of a database
abbrev pub with_database : WordsRead → List ℕ → WordsRead
with_database read word = record {
  values = read.values ++ DatabaseValue (record { 0 = label_number read.labels.databases word }) ∷ [];
  bytes = read.bytes;
  labels = with_database_label read.labels word;
}

-- the same with one more word, if the word is of its kind
abbrev pub read_word : WordsRead → Kind → List ℕ → Option WordsRead
read_word read Chunk word = if is_label word then Some (with_chunk read word) else None
read_word read Database word = if is_label word then Some (with_database read word) else None
read_word read Byte word =
    option_map (λ byte. with_value read (ByteValue byte)) (number_below (2 ^ 8) word)
read_word read Short word =
    option_map (λ number. with_value read (ShortValue number)) (number_below (2 ^ 16) word)
read_word read Number word =
    option_map (λ number. with_value read (NumberValue number)) (number_below (2 ^ 32) word)
read_word read Flag word = option_map (λ is_set. with_value read (FlagValue is_set)) (spelled_flag word)
read_word read Which word = option_map (λ which. with_value read (WhichValue which)) (spelled_which word)
read_word read FourBytes word =
    option_map (λ number. with_value read (FourBytesValue number)) (spelled_four word)
read_word read Bytes word = option_map (with_word_bytes read) (spelled_bytes word)
read_word read Text word = option_map (with_word_bytes read) (spelled_text word)

-- The same with more words, the first of which is word `number` of its line. The fault is the first
-- word that isn't of its kind.
abbrev pub read_words : ℕ → WordsRead → List Kind → List (List ℕ) → Result WordsRead ScriptFault
read_words number read [] words = Ok read
read_words number read (kind ∷ kinds) [] = Err WrongCount
read_words number read (kind ∷ kinds) (word ∷ words) =
    option_map_or (λ after. read_words (number + 1) after kinds words)
    (read_word read kind word)
    (Err (BadWord number))
