-- The reader of the text of an exact folder. It returns what the text says, or a faulty line.
use Rattle.std.specs.Prelude.{◌+◌, ◌==◌, ◌&&◌, ◌||◌, ◌^◌, ◌++◌, nat_lt, if◌then◌else◌, ℕ, zero, suc, Bool, true, false, List, [], ◌∷◌, length, map, codes, Option, Some, None, Result, Ok, Err, slice_index, option_map}
use Rattle.std.specs.Option.{option_and_then, option_map_or}
use Rattle.std.specs.Str.{bytes_eq}
use Rattle.std.specs.Str.Lines.{lines}
use Rattle.heap_model.specs.DatabaseFields.{name_size}
use Rattle.heap_model.specs.Database.{Database, data_in}
use Rattle.script_commands.specs.LentBytes.{hex_bytes}
use Rattle.script_lines.specs.Words.{words_of}
use Rattle.script_lines.specs.Spellings.{number_below}
use Rattle.script_lines.specs.declared.fault.LineFault.{LineFault}
use Rattle.script_lines.specs.declared.fault.ScriptFault.{ScriptFault}
use Rattle.script_lines.specs.declared.fault.ScriptFault.TheVariants.{WrongCount, BadWord}
use Rattle.file_parts.specs.Left.{Left, left}
use Rattle.file_parts.specs.Words.{only_word, spelled_part, words_after}
use Rattle.file_parts.specs.Reading.{Read, next_of, fault_in, then_read, field, read_database_from}
use Rattle.file_parts.specs.ExactTexts.{ExactText, is_other}
use Rattle.file_parts.specs.declared.exact_lines.OrderLine.{OrderLine}
use Rattle.file_parts.specs.declared.exact_lines.AfterName.{AfterName}
use Rattle.file_parts.specs.declared.exact_lines.ExactLines.{ExactLines}

-- ---- lines that may be left out

-- the words after the first one, if a line begins with the right word, and the lines after it
abbrev pub words_and : Left → Result (List (List ℕ)) ScriptFault → Option (List (List ℕ) × Left)
words_and after (Err fault) = None
words_and after (Ok words) = Some (words, after)

abbrev pub words_if : List ℕ → Left → Option (List (List ℕ) × Left)
words_if word rest = option_and_then (λ next. words_and next.1 (words_after word (words_of next.0))) (next_of rest.number rest.texts)

-- the only word after the first one
abbrev pub only_word_at : Left → Result (List ℕ) ScriptFault → Read (Option (List ℕ))
only_word_at after (Err fault) = Err (fault_in after.number fault)
only_word_at after (Ok word) = Ok (Some word, after)

-- the second and last word of the next line, if that begins with this word; otherwise nothing is read
abbrev pub word_if : List ℕ → Left → Read (Option (List ℕ))
word_if word rest = option_map_or (λ both. only_word_at both.1 (only_word (Ok both.0))) (words_if word rest) (Ok (None, rest))

-- the value that the word spells, if there is one
abbrev pub value_if : {A : Type 0} → (ℕ → List ℕ → Option A) → Option (List ℕ) → Left → Read (Option A)
value_if spelled None rest = Ok (None, rest)
value_if spelled (Some word) rest = option_map_or (λ value. Ok (Some value, rest)) (spelled rest.number word) (Err (fault_in rest.number (BadWord 2)))

abbrev pub optional_field : {A : Type 0} → List ℕ → (ℕ → List ℕ → Option A) → Left → Read (Option A)
optional_field word spelled rest = then_read (word_if word rest) (value_if spelled)

-- ---- the first line

-- there is no other word
abbrev pub no_words : Left → List (List ℕ) → Read Bool
no_words rest [] = Ok (true, rest)
no_words rest (word ∷ words) = Err (fault_in rest.number WrongCount)

-- whether the next line begins with `exact`: then it is read, and has no other word
abbrev pub read_exact_line : Left → Read Bool
read_exact_line rest = option_map_or (λ both. no_words both.1 both.0) (words_if (codes "exact") rest) (Ok (false, rest))

-- ---- the lines after it

-- the bytes of a word of hex digits: fewer than the field of a name has
abbrev pub fewer : List ℕ → Option (List ℕ)
fewer bytes = if nat_lt (length bytes) name_size then Some bytes else None

abbrev pub spelled_after_name : List ℕ → Option (List ℕ)
spelled_after_name word = option_and_then fewer (hex_bytes word)

abbrev pub read_after_name : Left → Read (Option AfterName)
read_after_name rest =
    optional_field (codes "namefield") (λ line word. option_map (λ bytes. record { bytes = bytes; line = line }) (spelled_after_name word)) rest

-- the rank of a word
abbrev pub spelled_rank : List ℕ → Option ℕ
spelled_rank word =
    if bytes_eq word (codes "app") then Some 0
    else if bytes_eq word (codes "sort") then Some 1
    else option_map (λ index. 2 + index) (number_below (2 ^ 16) word)

abbrev pub read_order_line : Left → Read (Option OrderLine)
read_order_line rest =
    optional_field (codes "order") (λ line word. option_map (λ rank. record { rank = rank; line = line }) (spelled_rank word)) rest

-- The lines `order`, after those before them. There are at most as many as the text has lines,
-- which is the first number here.
abbrev pub next_order : (List OrderLine → Left → Read (List OrderLine)) → List OrderLine → Option OrderLine → Left → Read (List OrderLine)
next_order go_on front None rest = Ok (front, rest)
next_order go_on front (Some line) rest = go_on (front ++ line ∷ []) rest

abbrev pub read_order : ℕ → List OrderLine → Left → Read (List OrderLine)
read_order zero front rest = Ok (front, rest)
read_order (suc most) front rest = then_read (read_order_line rest) (next_order (read_order most) front)

-- all of them
pub record ExactHead : Type 0 where
  pub after_name : Option AfterName
  pub filler : Option (List ℕ)
  pub order : List OrderLine

abbrev pub head_of : ExactLines → ExactHead
head_of lines = record { after_name = lines.after_name; filler = lines.filler; order = lines.order.items }

abbrev pub read_exact_head : Left → Read ExactHead
read_exact_head rest =
    then_read (read_after_name rest) (λ after_name rest.
    then_read (field (codes "filler") spelled_part rest) (λ filler rest.
    then_read (read_order (length rest.texts) [] rest) (λ order rest.
    Ok (record { after_name = after_name; filler = filler; order = order }, rest))))

-- ---- faults that depend on later lines

-- The bytes after the name are as many as its field has left, and begin with a zero if there are
-- two or more.
abbrev pub is_after_name : List ℕ → List ℕ → Bool
is_after_name name after = (length after + length name == name_size) && ((length after == 1) || (slice_index after 0 == 0))

abbrev pub after_name_fault : List ℕ → Option AfterName → Option LineFault
after_name_fault name None = None
after_name_fault name (Some after) = if is_after_name name after.bytes then None else Some (fault_in after.line (BadWord 2))

-- The first faulty line `order`, after lines with these ranks: there is no block of its rank, or a
-- line before it has the same rank.
abbrev pub order_fault : List (Option (List ℕ)) → List ℕ → List OrderLine → Option LineFault
order_fault blocks front [] = None
order_fault blocks front (line ∷ lines) =
    if is_other blocks front line.rank then order_fault blocks (front ++ line.rank ∷ []) lines
    else Some (fault_in line.line (BadWord 2))

abbrev pub or_fault : Option LineFault → Result ExactText LineFault → Result ExactText LineFault
or_fault None text = text
or_fault (Some fault) text = Err fault

abbrev pub said_by : ExactHead → Database (Option (List ℕ)) → ExactText
said_by head database = record {
  database = database;
  after_name = option_map (λ after. after.bytes) head.after_name;
  filler = head.filler;
  order = map (λ line. line.rank) head.order;
}

abbrev pub exact_with : ExactHead → Result (Database (Option (List ℕ))) LineFault → Result ExactText LineFault
exact_with head (Err fault) = Err fault
exact_with head (Ok database) =
    or_fault (after_name_fault database.header.name head.after_name)
    (or_fault (order_fault (data_in database) [] head.order)
    (Ok (said_by head database)))

-- ---- all of it

abbrev pub unless_head : Read ExactHead → Result ExactText LineFault
unless_head (Err fault) = Err fault
unless_head (Ok both) = exact_with both.0 (read_database_from both.1)

-- what a text of an exact folder says after its first line, or its first faulty line
abbrev pub read_exact_from : Left → Result ExactText LineFault
read_exact_from rest = unless_head (read_exact_head rest)

abbrev pub if_exact : Read Bool → Option (Result ExactText LineFault)
if_exact (Err fault) = Some (Err fault)
if_exact (Ok both) = if both.0 then Some (read_exact_from both.1) else None

-- what a text says if its first line begins with `exact`
unfoldable pub read_exact : List ℕ → Option (Result ExactText LineFault)
read_exact text = if_exact (read_exact_line (left 0 (lines text)))
