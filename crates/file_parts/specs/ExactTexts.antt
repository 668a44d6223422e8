-- The text of an exact folder: lines for what only such a folder has, and then the text of the
-- database.
--
--     exact
--     namefield 0041..          the bytes after the name, only if one isn't zero
--     filler filler             the part with the bytes before the first block, or `none`
--     order 7                   only if the blocks are not in list order
--     order app
--     name "MemoDB"
--     ..
use Rattle.std.specs.Prelude.{◌-◌, ◌==◌, ◌&&◌, ◌++◌, nat_le, if◌then◌else◌, ℕ, Bool, true, List, [], ◌∷◌, length, replicate, filter, codes, decimal, Option, Some, None, slice_index_or, is_some}
use Rattle.std.specs.List.{flat_map, list_all, range_with_len}
use Rattle.std.specs.Option.{option_map_or}
use Rattle.hex.specs.Hex.{encode_lower}
use Rattle.heap_model.specs.Lists.{times}
use Rattle.heap_model.specs.DatabaseFields.{name_size}
use Rattle.heap_model.specs.Database.{Database, data_in}
use Rattle.file_parts.specs.Texts.{database_text, part_text, with_names}
use Rattle.file_parts.specs.Packing.{part_at, with_parts}
use Rattle.file_parts.specs.Exact.{ExactFile}

-- ---- what a text says

-- The database with names of parts, the bytes after its name, if the text has them, the part of the
-- filler, if there is one, and the ranks of the `order` lines.
pub record ExactText : Type 0 where
  pub database : Database (Option (List ℕ))
  pub after_name : Option (List ℕ)
  pub filler : Option (List ℕ)
  pub order : List ℕ

-- the name of the part of the filler
abbrev pub filler_name : List ℕ
filler_name = codes "filler"

-- ---- its lines

-- a rank as the word of an `order` line
abbrev pub rank_word : ℕ → List ℕ
rank_word rank = if rank == 0 then codes "app" else if rank == 1 then codes "sort" else decimal (rank - 2)

-- an `order` line, and the lines of some ranks
abbrev pub order_line : ℕ → List ℕ
order_line rank = codes "order " ++ (rank_word rank ++ codes "\n")

abbrev pub order_lines : List ℕ → List ℕ
order_lines ranks = flat_map order_line ranks

-- the line with the bytes after the name
abbrev pub name_field_line : Option (List ℕ) → List ℕ
name_field_line None = []
name_field_line (Some bytes) = codes "namefield " ++ (encode_lower bytes ++ codes "\n")

-- the line of the filler
abbrev pub filler_line : Option (List ℕ) → List ℕ
filler_line part = codes "filler" ++ part_text part

-- the lines before those of the database
unfoldable pub exact_lines : ExactText → List ℕ
exact_lines text = codes "exact\n" ++ (name_field_line text.after_name ++ (filler_line text.filler ++ order_lines text.order))

-- the text
unfoldable pub exact_text : ExactText → List ℕ
exact_text text = exact_lines text ++ database_text text.database

-- ---- the text of a file

-- whether no rank is lower than the one before it
abbrev pub is_rising : List ℕ → Bool
is_rising [] = true
is_rising (rank ∷ []) = true
is_rising (rank ∷ next ∷ ranks) = nat_le rank next && is_rising (next ∷ ranks)

-- bytes, unless all of them are zero
abbrev pub unless_zeros : List ℕ → Option (List ℕ)
unless_zeros bytes = if list_all (λ byte. byte == 0) bytes then None else Some bytes

-- the name of the part of a filler, unless it has no bytes
abbrev pub filler_named : List ℕ → Option (List ℕ)
filler_named bytes = if length bytes == 0 then None else Some filler_name

-- ranks, unless they are in list order
abbrev pub unless_rising : List ℕ → List ℕ
unless_rising ranks = if is_rising ranks then [] else ranks

-- the text of a file as it stands, with the names that its parts get
abbrev pub text_of_exact : ExactFile → ExactText
text_of_exact exact = record {
  database = with_names exact.database;
  after_name = unless_zeros exact.after_name;
  filler = filler_named exact.filler;
  order = unless_rising exact.order;
}

-- ---- what a text and parts make

-- the bytes after a name: those of the text, or zeros
abbrev pub after_name_of : List ℕ → Option (List ℕ) → List ℕ
after_name_of name None = replicate (name_size - length name) 0
after_name_of name (Some bytes) = bytes

-- a block is there that isn't among these ranks
abbrev pub is_other : List (Option (List ℕ)) → List ℕ → ℕ → Bool
is_other blocks ranks rank = is_some (slice_index_or blocks rank None) && (times rank ranks == 0)

-- The ranks of the blocks that are there, in their order: first these, and then the others in list
-- order.
abbrev pub order_of : List (Option (List ℕ)) → List ℕ → List ℕ
order_of blocks ranks = ranks ++ filter (is_other blocks ranks) (range_with_len 0 (length blocks))

-- The file of a text, with these parts by their ranks. The part after the last rank is that of the
-- filler.
abbrev pub exact_of_parts : ExactText → List (List ℕ) → ExactFile
exact_of_parts text parts = record {
  database = with_parts parts text.database;
  after_name = after_name_of text.database.header.name text.after_name;
  filler = option_map_or (λ name. part_at parts (length (data_in text.database))) text.filler [];
  order = order_of (data_in text.database) text.order;
}
