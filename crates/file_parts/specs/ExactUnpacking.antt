-- The parts of a file that is taken apart as it stands, and the lines of its text.
use Rattle.std.specs.Prelude.{◌≡◌, ◌≤◌, ◌+◌, ◌*◌, ◌^◌, ◌==◌, nat_lt, filter, if◌then◌else◌, ℕ, List, length, drop, take, slice_index, slice_index_or, Option, Some, None}
use Rattle.heap_model.specs.Lists.{numbered}
use Rattle.heap_model.specs.DatabaseFields.{name_size}
use Rattle.heap_model.specs.Database.{entry_with, name_in}
use Rattle.heap_model.specs.Files.{HasNoFault, blocks_in, offsets_in}
use Rattle.pdb_format.specs.Filler.{filler_in}
use Rattle.canonical_file.specs.Canonical.{most_bytes}
use Rattle.file_parts.specs.Texts.{entry_line, entry_name, name_if_data}
use Rattle.file_parts.specs.Unpacking.{name_at, name_text}
use Rattle.file_parts.specs.Exact.{ExactFile, IsOrderOf, exact_entry, exact_in}
use Rattle.file_parts.specs.ExactTexts.{filler_line, filler_name, filler_named, name_field_line, order_lines, unless_rising, unless_zeros}
use Rattle.file_parts.specs.declared.exact_unpacked.UnpackedExact.{UnpackedExact}
use Rattle.file_parts.specs.declared.exact_unpacked.BlockStart.{BlockStart}
use Rattle.file_parts.specs.declared.unpacked.Part.{Part}

-- the file has at most `most_bytes` bytes and no fault, and these are the ranks of its blocks in
-- their order
pub record IsUnpackedExact (unpacked : UnpackedExact) : Type 0 where
  pub short : length unpacked.file ≤ most_bytes
  pub good : HasNoFault unpacked.file
  pub order : IsOrderOf (offsets_in unpacked.file) unpacked.ranks.items

-- the number by which a block is sorted, and the starts of the blocks that are there, by their ranks
abbrev pub block_order : BlockStart → ℕ
block_order start = start.at * 2 ^ 32 + start.rank

abbrev pub block_starts : List ℕ → List BlockStart
block_starts offsets = filter (λ start. nat_lt 0 start.at) (numbered (λ rank. record { at = slice_index offsets rank; rank = rank }) (length offsets))

-- the file as it stands
abbrev pub exact_of : UnpackedExact → ExactFile
exact_of unpacked = exact_in unpacked.file unpacked.ranks.items

-- ---- its parts

-- the filler, if it has bytes
abbrev pub filler_part : List ℕ → Option (List ℕ)
filler_part bytes = if length bytes == 0 then None else Some bytes

-- the bytes of the part of a rank; after the last rank, of the filler
abbrev pub exact_part_at : List ℕ → ℕ → Option (List ℕ)
exact_part_at file rank = if nat_lt rank (length (blocks_in file)) then slice_index_or (blocks_in file) rank None else filler_part (filler_in file)

-- the name of the part
abbrev pub exact_name_at : List ℕ → ℕ → List ℕ
exact_name_at file rank = if nat_lt rank (length (blocks_in file)) then name_at rank else filler_name

pub record IsExactPart (file : List ℕ) (rank : ℕ) (part : Part) : Type 0 where
  pub name : name_text part.name ≡ exact_name_at file rank
  pub bytes : Some part.bytes.now ≡ exact_part_at file rank

-- ---- the lines

-- the line with the bytes after the name, the line of the filler, and the lines `order`
abbrev pub after_name_text : List ℕ → List ℕ
after_name_text file = name_field_line (unless_zeros (drop (length (name_in file)) (take name_size file)))

abbrev pub filler_text : List ℕ → List ℕ
filler_text file = filler_line (filler_named (filler_in file))

abbrev pub order_text : List ℕ → List ℕ
order_text ranks = order_lines (unless_rising ranks)

-- the line of the entry at an index
abbrev pub exact_entry_line : List ℕ → ℕ → List ℕ
exact_entry_line file index = entry_line (entry_with (name_if_data (entry_name index)) (exact_entry file index))
