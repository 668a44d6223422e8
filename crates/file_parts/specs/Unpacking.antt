-- The parts of a file that is taken apart.
use Rattle.std.specs.Prelude.{◌≡◌, ◌≤◌, ℕ, List, length, zero, suc, slice_index_or, Option, Some, None, codes}
use Rattle.heap_model.specs.Database.{Database, entry_with}
use Rattle.heap_model.specs.Files.{HasNoFault, IsFirstFault, blocks_in}
use Rattle.pdb_format.specs.ReadFiles.{database_read, entry_read_at}
use Rattle.canonical_file.specs.Canonical.{GetsIds, most_bytes}
use Rattle.file_parts.specs.Texts.{app_name, sort_name, entry_name, entry_line, name_if_data}
use Rattle.file_parts.specs.declared.unpacked.Unpacked.{Unpacked}
use Rattle.file_parts.specs.declared.unpacked.Part.{Part}
use Rattle.file_parts.specs.declared.unpacked.PartName.{PartName}
use Rattle.file_parts.specs.declared.unpacked.PartName.TheVariants.{App, Sort, Entry, Filler}
use Rattle.file_parts.specs.declared.unpacked.UnpackFault.{UnpackFault}
use Rattle.file_parts.specs.declared.unpacked.UnpackFault.TheVariants.{BadFile, OutOfMemory}

-- the file has at most `most_bytes` bytes, and its records get these IDs
pub record IsUnpacked (unpacked : Unpacked) : Type 0 where
  pub short : length unpacked.file ≤ most_bytes
  pub ids : GetsIds unpacked.file unpacked.given

-- the database that is read from the file
abbrev pub database_of : Unpacked → Database (Option (List ℕ))
database_of unpacked = database_read unpacked.file unpacked.given.ids.items unpacked.given.seed

-- the text of a name
abbrev pub name_text : PartName → List ℕ
name_text App = app_name
name_text Sort = sort_name
name_text (Entry index) = entry_name index
name_text Filler = codes "filler"

-- the name of the part of a rank: 0 for the AppInfo block, 1 for the SortInfo block, and 2 more
-- than its index for the data of an entry
abbrev pub name_at : ℕ → List ℕ
name_at zero = app_name
name_at (suc zero) = sort_name
name_at (suc (suc index)) = entry_name index

-- the part of a rank: its name, and the block
pub record IsPartOfRank (file : List ℕ) (rank : ℕ) (part : Part) : Type 0 where
  pub name : name_text part.name ≡ name_at rank
  pub block : Some part.bytes.now ≡ slice_index_or (blocks_in file) rank None

-- the reason why a file is not taken apart
abbrev pub IsUnpackFault : List ℕ → UnpackFault → Type 0
IsUnpackFault file (BadFile fault) = IsFirstFault file fault
IsUnpackFault file OutOfMemory = HasNoFault file

-- the line of the entry at an index, as it is read, if these are the IDs of the file's records
abbrev pub line_at : List ℕ → List ℕ → ℕ → List ℕ
line_at file ids index = entry_line (entry_with (name_if_data (entry_name index)) (entry_read_at file ids index))
