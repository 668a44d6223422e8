-- A file without fault that has the sound parts of a damaged file at the same offsets.
use Rattle.std.specs.Prelude.{◌≡◌, ◌++◌, min, ℕ, List, length, drop, slice_range}
use Rattle.heap_model.specs.DatabaseFields.{name_size, header_size}
use Rattle.heap_model.specs.Database.{name_field, name_in, spelled}
use Rattle.pdb_format.specs.FileStarts.{most_start}
use Rattle.canonical_file.specs.Salvage.{sound_in, sound_name}

-- the bytes of the header, with a name
abbrev pub named_header : List ℕ → List ℕ
named_header file = name_field (sound_name (name_in file)) ++ slice_range file name_size header_size

-- the header and the entries of the sound parts, and the bytes of the file from there on
unfoldable pub mended : List ℕ → List ℕ
mended file = spelled (sound_in file) ++ drop (length (spelled (sound_in file))) file

-- the first bytes of the mended file, at most `most_start`; its other bytes are those of the file
pub record StartsMended (file start : List ℕ) : Type 0 where
  pub size : length start ≡ min (length file) most_start
  pub is : mended file ≡ start ++ drop (length start) file
