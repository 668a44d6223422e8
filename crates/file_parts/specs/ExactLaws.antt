-- The law of exact folders: `pack` after `unpack --exact` is the identity.
use Rattle.std.specs.Prelude.{◌≡◌, ◌≤◌, ◌++◌, ℕ, false, List, [], ◌∷◌, length, map, Some, Ok}
use Rattle.heap_model.specs.Bytes.{AreBytes}
use Rattle.heap_model.specs.Database.{data_in}
use Rattle.heap_model.specs.Files.{block_bytes}
use Rattle.canonical_file.specs.Canonical.{most_bytes}
use Rattle.file_parts.specs.Exact.{ExactFile, IsExactly, exact_bytes, exact_size, is_misplaced}
use Rattle.file_parts.specs.ExactTexts.{exact_of_parts, exact_text, text_of_exact}
use Rattle.file_parts.specs.ExactReading.{read_exact}
use Rattle.file_parts.specs.ExactListed.{HasExactParts, IsExactlyPacked, exact_packed}
use Rattle.file_parts.specs.declared.exact_listed.ListedExact.{ListedExact}

-- the parts of a file: its blocks by their ranks, and the filler
abbrev pub exact_parts : ExactFile → List (List ℕ)
exact_parts exact = map block_bytes (data_in exact.database) ++ exact.filler ∷ []

-- The bytes and the size are those of the file, and no block is misplaced.
pub record IsSpelledExactly (file : List ℕ) (exact : ExactFile) : Type 0 where
  pub bytes : exact_bytes exact ≡ file
  pub size : exact_size exact ≡ length file
  pub placed : (index : ℕ) → is_misplaced exact index ≡ false

-- The text of the file is read back. With the file's parts it makes the file again, byte for byte.
-- No block is misplaced, and the size is that of the file, so `pack` refuses it only if it would
-- refuse the size of the file itself.
pub record PacksBackExactly (file : List ℕ) (exact : ExactFile) : Type 0 where
  pub text : read_exact (exact_text (text_of_exact exact)) ≡ Some (Ok (text_of_exact exact))
  pub parts : exact_of_parts (text_of_exact exact) (exact_parts exact) ≡ exact
  pub spelled : IsSpelledExactly file exact

-- a file without fault is the bytes of what it is exactly, and has no misplaced block
abbrev pub ExactFilesAreSpelled : Type 0
ExactFilesAreSpelled = (file : List ℕ) (exact : ExactFile) → AreBytes file → IsExactly file exact → IsSpelledExactly file exact

-- the text of what a file is exactly is read back
abbrev pub ExactTextsAreRead : Type 0
ExactTextsAreRead = (file : List ℕ) (exact : ExactFile) → AreBytes file → IsExactly file exact → read_exact (exact_text (text_of_exact exact)) ≡ Some (Ok (text_of_exact exact))

-- each file without fault is packed back
abbrev pub ExactFoldersPackBack : Type 0
ExactFoldersPackBack = (file : List ℕ) (exact : ExactFile) → AreBytes file → IsExactly file exact → PacksBackExactly file exact

-- The file that is put together from an exact folder is read as exactly that of the folder. The text
-- may be any that is read, and the parts any bytes, so this also holds of a folder that was edited.
abbrev pub PackedFoldersAreExact : Type 0
PackedFoldersAreExact = (exact : ListedExact) (parts : List (List ℕ)) (bytes : List ℕ) → HasExactParts exact parts → IsExactlyPacked exact parts bytes → exact_size (exact_packed exact parts) ≤ most_bytes → IsExactly bytes (exact_packed exact parts)
