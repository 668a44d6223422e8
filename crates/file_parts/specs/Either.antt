-- Folders of either form: of the canonical form of a file, or of a file as it stands.
use Rattle.std.specs.Prelude.{◌≡◌, ◌+◌, ℕ, List, length, slice_index_or, Option, Some, None, Result, Ok, Err}
use Rattle.heap_model.specs.Database.{Database, data_in}
use Rattle.heap_model.specs.Files.{Reads, blocks_in}
use Rattle.pdb_format.specs.FileTexts.{blocks_text}
use Rattle.pdb_format.specs.Writable.{file_size}
use Rattle.script_lines.specs.declared.fault.LineFault.{LineFault}
use Rattle.file_parts.specs.Texts.{database_text, with_names}
use Rattle.file_parts.specs.Unpacking.{IsPartOfRank, IsUnpacked, database_of}
use Rattle.file_parts.specs.Listed.{IsListed, database_listed}
use Rattle.file_parts.specs.Packing.{HasPartsOf, IsRefusedFor, database_of_parts}
use Rattle.file_parts.specs.Reading.{read_database}
use Rattle.file_parts.specs.Left.{Left}
use Rattle.file_parts.specs.Laws.{IsCanonicallyPacked, PacksBack}
use Rattle.file_parts.specs.Exact.{IsExactly, exact_size, exact_tail}
use Rattle.file_parts.specs.ExactTexts.{ExactText, exact_text, text_of_exact}
use Rattle.file_parts.specs.ExactReading.{read_exact, read_exact_from}
use Rattle.file_parts.specs.ExactListed.{HasExactParts, IsExactPackFault, IsExactlyPacked, IsListedExact, exact_listed, exact_packed, part_listed}
use Rattle.file_parts.specs.ExactLaws.{PacksBackExactly}
use Rattle.file_parts.specs.ExactUnpacking.{IsExactPart, IsUnpackedExact, exact_of, exact_part_at}
use Rattle.file_parts.specs.declared.either.FolderForm.{FolderForm}
use Rattle.file_parts.specs.declared.either.FolderForm.TheVariants as forms
use Rattle.file_parts.specs.declared.either.TakenApart.{TakenApart}
use Rattle.file_parts.specs.declared.either.TakenApart.TheVariants as taken
use Rattle.file_parts.specs.declared.either.ListedFolder.{ListedFolder}
use Rattle.file_parts.specs.declared.either.ListedFolder.TheVariants as listed
use Rattle.file_parts.specs.declared.packing.PackFault.{PackFault}
use Rattle.file_parts.specs.declared.unpacked.Part.{Part}

-- ---- a file that is taken apart

-- the form of its folder, and the file
abbrev pub form_taken : TakenApart → FolderForm
form_taken (taken.Canonical unpacked) = forms.Canonical
form_taken (taken.Exact unpacked) = forms.Exact

abbrev pub file_taken : TakenApart → List ℕ
file_taken (taken.Canonical unpacked) = unpacked.file
file_taken (taken.Exact unpacked) = unpacked.file

-- the file has at most `most_bytes` bytes; its records get their IDs, or its blocks are in their
-- order
abbrev pub IsTakenApart : TakenApart → Type 0
IsTakenApart (taken.Canonical unpacked) = IsUnpacked unpacked
IsTakenApart (taken.Exact unpacked) = IsUnpackedExact unpacked

-- what is read from the file: a database, or the file as it stands
abbrev pub ReadsFolder : TakenApart → Type 0
ReadsFolder (taken.Canonical unpacked) = Reads unpacked.file (database_of unpacked)
ReadsFolder (taken.Exact unpacked) = IsExactly unpacked.file (exact_of unpacked)

-- its folder is packed back
abbrev pub PacksFolderBack : TakenApart → Type 0
PacksFolderBack (taken.Canonical unpacked) = PacksBack (database_of unpacked)
PacksFolderBack (taken.Exact unpacked) = PacksBackExactly unpacked.file (exact_of unpacked)

-- the number of its parts, and each of them
abbrev pub taken_count : TakenApart → ℕ
taken_count (taken.Canonical unpacked) = length (blocks_in unpacked.file)
taken_count (taken.Exact unpacked) = length (blocks_in unpacked.file) + 1

abbrev pub taken_part : TakenApart → ℕ → Option (List ℕ)
taken_part (taken.Canonical unpacked) number = slice_index_or (blocks_in unpacked.file) number None
taken_part (taken.Exact unpacked) number = exact_part_at unpacked.file number

abbrev pub IsTakenPart : TakenApart → ℕ → Part → Type 0
IsTakenPart (taken.Canonical unpacked) number part = IsPartOfRank unpacked.file number part
IsTakenPart (taken.Exact unpacked) number part = IsExactPart unpacked.file number part

-- its text
abbrev pub IsTextOf : TakenApart → List ℕ → Type 0
IsTextOf (taken.Canonical unpacked) text = (database : Database (Option (List ℕ))) × Reads unpacked.file database × (text ≡ database_text (with_names database))
IsTextOf (taken.Exact unpacked) text = text ≡ exact_text (text_of_exact (exact_of unpacked))

-- ---- a text that is read

-- what the text says, after its first line if the folder is exact
abbrev pub IsExactlyRead : Left → ListedFolder → Type 0
IsExactlyRead rest (listed.Canonical database) = ⊥
IsExactlyRead rest (listed.Exact exact) = read_exact_from rest ≡ Ok (exact_listed exact)

abbrev pub IsCanonicallyRead : List ℕ → ListedFolder → Type 0
IsCanonicallyRead text (listed.Canonical database) = read_database text ≡ Ok (database_listed database)
IsCanonicallyRead text (listed.Exact exact) = ⊥

abbrev pub IsReadFrom : List ℕ → ListedFolder → Type 0
IsReadFrom text (listed.Canonical database) = (read_exact text ≡ None) × (read_database text ≡ Ok (database_listed database))
IsReadFrom text (listed.Exact exact) = read_exact text ≡ Some (Ok (exact_listed exact))

abbrev pub IsListedFolder : ListedFolder → Type 0
IsListedFolder (listed.Canonical database) = IsListed database
IsListedFolder (listed.Exact exact) = IsListedExact exact

-- the fault of a text: that of an exact folder if its first line begins with `exact`
abbrev pub IsFaultOf : Option (Result ExactText LineFault) → List ℕ → LineFault → Type 0
IsFaultOf None text fault = read_database text ≡ Err fault
IsFaultOf (Some said) text fault = said ≡ Err fault

abbrev pub IsFaultyText : List ℕ → LineFault → Type 0
IsFaultyText text fault = IsFaultOf (read_exact text) text fault

-- the number of its parts, and the name of each of them
abbrev pub folder_count : ListedFolder → ℕ
folder_count (listed.Canonical database) = length (data_in (database_listed database))
folder_count (listed.Exact exact) = length (data_in (database_listed exact.listed)) + 1

abbrev pub folder_part : ListedFolder → ℕ → Option (List ℕ)
folder_part (listed.Canonical database) number = slice_index_or (data_in (database_listed database)) number None
folder_part (listed.Exact exact) number = part_listed exact number

-- ---- the file that is put together

abbrev pub HasFolderParts : ListedFolder → List (List ℕ) → Type 0
HasFolderParts (listed.Canonical database) parts = HasPartsOf database parts
HasFolderParts (listed.Exact exact) parts = HasExactParts exact parts

-- the file: a canonical form that is read as the database of the parts, or exactly that of the parts
abbrev pub IsPackedOf : ListedFolder → List (List ℕ) → List ℕ → Type 0
IsPackedOf (listed.Canonical database) parts bytes = IsCanonicallyPacked (database_of_parts database parts) bytes
IsPackedOf (listed.Exact exact) parts bytes = IsExactlyPacked exact parts bytes

-- the bytes of the file after its head: the blocks, and in an exact file the filler before them
abbrev pub folder_tail : ListedFolder → List (List ℕ) → List ℕ
folder_tail (listed.Canonical database) parts = blocks_text (database_of_parts database parts)
folder_tail (listed.Exact exact) parts = exact_tail (exact_packed exact parts)

-- its size, and the reason why it isn't put together
abbrev pub folder_size : ListedFolder → List (List ℕ) → ℕ
folder_size (listed.Canonical database) parts = file_size (database_of_parts database parts)
folder_size (listed.Exact exact) parts = exact_size (exact_packed exact parts)

abbrev pub IsFolderPackFault : ListedFolder → List (List ℕ) → PackFault → Type 0
IsFolderPackFault (listed.Canonical database) parts fault = IsRefusedFor (file_size (database_of_parts database parts)) fault
IsFolderPackFault (listed.Exact exact) parts fault = IsExactPackFault exact parts fault
