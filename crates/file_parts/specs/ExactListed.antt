-- A file of an exact folder that was read from its text, and the file that is put together from it.
use Rattle.std.specs.Prelude.{◌≡◌, ◌<◌, ◌+◌, ◌==◌, ◌&&◌, nat_lt, is_some, ⊤, ℕ, Bool, true, false, List, [], length, map, filter, Option, None, slice_index, slice_index_or, if◌then◌else◌}
use Rattle.std.specs.List.{range_with_len}
use Rattle.heap_model.specs.Lists.{times}
use Rattle.heap_model.specs.Database.{data_in}
use Rattle.canonical_file.specs.Canonical.{most_bytes}
use Rattle.script_lines.specs.declared.fault.LineFault.{LineFault}
use Rattle.script_lines.specs.declared.fault.ScriptFault.TheVariants.{BadWord}
use Rattle.file_parts.specs.Listed.{IsListed, database_listed}
use Rattle.file_parts.specs.Reading.{fault_in}
use Rattle.file_parts.specs.Exact.{ExactFile, exact_bytes, exact_offset, exact_size, is_misplaced}
use Rattle.file_parts.specs.ExactTexts.{ExactText, exact_of_parts, order_of}
use Rattle.file_parts.specs.ExactReading.{after_name_fault, order_fault, head_of, said_by}
use Rattle.file_parts.specs.declared.exact_lines.OrderLine.{OrderLine}
use Rattle.file_parts.specs.declared.exact_listed.ListedExact.{ListedExact}
use Rattle.file_parts.specs.declared.packing.PackFault.{PackFault}
use Rattle.file_parts.specs.declared.packing.PackFault.TheVariants.{TooLarge, BadLine, OutOfMemory}

-- ---- the text

-- what the text says
abbrev pub exact_listed : ListedExact → ExactText
exact_listed exact = said_by (head_of exact.lines) (database_listed exact.listed)

-- the database is good, no line is faulty, and the ranks are in their order
pub record IsListedExact (exact : ListedExact) : Type 0 where
  pub good : IsListed exact.listed
  pub after_name : after_name_fault exact.listed.header.name exact.lines.after_name ≡ None
  pub order : order_fault (data_in (database_listed exact.listed)) [] exact.lines.order.items ≡ None
  pub ranks : exact.ranks.items ≡ order_of (data_in (database_listed exact.listed)) (map (λ line. line.rank) exact.lines.order.items)

-- the name of the part of a rank; after the last rank, of the filler
abbrev pub part_listed : ListedExact → ℕ → Option (List ℕ)
part_listed exact rank =
    if nat_lt rank (length (data_in (database_listed exact.listed)))
    then slice_index_or (data_in (database_listed exact.listed)) rank None
    else exact.lines.filler

-- ---- marks

-- there is a mark for each rank, and exactly these ranks have one
pub record AreMarked (count : ℕ) (ranks marks : List ℕ) : Type 0 where
  pub room : length marks ≡ count
  pub mark : (rank : ℕ) → rank < count → (slice_index marks rank == 0) ≡ (times rank ranks == 0)

-- a block is there that has no mark
abbrev pub is_free : List (Option (List ℕ)) → List ℕ → ℕ → Bool
is_free blocks marks rank = nat_lt rank (length marks) && (slice_index marks rank == 0) && is_some (slice_index_or blocks rank None)

-- the ranks of the blocks without a mark
abbrev pub free_ranks : List (Option (List ℕ)) → List ℕ → ℕ → List ℕ
free_ranks blocks marks count = filter (is_free blocks marks) (range_with_len 0 count)

-- ---- the file

-- The listed file is good. There is a part for each of its ranks, and one for the filler.
pub record HasExactParts (exact : ListedExact) (parts : List (List ℕ)) : Type 0 where
  pub good : IsListedExact exact
  pub count : length parts ≡ length (data_in (database_listed exact.listed)) + 1

-- the file with the bytes of the parts
abbrev pub exact_packed : ListedExact → List (List ℕ) → ExactFile
exact_packed exact parts = exact_of_parts (exact_listed exact) parts

-- the offsets of the blocks of the file, by their ranks
pub record AreOffsets (exact : ExactFile) (offsets : List ℕ) : Type 0 where
  pub count : length offsets ≡ length (data_in exact.database)
  pub each : (rank : ℕ) → rank < length offsets → slice_index offsets rank ≡ exact_offset exact rank

-- the fault of a line `order` whose block is misplaced
abbrev pub IsMisplacedFault : ListedExact → List (List ℕ) → LineFault → Type 0
IsMisplacedFault exact parts fault =
    (index : ℕ) × (line : OrderLine) × (index < length exact.lines.order.items)
    × (is_misplaced (exact_packed exact parts) index ≡ true)
    × (slice_index_or exact.lines.order.items index line ≡ line) × (fault ≡ fault_in line.line (BadWord 2))

abbrev pub IsMisplacedLine : ListedExact → List (List ℕ) → PackFault → Type 0
IsMisplacedLine exact parts TooLarge = ⊥
IsMisplacedLine exact parts (BadLine fault) = IsMisplacedFault exact parts fault
IsMisplacedLine exact parts OutOfMemory = ⊥

-- The bytes are those of the file with the bytes of the parts. No block of a line `order` is
-- misplaced, so the file is read with its blocks in this order.
pub record IsExactlyPacked (exact : ListedExact) (parts : List (List ℕ)) (bytes : List ℕ) : Type 0 where
  pub file : bytes ≡ exact_bytes (exact_packed exact parts)
  pub placed : (index : ℕ) → index < length exact.lines.order.items → is_misplaced (exact_packed exact parts) index ≡ false

-- the reason why no file is put together
abbrev pub IsExactPackFault : ListedExact → List (List ℕ) → PackFault → Type 0
IsExactPackFault exact parts TooLarge = most_bytes < exact_size (exact_packed exact parts)
IsExactPackFault exact parts (BadLine fault) = IsMisplacedFault exact parts fault
IsExactPackFault exact parts OutOfMemory = ⊤
