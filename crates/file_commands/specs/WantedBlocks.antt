-- The block of a file that `get` is asked for: the words that ask for it, its bytes, and why there
-- is none.
use Rattle.std.specs.Prelude.{◌≡◌, ◌⊎◌, ◌<◌, ◌≤◌, ◌+◌, ◌^◌, ◌==◌, ℕ, true, false, if◌then◌else◌, List, length, codes, slice_index_or, Option, Some, None, Result, IfOk, IfErr}
use Rattle.std.specs.Option.{option_and_then}
use Rattle.std.specs.Str.{bytes_eq}
use Rattle.heap_model.specs.Bytes.{u32_at}
use Rattle.heap_model.specs.Database.{resources_in, entry_count_in, entry_in}
use Rattle.heap_model.specs.Files.{blocks_in}
use Rattle.heap_model.specs.ResourceSteps.{HasTypeAndId}
use Rattle.heap_model.specs.declared.names.Which.{Which}
use Rattle.heap_model.specs.declared.names.Which.TheVariants.{App, Sort}
use Rattle.heap_model.specs.declared.refusal.Refusal.{Refusal}
use Rattle.heap_model.specs.declared.refusal.Refusal.TheVariants.{NotResourceDatabase, IndexOutOfRange, RecordDeleted, ResourceNotFound, NoInfoBlock}
use Rattle.file_parts.specs.Replacing.{has_block_of_rank}
use Rattle.script_lines.specs.Spellings.{number_below, spelled_four}
use Rattle.file_commands.specs.declared.block_words.WantedBlock.{WantedBlock}
use Rattle.file_commands.specs.declared.block_words.WantedBlock.TheVariants.{Info, Entry, Resource}

-- ---- the words

-- a type: its four bytes, or spelled as in scripts
abbrev pub spelled_plain_four : List ℕ → Option ℕ
spelled_plain_four word = if length word == 4 then Some (u32_at word 0) else spelled_four word

-- the block that one word asks for: an info block, or the data of the entry at an index
abbrev pub spelled_entry_or_info : List ℕ → Option WantedBlock
spelled_entry_or_info word =
    if bytes_eq word (codes "app") then Some (Info App)
    else if bytes_eq word (codes "sort") then Some (Info Sort)
    else option_and_then (λ index. Some (Entry index)) (number_below (2 ^ 32) word)

-- the block that one word asks for, or a type and an id
abbrev pub spelled_block : List ℕ → Option (List ℕ) → Option WantedBlock
spelled_block word None = spelled_entry_or_info word
spelled_block word (Some id) =
    option_and_then (λ kind. option_and_then (λ id. Some (Resource kind id)) (number_below (2 ^ 16) id)) (spelled_plain_four word)

-- ---- the block, in a file without fault

-- the rank of an info block; that of an entry's block is 2 more than its index
abbrev pub info_rank : Which → ℕ
info_rank App = 0
info_rank Sort = 1

-- the block of a rank
abbrev pub block_of_rank : List ℕ → ℕ → Option (List ℕ)
block_of_rank file rank = slice_index_or (blocks_in file) rank None

-- the entry at an index is the first resource of this type and id
pub record IsFirstResource (file : List ℕ) (kind id index : ℕ) : Type 0 where
  pub inside : index < entry_count_in file
  pub here : HasTypeAndId kind id (entry_in file index)
  pub earlier : (other : ℕ) → other < index → HasTypeAndId kind id (entry_in file other) → ⊥

-- no resource has this type and id
abbrev pub HasNoResource : List ℕ → ℕ → ℕ → Type 0
HasNoResource file kind id = (index : ℕ) → index < entry_count_in file → HasTypeAndId kind id (entry_in file index) → ⊥

-- the rank of the block that is asked for
abbrev pub IsWantedRank : List ℕ → WantedBlock → ℕ → Type 0
IsWantedRank file (Info which) rank = rank ≡ info_rank which
IsWantedRank file (Entry index) rank = rank ≡ 2 + index
IsWantedRank file (Resource kind id) rank = (index : ℕ) × IsFirstResource file kind id index × (rank ≡ 2 + index)

-- the block that is asked for has these bytes
abbrev pub IsWantedBlock : List ℕ → WantedBlock → List ℕ → Type 0
IsWantedBlock file wanted bytes = (rank : ℕ) × IsWantedRank file wanted rank × (block_of_rank file rank ≡ Some bytes)

-- The file doesn't have the block that is asked for, and this is the refusal:
-- - `NoInfoBlock`: it doesn't have the info block.
-- - `IndexOutOfRange`: it doesn't have that many entries.
-- - `RecordDeleted`: the record has no data.
-- - `NotResourceDatabase`: its entries are records, and a resource is asked for.
-- - `ResourceNotFound`: no resource has the type and the id.
abbrev pub LacksBlock : List ℕ → WantedBlock → Refusal → Type 0
LacksBlock file (Info which) refusal = (refusal ≡ NoInfoBlock) × (block_of_rank file (info_rank which) ≡ None)
LacksBlock file (Entry index) refusal =
    ((refusal ≡ IndexOutOfRange) × (entry_count_in file ≤ index))
    ⊎ ((refusal ≡ RecordDeleted) × (index < entry_count_in file) × (block_of_rank file (2 + index) ≡ None))
LacksBlock file (Resource kind id) refusal =
    ((refusal ≡ NotResourceDatabase) × (resources_in file ≡ false))
    ⊎ ((refusal ≡ ResourceNotFound) × (resources_in file ≡ true) × HasNoResource file kind id)

-- the rank of the block that is asked for was found, or the file doesn't have the block
pub record FindsRank (file : List ℕ) (wanted : WantedBlock) (result : Result ℕ Refusal) : Type 0 where
  pub rank : IfOk result (IsWantedRank file wanted)
  pub there : IfOk result (λ rank. has_block_of_rank file rank ≡ true)
  pub inside : IfOk result (λ rank. rank < 2 + entry_count_in file)
  pub lacks : IfErr result (LacksBlock file wanted)
