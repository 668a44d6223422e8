-- How many blocks a file has, and which block and which size is at a rank, from its offsets.
use Rattle.std.proofs.Common.{◌≡◌, ℕ, zero, suc, ◌+◌, ◌-◌, ◌<◌, ◌≤◌, Bool, true, false, Option, Some, None, List, length, get_or, drop, map, refl, sym, ap, subst, ◌∙◌, arith, length-drop, inl, inr}
use Rattle.std.specs.Prelude.{All, slice_range, slice_index}
use Rattle.std.proofs.lemmas.List.{length-map, length-take, get_or-map}
use Rattle.std.proofs.lemmas.List.FromFn.{length-map-range_with_len, get_or-map-range_with_len}
use Rattle.heap_model.specs.Database.{Entry, a_record, a_resource, entry_data, resources_in, entry_count_in, entry_offset, entry_in, is_deleted}
use Rattle.heap_model.specs.Files.{HasBadOffset, HasNoFault, offsets_in, block_at, block_size, blocks_in}
use Rattle.heap_model.specs.FileSteps.{size_of_block}
use Rattle.laws_heap.proofs.Tests.{true_or_false}
use Rattle.pdb_format.specs.Blocks.{bytes_at, IsBlockWithin, length_within, size_within}
use Rattle.pdb_format.specs.declared.blocks.Block.{Block}
use Rattle.pdb_format.proofs.GoodFiles.{offset_count, entry_offset_is, good_offset}

-- how many there are
pub block_count : (file : List ℕ) → length (blocks_in file) ≡ 2 + entry_count_in file
block_count file =
    length-map-range_with_len (λ rank. block_at file rank (slice_index (offsets_in file) rank)) 0
    (length (offsets_in file)) ∙ offset_count file

pub length-blocks : (file : List ℕ) (blocks : List (Option Block))
    → map (bytes_at file) blocks ≡ blocks_in file → length blocks ≡ 2 + entry_count_in file
length-blocks file blocks are =
    sym (length-map blocks (bytes_at file)) ∙ ap length are ∙ block_count file

-- the block of a rank, by its place
pub block_of : (file : List ℕ) (blocks : List (Option Block)) (rank : ℕ)
    → map (bytes_at file) blocks ≡ blocks_in file → rank < length blocks
    → bytes_at file (get_or blocks rank None) ≡ get_or (blocks_in file) rank None
block_of file blocks rank are inside =
    sym (get_or-map (bytes_at file) blocks rank None None inside)
    ∙ ap (λ (bs : List (Option (List ℕ))). get_or bs rank None) are

-- ---- how many bytes

-- how many bytes a block has
pub block_long : (file : List ℕ) (block : Option Block) → IsBlockWithin (length file) block
    → block_size (bytes_at file block) ≡ length_within block
block_long file None within = refl
block_long file (Some block) within =
    let first = within.0 in
    let last = within.1 in
    let rest = length-drop block.start file in
    let long = length-take (block.end - block.start) (drop block.start file) in
    let is : length (slice_range file block.start block.end) ≡ block.end - block.start =
    omega arith in
    is

pub size_is : (file : List ℕ) (block : Option Block) → IsBlockWithin (length file) block
    → size_within block ≡ size_of_block (bytes_at file block)
size_is file None within = refl
size_is file (Some block) within =
    ap (λ (n : ℕ). Some n) (sym (block_long file (Some block) within))

pub size_at : (file : List ℕ) (blocks : List (Option Block)) (rank : ℕ) (size : Option ℕ)
    → map (bytes_at file) blocks ≡ blocks_in file → All (IsBlockWithin (length file)) blocks
    → rank < length blocks → size ≡ size_within (get_or blocks rank None)
    → size ≡ size_of_block (get_or (blocks_in file) rank None)
size_at file blocks rank size are within inside is =
    is ∙ size_is file _ (within rank None inside)
    ∙ ap size_of_block (block_of file blocks rank are inside)

-- ---- blocks that are there

at_least_header : (resources : Bool) (count : ℕ) → 78 ≤ entry_offset resources count
at_least_header true count = omega arith
at_least_header false count = omega arith

none_at : (file : List ℕ) (rank at : ℕ) → size_of_block (block_at file rank at) ≡ None → at ≡ 0
none_at file rank zero none = refl
none_at file rank (suc at) none = absurd cc

-- if an entry has no block, its offset is 0
pub none_planned : (file : List ℕ) (index : ℕ) (entry : Entry ℕ) → index < entry_count_in file
    → entry ≡ entry_in file index → size_of_block (get_or (blocks_in file) (2 + index) None) ≡ None
    → entry_data entry ≡ 0
none_planned file index entry inside is none =
    let count = offset_count file in
    let next : suc (suc index) ≡ 2 + index = omega arith in
    let at : slice_index (offsets_in file) (2 + index) ≡ entry_data (entry_in file index) =
    ap (λ (rank : ℕ). get_or (offsets_in file) rank 0) (sym next)
    ∙ entry_offset_is file index inside in
    let block : get_or (blocks_in file) (2 + index) None
    ≡ block_at file (2 + index) (slice_index (offsets_in file) (2 + index)) =
    get_or-map-range_with_len (λ rank. block_at file rank (slice_index (offsets_in file) rank)) 0
    (length (offsets_in file)) (2 + index) (2 + index) None (omega arith) (omega arith) in
    ap (entry_data {Data = ℕ}) is ∙ sym at
    ∙ none_at file (2 + index) (slice_index (offsets_in file) (2 + index))
    (ap size_of_block (sym block) ∙ none)

-- a record has none only if it is deleted
pub record_block : (file : List ℕ) (index attributes id at : ℕ) → HasNoFault file
    → index < entry_count_in file → a_record attributes id at ≡ entry_in file index → at ≡ 0
    → is_deleted attributes ≡ true
record_block file index attributes id at good inside is none =
    elim (true_or_false (is_deleted attributes)) [
      | inl deleted ↦ deleted
      | inr live ↦
          let header = at_least_header (resources_in file) (entry_count_in file) in
          absurd (subst (λ (e : Entry ℕ). HasBadOffset file e → ⊥) (sym is)
          (good_offset file good index inside) (inr live, inl (omega arith)))
    ]

-- and a resource has one
pub resource_block : (file : List ℕ) (index kind id at : ℕ) → HasNoFault file
    → index < entry_count_in file → a_resource kind id at ≡ entry_in file index → at ≡ 0 → ⊥
resource_block file index kind id at good inside is none =
    let header = at_least_header (resources_in file) (entry_count_in file) in
    subst (λ (e : Entry ℕ). HasBadOffset file e → ⊥) (sym is) (good_offset file good index inside)
    (inl (omega arith))
