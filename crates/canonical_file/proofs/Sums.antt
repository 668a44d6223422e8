-- The bytes and slots that a file needs in an image are sums over its blocks.
use Rattle.std.proofs.Common.{◌≡◌, ℕ, ◌+◌, ◌*◌, ◌≤◌, Bool, true, false, Option, Some, None, List, [], ◌∷◌, length, map, refl, sym, ap, ◌∙◌, arith}
use Rattle.std.specs.Prelude.{All}
use Rattle.std.specs.List.{sum_by}
use Rattle.std.proofs.lemmas.List.Elements.{All-head, All-tail}
use Rattle.std.proofs.lemmas.List.Sums.{sum_by-cons}
use Rattle.heap_model.specs.Chunk.{need}
use Rattle.heap_model.specs.Database.{entry_offset}
use Rattle.heap_model.specs.Files.{blocks_in, entries_end}
use Rattle.heap_model.specs.FileSteps.{size_of_block, block_sizes}
use Rattle.pdb_format.specs.Blocks.{bytes_at, IsBlockWithin, length_within, size_within}
use Rattle.pdb_format.specs.declared.blocks.Block.{Block}
use Rattle.pdb_format.proofs.FileBlocks.{size_is}
use Rattle.canonical_file.specs.Needs.{chunk_need, chunk_slots, file_bytes, file_slots}
use Rattle.canonical_file.specs.BlockNeeds.{block_need, block_slots}

-- ---- by the sizes of blocks

sums_by : (f : Option ℕ → ℕ) (file : List ℕ) (blocks : List (Option Block))
    → All (IsBlockWithin (length file)) blocks
    → sum_by f (map size_of_block (map (bytes_at file) blocks))
    ≡ sum_by (λ block. f (size_within block)) blocks
sums_by f file [] within = refl
sums_by f file (block ∷ blocks) within =
    let first = sum_by-cons f (size_of_block (bytes_at file block))
    (map size_of_block (map (bytes_at file) blocks)) in
    let one : f (size_within block) ≡ f (size_of_block (bytes_at file block)) =
    ap f (size_is file block (All-head (IsBlockWithin (length file)) block blocks within)) in
    let rest = sums_by f file blocks (All-tail (IsBlockWithin (length file)) block blocks within) in
    let all = sum_by-cons (λ (block : Option Block). f (size_within block)) block blocks in
    omega arith

-- the needs of the database of a file, by the places of its blocks
pub bytes_are : (file : List ℕ) (blocks : List (Option Block))
    → map (bytes_at file) blocks ≡ blocks_in file → All (IsBlockWithin (length file)) blocks
    → file_bytes file ≡ need (entries_end file) + sum_by block_need blocks
bytes_are file blocks are within =
    let first = sum_by-cons chunk_need (Some (entries_end file)) (block_sizes file) in
    let rest : sum_by chunk_need (block_sizes file) ≡ sum_by block_need blocks =
    ap (λ (bs : List (Option (List ℕ))). sum_by chunk_need (map size_of_block bs)) (sym are)
    ∙ sums_by chunk_need file _ within in
    first ∙ ap (λ (n : ℕ). need (entries_end file) + n) rest

pub slots_are : (file : List ℕ) (blocks : List (Option Block))
    → map (bytes_at file) blocks ≡ blocks_in file → All (IsBlockWithin (length file)) blocks
    → file_slots file ≡ 1 + sum_by block_slots blocks
slots_are file blocks are within =
    let first = sum_by-cons chunk_slots (Some (entries_end file)) (block_sizes file) in
    let rest : sum_by chunk_slots (block_sizes file) ≡ sum_by block_slots blocks =
    ap (λ (bs : List (Option (List ℕ))). sum_by chunk_slots (map size_of_block bs)) (sym are)
    ∙ sums_by chunk_slots file _ within in
    first ∙ ap (λ (n : ℕ). 1 + n) rest

-- ---- how large they may be

need_at_most : (block : Option Block) → block_need block ≤ length_within block + 15
need_at_most None = omega arith
need_at_most (Some block) = omega arith

slot_at_most : (block : Option Block) → block_slots block ≤ 1
slot_at_most None = omega arith
slot_at_most (Some block) = omega arith

pub needs_at_most : (blocks : List (Option Block))
    → sum_by block_need blocks ≤ sum_by length_within blocks + 15 * length blocks
needs_at_most [] = omega arith
needs_at_most (block ∷ blocks) =
    let one = need_at_most block in
    let rest = needs_at_most blocks in
    let needs = sum_by-cons block_need block blocks in
    let lengths = sum_by-cons length_within block blocks in
    omega arith

pub slots_at_most : (blocks : List (Option Block)) → sum_by block_slots blocks ≤ length blocks
slots_at_most [] = omega arith
slots_at_most (block ∷ blocks) =
    let one = slot_at_most block in
    let rest = slots_at_most blocks in
    let slots = sum_by-cons block_slots block blocks in
    omega arith

pub end_at_most : (resources : Bool) (count : ℕ) → entry_offset resources count ≤ 78 + 10 * count
end_at_most true count = omega arith
end_at_most false count = omega arith
