-- The blocks at their places in a source, one after the other, are those of the file.
use Rattle.std.proofs.Common.{◌≡◌, ℕ, ◌+◌, ◌<◌, Option, None, List, [], ◌∷◌, ◌++◌, length, get_or, drop, map, refl, sym, ap, subst, ◌∙◌, arith, add-one, drop-cons, length-append}
use Rattle.std.specs.Prelude.{All}
use Rattle.std.specs.List.{sum_by}
use Rattle.std.proofs.lemmas.List.Elements.{All-head, All-tail}
use Rattle.std.proofs.lemmas.List.Sums.{sum_by-cons}
use Rattle.heap_model.specs.Files.{block_bytes, blocks_in}
use Rattle.pdb_format.specs.Blocks.{bytes_at, places_in, IsBlockWithin, length_within}
use Rattle.pdb_format.specs.declared.blocks.Block.{Block}
use Rattle.pdb_format.proofs.FileBlocks.{block_long}
use Rattle.pdb_format.proofs.WrittenOffsets.{all_bytes}
use Rattle.pdb_format.specs.Opened.{HasPlaces}
use Rattle.canonical_file.specs.Canonical.{blocks_at, HasBlocksOf}

blocks_from : (source : List ℕ) (blocks : List (Option Block)) (i : ℕ) → i < length blocks
    → blocks_at source (drop i blocks)
    ≡ block_bytes (bytes_at source (get_or blocks i None)) ++ blocks_at source (drop (i + 1) blocks)
blocks_from source blocks i inside = rw (add-one, drop-cons blocks i None) refl

-- the block of an index, and those after it
pub block_here : (source : List ℕ) (blocks : List (Option Block)) (i : ℕ) (bytes : List ℕ)
    → i < length blocks → bytes ≡ block_bytes (bytes_at source (get_or blocks i None))
    → blocks_at source (drop i blocks) ≡ bytes ++ blocks_at source (drop (i + 1) blocks)
block_here source blocks i bytes inside is =
    blocks_from source blocks i inside
    ∙ ap (λ (xs : List ℕ). xs ++ blocks_at source (drop (i + 1) blocks)) (sym is)

all_long : (file : List ℕ) (blocks : List (Option Block)) → All (IsBlockWithin (length file)) blocks
    → length (all_bytes (map (bytes_at file) blocks)) ≡ sum_by length_within blocks
all_long file [] within = refl
all_long file (block ∷ blocks) within =
    let both = length-append (block_bytes (bytes_at file block))
    (all_bytes (map (bytes_at file) blocks)) in
    let one = block_long file block (All-head (IsBlockWithin (length file)) block blocks within) in
    let rest = all_long file blocks (All-tail (IsBlockWithin (length file)) block blocks within) in
    let sum = sum_by-cons length_within block blocks in
    omega arith

-- a source with the blocks of a file has all of them
pub blocks_are : (file source : List ℕ) (blocks : List (Option Block)) → HasPlaces file blocks
    → HasBlocksOf file source → blocks_at source blocks ≡ all_bytes (blocks_in file)
blocks_are file source blocks has same =
    ap (blocks_at source) has.places ∙ ap (λ (bs : List (Option (List ℕ))). all_bytes bs) same.are

-- a file has its own blocks
pub own_blocks : (file source : List ℕ) → source ≡ file → HasPlaces file (places_in file)
    → HasBlocksOf file source
own_blocks file source is has =
    subst (HasBlocksOf file) (sym is) (record { size = refl; are = has.are })

-- the blocks lie within a source of the size of the file
pub within_source : (file source : List ℕ) (blocks : List (Option Block)) → HasPlaces file blocks
    → HasBlocksOf file source → All (IsBlockWithin (length source)) blocks
within_source file source blocks has same = rw (← same.size) at has.within

-- how long they are together
pub blocks_long : (file : List ℕ) (blocks : List (Option Block)) → HasPlaces file blocks
    → length (all_bytes (blocks_in file)) ≡ sum_by length_within blocks
blocks_long file blocks has =
    ap (λ (bs : List (Option (List ℕ))). length (all_bytes bs)) (sym has.are)
    ∙ all_long file _ has.within
