-- The places of the blocks of a file, for C.
use Rattle.palmheap_c.proofs.Words.{◌≡◌, ℕ, List, [], ◌∷◌, length, take, drop, refl, sym, ap, ◌∙◌, subst, arith, All, map, slice_index_or, slice_range, length-map, All-map, HasNoFault, blocks_in, IsBlockWithin, bytes_at, places_in, AreBlocks, IsInside, found, placed, Block}
use Rattle.std.proofs.Common.{Option, Some, None}
use Rattle.pdb_format.specs.declared.blocks.Block as files

-- the bytes at the places are those of the blocks
found_placed : (file : List ℕ) (blocks : List (Option files.Block))
    → map (found file) (map placed blocks) ≡ map (bytes_at file) blocks
found_placed file [] = refl
found_placed file (None ∷ blocks) =
    ap (λ (rest : List (Option (List ℕ))). None ∷ rest) (found_placed file blocks)
found_placed file (Some block ∷ blocks) =
    ap (λ (rest : List (Option (List ℕ))). Some (slice_range file block.start block.end) ∷ rest)
    (found_placed file blocks)

pub inside_placed : (size : ℕ) (block : Option files.Block) → IsBlockWithin size block
    → IsInside size (placed block)
inside_placed size None within = (omega arith, omega arith)
inside_placed size (Some block) within = within

-- blocks of a file that were copied to the start of an array
pub are_blocks : (file : List ℕ) (blocks : List (Option files.Block)) (old new : List Block)
    → HasNoFault file → blocks ≡ places_in file → map (bytes_at file) blocks ≡ blocks_in file
    → All (IsBlockWithin (length file)) blocks → take (length blocks) new ≡ map placed blocks
    → drop (length blocks) new ≡ drop (length blocks) old → AreBlocks file old new (length blocks)
are_blocks file blocks old new good places are inside copied others =
    let all : All (IsInside (length file)) (map placed blocks) =
    All-map (IsInside (length file)) placed blocks
    (λ k d below. inside_placed (length file) (slice_index_or blocks k d) (inside k d below)) in
    record {
      good = good;
      counted = sym (length-map blocks (bytes_at file)) ∙ ap length are;
      places = copied ∙ ap (map placed) places;
      are = ap (map (found file)) copied ∙ found_placed file blocks ∙ are;
      inside = subst (All (IsInside (length file))) (sym copied) all;
      others = others;
    }
