-- Blocks whose offsets rise follow each other, from the first of them up to the end of the file.
use Rattle.std.proofs.Common.{◌≡◌, ℕ, zero, suc, ◌+◌, ◌-◌, ◌<◌, ◌≤◌, Option, Some, None, List, [], ◌∷◌, ◌++◌, length, get_or, drop, map, refl, sym, ap, ◌∙◌, arith, length-drop}
use Rattle.std.specs.Prelude.{slice_range, slice_index}
use Rattle.std.specs.List.{range_with_len}
use Rattle.std.proofs.lemmas.List.{drop_all, drop-drop, get_or-drop, length-take, take-append-drop}
use Rattle.heap_model.specs.Files.{block_size, offsets_in, block_end, block_at, blocks_in}
use Rattle.pdb_format.proofs.WrittenBlocks.{block_there}
use Rattle.pdb_format.proofs.WrittenOffsets.{all_bytes, running}
use Rattle.canonical_file.specs.Changes.{AreRising}
use Rattle.canonical_file.proofs.Rising.{first_of, first_low, first_most, end_is}

-- these blocks, the first of which would be at an offset, have these offsets, and their bytes are
-- the rest of the file
pub record AreTiled (file : List ℕ) (start : ℕ) (blocks : List (Option (List ℕ)))
    (offsets : List ℕ) : Type 0 where
  pub stand : running start blocks ≡ offsets
  pub cover : all_bytes blocks ≡ drop start file

-- the block of a rank
abbrev pub block_of : List ℕ → ℕ → Option (List ℕ)
block_of file rank = block_at file rank (slice_index (offsets_in file) rank)

-- a block that isn't there
none_more : (file : List ℕ) (start : ℕ) (blocks : List (Option (List ℕ))) (offsets : List ℕ)
    (block : Option (List ℕ))
    → block ≡ None → AreTiled file start blocks offsets
    → AreTiled file start (block ∷ blocks) (0 ∷ offsets)
none_more file start blocks offsets None none tiled =
    let e : start + block_size None ≡ start = omega arith in
    record {
      stand = ap (λ (at : ℕ). 0 ∷ running at blocks) e ∙ ap (λ (xs : List ℕ). 0 ∷ xs) tiled.stand;
      cover = tiled.cover;
    }
none_more file start blocks offsets (Some bytes) none tiled = absurd cc

-- a block up to the offset of the next
some_more : (file : List ℕ) (at end : ℕ) (blocks : List (Option (List ℕ))) (offsets : List ℕ)
    (block : Option (List ℕ))
    → at ≤ end → end ≤ length file → block ≡ Some (slice_range file at end)
    → AreTiled file end blocks offsets
    → AreTiled file at (block ∷ blocks) (at ∷ offsets)
some_more file at end blocks offsets None low high is tiled = absurd cc
some_more file at end blocks offsets (Some bytes) low high is tiled =
    let bytes_are : bytes ≡ slice_range file at end = cc in
    let rest = length-drop at file in
    let taken = length-take (end - at) (drop at file) in
    let long : length bytes ≡ end - at = ap length bytes_are ∙ omega arith in
    let e : at + block_size (Some bytes) ≡ end = omega arith in
    let further : at + (end - at) ≡ end = omega arith in
    record {
      stand = ap (λ (n : ℕ). at ∷ running n blocks) e ∙ ap (λ (xs : List ℕ). at ∷ xs) tiled.stand;
      cover = ap (λ (xs : List ℕ). bytes ++ xs) tiled.cover
          ∙ ap (λ (xs : List ℕ). xs ++ drop end file) bytes_are
          ∙ ap (λ (n : ℕ). slice_range file at end ++ drop n file) (sym further)
          ∙ ap (λ (xs : List ℕ). slice_range file at end ++ xs) (sym (drop-drop (end - at) at file))
          ∙ take-append-drop (end - at) (drop at file);
    }

-- what is known of the offsets of a file, of which some are left from a rank on
pub record AreLeft (file : List ℕ) (rank : ℕ) (rest : List ℕ) : Type 0 where
  pub rising : AreRising 0 (offsets_in file)
  pub inside : (k : ℕ) → get_or (offsets_in file) k 0 ≤ length file
  pub left : drop rank (offsets_in file) ≡ rest

head_is : (rank o : ℕ) (os rest : List ℕ) → drop rank os ≡ o ∷ rest → get_or os rank 0 ≡ o
head_is rank o os rest left =
    let e : rank + 0 ≡ rank = omega arith in
    ap (λ (k : ℕ). get_or os k 0) (sym e) ∙ sym (get_or-drop rank os 0 0)
    ∙ ap (λ (xs : List ℕ). get_or xs 0 0) left

tail_is : (rank o : ℕ) (os rest : List ℕ) → drop rank os ≡ o ∷ rest → drop (rank + 1) os ≡ rest
tail_is rank o os rest left = sym (drop-drop 1 rank os) ∙ ap (drop 1) left

next_left : (file : List ℕ) (rank o : ℕ) (rest : List ℕ) → AreLeft file rank (o ∷ rest)
    → AreLeft file (rank + 1) rest
next_left file rank o rest left = record {
  rising = left.rising;
  inside = left.inside;
  left = tail_is rank o (offsets_in file) rest left.left;
}

rest_inside : (file : List ℕ) (rank : ℕ) (rest : List ℕ) → AreLeft file rank rest → (k : ℕ)
    → get_or rest k 0 ≤ length file
rest_inside file rank rest left = λ k.
    let is = ap (λ (xs : List ℕ). get_or xs k 0) (sym left.left)
    ∙ get_or-drop rank (offsets_in file) k 0 in
    let most = left.inside (rank + k) in
    omega arith

-- a block that is there
block_here : (file : List ℕ) (rank at : ℕ) (rest : List ℕ) → AreLeft file rank (at ∷ rest) → 0 < at
    → AreRising at rest
    → block_of file rank ≡ Some (slice_range file at (first_of (length file) rest))
block_here file rank at rest left some rising =
    let os : List ℕ = offsets_in file in
    let here = head_is rank at os rest left.left in
    let behind = tail_is rank at os rest left.left in
    let next = next_left file rank at rest left in
    let most = rest_inside file (rank + 1) rest next in
    let end : block_end file rank at ≡ first_of (length file) rest =
    end_is os rank at (length file) some here left.rising (rw behind rising)
    (λ k. rw behind (most k))
    ∙ ap (first_of (length file)) behind in
    ap (block_at file rank) here ∙ block_there file rank at some
    ∙ ap (λ (n : ℕ). some_bytes (slice_range file at n)) end where
      some_bytes : List ℕ → Option (List ℕ)
      some_bytes bytes = Some bytes

pub tiled_from : (file : List ℕ) (rank low : ℕ) (rest : List ℕ) → AreLeft file rank rest
    → AreRising low rest
    → AreTiled file (first_of (length file) rest) (map (block_of file) (range_with_len rank (length rest))) rest
tiled_from file rank low [] left rising =
    record { stand = refl; cover = sym (drop_all (length file) file (omega arith)) }
tiled_from file rank low (zero ∷ rest) left rising =
    none_more file (first_of (length file) rest)
    (map (block_of file) (range_with_len (rank + 1) (length rest))) rest (block_of file rank)
    (ap (block_at file rank) (head_is rank 0 (offsets_in file) rest left.left))
    (tiled_from file (rank + 1) low rest (next_left file rank 0 rest left) rising)
tiled_from file rank low (suc at ∷ rest) left rising =
    let next = next_left file rank (suc at) rest left in
    let within = rest_inside file rank (suc at ∷ rest) left 0 in
    let low_end = first_low (suc at) (length file) rest rising.1 (omega arith) in
    let high_end = first_most (length file) rest (rest_inside file (rank + 1) rest next) in
    some_more file (suc at) (first_of (length file) rest)
    (map (block_of file) (range_with_len (rank + 1) (length rest))) rest (block_of file rank)
    low_end high_end (block_here file rank (suc at) rest left (omega arith) rising.1)
    (tiled_from file (rank + 1) (suc at) rest next rising.1)

-- the blocks of a file
pub tiled : (file : List ℕ) → AreRising 0 (offsets_in file)
    → ((k : ℕ) → get_or (offsets_in file) k 0 ≤ length file)
    → AreTiled file (first_of (length file) (offsets_in file)) (blocks_in file) (offsets_in file)
tiled file rising inside =
    tiled_from file 0 0 _ (record { rising = rising; inside = inside; left = refl }) rising
