-- Blocks that follow each other in a file are the blocks that are read from it.
use Rattle.std.proofs.Common.{◌≡◌, ℕ, zero, suc, ◌+◌, ◌-◌, ◌<◌, Option, Some, None, List, ◌∷◌, ◌++◌, length, get_or, take, drop, refl, sym, ap, ◌∙◌, append_assoc, arith, length-append}
use Rattle.std.specs.Prelude.{min, slice_range, slice_index}
use Rattle.std.specs.List.{fold}
use Rattle.std.proofs.lemmas.Grind.{flat_map-append}
use Rattle.std.proofs.lemmas.List.{take_at, drop_at, get_or_at, take-append-drop, length-take-le}
use Rattle.std.proofs.Math.Seq.{drop-cons}
use Rattle.std.proofs.lemmas.List.FromFn.{fill_by_all}
use Rattle.heap_model.specs.Lists.{numbered}
use Rattle.heap_model.specs.Files.{starts_behind, block_bytes, block_size, block_offset, offsets_in, block_end, block_at, blocks_in}
use Rattle.pdb_format.proofs.WrittenOffsets.{all_bytes, running, length-running, running-append, end_found}

some : List ℕ → Option (List ℕ)
some bytes = Some bytes

-- a block that begins after the file's start
pub block_there : (file : List ℕ) (rank at : ℕ) → 0 < at
    → block_at file rank at ≡ Some (slice_range file at (block_end file rank at))
block_there file rank zero low = absurd (omega arith)
block_there file rank (suc at) low = refl

-- a block is the slice between its offset and its end
between : (front before_bytes bytes after_bytes : List ℕ) (o : ℕ)
    → o ≡ length front + length before_bytes
    → slice_range (front ++ (before_bytes ++ (bytes ++ after_bytes))) o (o + length bytes) ≡ bytes
between front before bytes after o is =
    let e : o + length bytes - o ≡ length bytes = omega arith in
    let long = length-append front before in
    ap (λ (n : ℕ). take n (drop o (front ++ (before ++ (bytes ++ after))))) e
    ∙ ap (λ (xs : List ℕ). take (length bytes) (drop o xs))
    (sym (append_assoc front before (bytes ++ after)))
    ∙ ap (take (length bytes)) (drop_at (front ++ before) (bytes ++ after) o (omega arith))
    ∙ take_at bytes after (length bytes) refl

-- the bytes of all blocks, parted at one
parted : (before after : List (Option (List ℕ))) (block : Option (List ℕ))
    → all_bytes (before ++ block ∷ after)
    ≡ all_bytes before ++ (block_bytes block ++ all_bytes after)
parted before after block = flat_map-append block_bytes before (block ∷ after)

-- if the offsets of a file are those of the blocks after its prefix, a block is read back
offset_here : (at : ℕ) (before after : List (Option (List ℕ))) (block : Option (List ℕ))
    → get_or (running at (before ++ block ∷ after)) (length before) 0
    ≡ block_offset (at + length (all_bytes before)) block
offset_here at before after block =
    let o : ℕ = at + length (all_bytes before) in
    ap (λ (xs : List ℕ). get_or xs (length before) 0) (running-append at before (block ∷ after))
    ∙ get_or_at (running at before) (block_offset o block) (running (o + block_size block) after) 0
    (length before) (length-running at before)

read_back : (file front : List ℕ) (before after : List (Option (List ℕ))) (block : Option (List ℕ))
    → 0 < length front → file ≡ front ++ all_bytes (before ++ block ∷ after)
    → offsets_in file ≡ running (length front) (before ++ block ∷ after)
    → block_at file (length before) (block_offset (length front + length (all_bytes before)) block)
    ≡ block
unfolding some
read_back file front before after None low is offsets = refl
read_back file front before after (Some bytes) low is offsets =
    let o : ℕ = length front + length (all_bytes before) in
    let long = ap length is ∙ length-append front (all_bytes (before ++ Some bytes ∷ after)) in
    let end : block_end file (length before) o ≡ o + length bytes =
    ap (λ (xs : List ℕ). fold min (length file) (starts_behind xs (length before) o)) offsets
    ∙ end_found (length front) (length file) before after (Some bytes) low long in
    block_there file (length before) o (omega arith)
    ∙ ap (λ (n : ℕ). some (slice_range file o n)) end
    ∙ ap (λ (xs : List ℕ). some (slice_range xs o (o + length bytes)))
    (is ∙ ap (λ (xs : List ℕ). front ++ xs) (parted before after (Some bytes)))
    ∙ ap some (between front (all_bytes before) bytes (all_bytes after) o refl)

-- a list of blocks, parted at an index
parts_at : (blocks : List (Option (List ℕ))) (i : ℕ) (d : Option (List ℕ)) → i < length blocks
    → blocks ≡ take i blocks ++ get_or blocks i d ∷ drop (suc i) blocks
parts_at blocks i d inside =
    sym (take-append-drop i blocks)
    ∙ ap (λ (xs : List (Option (List ℕ))). take i blocks ++ xs) (drop-cons blocks i d inside)

read_at : (file front : List ℕ) (blocks : List (Option (List ℕ))) (i : ℕ) (d : Option (List ℕ))
    → 0 < length front → file ≡ front ++ all_bytes blocks
    → offsets_in file ≡ running (length front) blocks → i < length blocks
    → get_or blocks i d ≡ block_at file i (slice_index (offsets_in file) i)
read_at file front blocks i d low is offsets inside =
    let before : List (Option (List ℕ)) = take i blocks in
    let after : List (Option (List ℕ)) = drop (suc i) blocks in
    let block : Option (List ℕ) = get_or blocks i d in
    let parts = parts_at blocks i d inside in
    let rank : length before ≡ i = length-take-le i blocks (omega arith) in
    let there = offsets ∙ ap (running (length front)) parts in
    let here : slice_index (offsets_in file) (length before)
    ≡ block_offset (length front + length (all_bytes before)) block =
    ap (λ (xs : List ℕ). slice_index xs (length before)) there
    ∙ offset_here (length front) before after block in
    sym (ap (λ (k : ℕ). block_at file k (slice_index (offsets_in file) k)) (sym rank)
    ∙ ap (block_at file (length before)) here
    ∙ read_back file front before after block low
    (is ∙ ap (λ (xs : List (Option (List ℕ))). front ++ all_bytes xs) parts) there)

-- the blocks of a file with these offsets are these
pub blocks_read : (file front : List ℕ) (blocks : List (Option (List ℕ))) → 0 < length front
    → file ≡ front ++ all_bytes blocks → offsets_in file ≡ running (length front) blocks
    → blocks ≡ blocks_in file
blocks_read file front blocks low is offsets =
    let long = ap length offsets ∙ length-running (length front) blocks in
    fill_by_all (λ i. block_at file i (slice_index (offsets_in file) i)) blocks
    (length blocks) None refl (λ i below. read_at file front blocks i None low is offsets below)
    ∙ ap (numbered (λ i. block_at file i (slice_index (offsets_in file) i))) (sym long)
