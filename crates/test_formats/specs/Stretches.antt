-- Images and chunks to try the definitions of compaction and resizing on.
use Rattle.std.specs.Prelude.{◌+◌, ◌++◌, ℕ, zero, suc, List, [], ◌∷◌, replicate}
use Rattle.heap_model.specs.Chunk.{Chunk, movable}
use Rattle.test_formats.specs.HeapImages.{words}

-- 128 bytes with 4 slots, of which the last is empty, and three chunks of 32 bytes whose bodies are
-- zero: what the slots hold, and the two words of each chunk
abbrev pub three_chunks : List ℕ → List ℕ → List ℕ → List ℕ → List ℕ
three_chunks slots first second third =
    words (0x50484931 ∷ 128 ∷ 0x00040000 ∷ 0 ∷ []) ++ words slots ++ words (0 ∷ [])
    ++ words first ++ replicate 24 0 ++ words second ++ replicate 24 0 ++ words third ++ replicate 24 0

-- a movable chunk of 24 zeros of owner 1, by its slot
abbrev pub chunk_of : ℕ → Chunk
chunk_of slot = movable (replicate 24 0) 0 1 slot

-- the same, locked once
abbrev pub locked_of : ℕ → Chunk
locked_of slot = movable (replicate 24 0) 1 1 slot

-- the same with `count` zeros
abbrev pub zeros_of : ℕ → ℕ → Chunk
zeros_of count slot = movable (replicate count 0) 0 1 slot

-- a chunk between two free ones
abbrev pub one_between : List ℕ
one_between = three_chunks (0 ∷ 0x48 ∷ 0 ∷ []) (0x80000020 ∷ 0 ∷ []) (0x20 ∷ 0x01FFFFEA ∷ []) (0x80000020 ∷ 0 ∷ [])

-- the same, with the chunk locked
abbrev pub locked_between : List ℕ
locked_between = three_chunks (0 ∷ 0x48 ∷ 0 ∷ []) (0x80000020 ∷ 0 ∷ []) (0x20 ∷ 0x11FFFFEA ∷ []) (0x80000020 ∷ 0 ∷ [])

-- the same, with the chunk first and the free bytes after it in two chunks
abbrev pub one_in_front : List ℕ
one_in_front = three_chunks (0 ∷ 0x28 ∷ 0 ∷ []) (0x20 ∷ 0x01FFFFFA ∷ []) (0x80000020 ∷ 0 ∷ []) (0x80000020 ∷ 0 ∷ [])

-- two chunks after a free one
abbrev pub two_behind : List ℕ
two_behind = three_chunks (0 ∷ 0x48 ∷ 0x68 ∷ []) (0x80000020 ∷ 0 ∷ []) (0x20 ∷ 0x01FFFFEA ∷ []) (0x20 ∷ 0x01FFFFDC ∷ [])

-- two chunks about a free one, the first of them locked
abbrev pub two_about : List ℕ
two_about = three_chunks (0x28 ∷ 0x68 ∷ 0 ∷ []) (0x20 ∷ 0x11FFFFF8 ∷ []) (0x80000020 ∷ 0 ∷ []) (0x20 ∷ 0x01FFFFDA ∷ [])

-- `count` numbers, from the given one on
abbrev pub numbers_from : ℕ → ℕ → List ℕ
numbers_from from zero = []
numbers_from from (suc count) = from ∷ numbers_from (from + 1) count

-- a chunk of 80 bytes after a free one of 8, over which it slides into its own bytes
abbrev pub behind_a_little : List ℕ
behind_a_little = words (0x50484931 ∷ 128 ∷ 0x00040000 ∷ 0 ∷ 0x30 ∷ 0 ∷ 0 ∷ 0 ∷ 0x80000008 ∷ 0 ∷ 0x58 ∷ 0x01FFFFF4 ∷ []) ++ numbers_from 0 80
