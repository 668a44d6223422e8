-- Images to try on what calls may move: one heap, and what may have become of it.
use Rattle.std.specs.Prelude.{◌++◌, ℕ, List, [], ◌∷◌, replicate}
use Rattle.heap_model.specs.Chunk.{Chunk, free, movable}
use Rattle.test_formats.specs.HeapImages.{words}
use Rattle.test_formats.specs.Stretches.{zeros_of}

-- chunks with 8 bytes of zeros each, by their two words; two words that are zero are 16 bytes more
-- of the chunk before them
abbrev pub with_bodies : List ℕ → List ℕ
with_bodies [] = []
with_bodies (first ∷ []) = words (first ∷ [])
with_bodies (first ∷ second ∷ chunks) = words (first ∷ second ∷ 0 ∷ 0 ∷ []) ++ with_bodies chunks

-- 128 bytes with 4 slots: what these hold, and the words of the chunks
abbrev pub heap_of : List ℕ → List ℕ → List ℕ
heap_of slots chunks = words (0x50484931 ∷ 128 ∷ 0x00040000 ∷ 0 ∷ []) ++ words slots ++ with_bodies chunks

-- | free 16 | a | b | c locked | free 16 | d |, where the slots of a to d are those at 16 to 28
abbrev pub scattered : List ℕ
scattered =
    heap_of (0x38 ∷ 0x48 ∷ 0x58 ∷ 0x78 ∷ [])
    (0x80000010 ∷ 0 ∷ 0x10 ∷ 0x01FFFFF0 ∷ 0x10 ∷ 0x01FFFFEA ∷ 0x10 ∷ 0x11FFFFE4 ∷ 0x80000010 ∷ 0 ∷ 0x10 ∷ 0x01FFFFD6 ∷ [])

-- its chunks: two stretches, and the locked one between them
abbrev pub first_stretch : List Chunk
first_stretch = free 16 ∷ zeros_of 8 16 ∷ zeros_of 8 20 ∷ []

abbrev pub locked_one : Chunk
locked_one = movable (replicate 8 0) 1 1 24

abbrev pub second_stretch : List Chunk
second_stretch = free 16 ∷ zeros_of 8 28 ∷ []

-- | a | b | free 16 | c locked | free 16 | d |
abbrev pub front_packed : List ℕ
front_packed =
    heap_of (0x28 ∷ 0x38 ∷ 0x58 ∷ 0x78 ∷ [])
    (0x10 ∷ 0x01FFFFF8 ∷ 0x10 ∷ 0x01FFFFF2 ∷ 0x80000010 ∷ 0 ∷ 0x10 ∷ 0x11FFFFE4 ∷ 0x80000010 ∷ 0 ∷ 0x10 ∷ 0x01FFFFD6 ∷ [])

-- | a | b | free 16 | c locked | d | free 16 |
abbrev pub both_packed : List ℕ
both_packed =
    heap_of (0x28 ∷ 0x38 ∷ 0x58 ∷ 0x68 ∷ [])
    (0x10 ∷ 0x01FFFFF8 ∷ 0x10 ∷ 0x01FFFFF2 ∷ 0x80000010 ∷ 0 ∷ 0x10 ∷ 0x11FFFFE4 ∷ 0x10 ∷ 0x01FFFFDE ∷ 0x80000010 ∷ 0 ∷ [])

-- | a | b | d | c locked | free 32 |
abbrev pub last_relocated : List ℕ
last_relocated =
    heap_of (0x28 ∷ 0x38 ∷ 0x58 ∷ 0x48 ∷ [])
    (0x10 ∷ 0x01FFFFF8 ∷ 0x10 ∷ 0x01FFFFF2 ∷ 0x10 ∷ 0x01FFFFEE ∷ 0x10 ∷ 0x11FFFFE4 ∷ 0x80000020 ∷ 0 ∷ 0 ∷ 0 ∷ [])

-- | free 16 | b | a | c locked | free 16 | d |
abbrev pub turned : List ℕ
turned =
    heap_of (0x48 ∷ 0x38 ∷ 0x58 ∷ 0x78 ∷ [])
    (0x80000010 ∷ 0 ∷ 0x10 ∷ 0x01FFFFF2 ∷ 0x10 ∷ 0x01FFFFE8 ∷ 0x10 ∷ 0x11FFFFE4 ∷ 0x80000010 ∷ 0 ∷ 0x10 ∷ 0x01FFFFD6 ∷ [])

-- | free 16 | a | b | free 16 | c locked | d |
abbrev pub locked_moved : List ℕ
locked_moved =
    heap_of (0x38 ∷ 0x48 ∷ 0x68 ∷ 0x78 ∷ [])
    (0x80000010 ∷ 0 ∷ 0x10 ∷ 0x01FFFFF0 ∷ 0x10 ∷ 0x01FFFFEA ∷ 0x80000010 ∷ 0 ∷ 0x10 ∷ 0x11FFFFDC ∷ 0x10 ∷ 0x01FFFFD6 ∷ [])

-- | free 16 | a | free 16 | c locked, of 24 bytes | d |
abbrev pub one_freed : List ℕ
one_freed =
    heap_of (0x38 ∷ 0 ∷ 0x58 ∷ 0x78 ∷ [])
    (0x80000010 ∷ 0 ∷ 0x10 ∷ 0x01FFFFF0 ∷ 0x80000010 ∷ 0 ∷ 0x20 ∷ 0x11FFFFE4 ∷ 0 ∷ 0 ∷ 0x10 ∷ 0x01FFFFD6 ∷ [])
