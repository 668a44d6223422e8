-- Images without a chain, and what they become with one.
use Rattle.std.specs.Prelude.{ℕ, List, [], ◌∷◌, flat_map, None}
use Rattle.heap_model.specs.Bytes.{u32_bytes}
use Rattle.heap_model.specs.Meaning.{ChunkMap}

-- Two slots, so that the image grows. A movable chunk of 4 bytes is in the first slot, with 4 bytes
-- of slack. After it come a fixed chunk of owner 2 and a free one.
abbrev pub two_slots : List ℕ
two_slots = flat_map u32_bytes (0x50484931 ∷ 64 ∷ 0x00020000 ∷ 0 ∷ 32 ∷ 0 ∷ 0x04000010 ∷ 0x01FFFFFC ∷ 0x41424344 ∷ 7 ∷ 0x10 ∷ 0xF2000000 ∷ 1 ∷ 2 ∷ 0x80000008 ∷ 9 ∷ [])

-- The same with a chain, 8 bytes longer, but for some words: what the first slot contains, the word
-- `next`, and the words of the chunks
abbrev pub grown_image : ℕ → ℕ → List ℕ → List ℕ
grown_image slot next chunks = flat_map u32_bytes (0x50484932 ∷ 72 ∷ 0x00020000 ∷ 0 ∷ slot ∷ 0 ∷ next ∷ 0 ∷ chunks)

abbrev pub grown_two_slots : List ℕ
grown_two_slots = grown_image 40 0 (0x04000010 ∷ 0x01FFFFF8 ∷ 0x41424344 ∷ 7 ∷ 0x10 ∷ 0xF2000000 ∷ 1 ∷ 2 ∷ 0x80000008 ∷ 9 ∷ [])

-- one slot, so that the word `next` takes the place of the padding
abbrev pub one_slot : List ℕ
one_slot = flat_map u32_bytes (0x50484931 ∷ 64 ∷ 0x00010000 ∷ 0 ∷ 32 ∷ 0 ∷ 0x04000010 ∷ 0x01FFFFFC ∷ 0x41424344 ∷ 7 ∷ 0x10 ∷ 0xF2000000 ∷ 1 ∷ 2 ∷ 0x80000008 ∷ 9 ∷ [])

abbrev pub chained_one_slot : List ℕ
chained_one_slot = flat_map u32_bytes (0x50484932 ∷ 64 ∷ 0x00010000 ∷ 0 ∷ 32 ∷ 0 ∷ 0x04000010 ∷ 0x01FFFFFC ∷ 0x41424344 ∷ 7 ∷ 0x10 ∷ 0xF2000000 ∷ 1 ∷ 2 ∷ 0x80000008 ∷ 9 ∷ [])

-- ---- images with one word that is wrong

-- the slot has the place of the old image
abbrev pub slot_kept : List ℕ
slot_kept = grown_image 32 0 (0x04000010 ∷ 0x01FFFFF8 ∷ 0x41424344 ∷ 7 ∷ 0x10 ∷ 0xF2000000 ∷ 1 ∷ 2 ∷ 0x80000008 ∷ 9 ∷ [])

-- the movable chunk has the hOffset of the old image
abbrev pub offset_kept : List ℕ
offset_kept = grown_image 40 0 (0x04000010 ∷ 0x01FFFFFC ∷ 0x41424344 ∷ 7 ∷ 0x10 ∷ 0xF2000000 ∷ 1 ∷ 2 ∷ 0x80000008 ∷ 9 ∷ [])

-- the word `next` leads to the fixed chunk
abbrev pub next_set : List ℕ
next_set = grown_image 40 56 (0x04000010 ∷ 0x01FFFFF8 ∷ 0x41424344 ∷ 7 ∷ 0x10 ∷ 0xF2000000 ∷ 1 ∷ 2 ∷ 0x80000008 ∷ 9 ∷ [])

-- the slack of the movable chunk is another
abbrev pub slack_changed : List ℕ
slack_changed = grown_image 40 0 (0x04000010 ∷ 0x01FFFFF8 ∷ 0x41424344 ∷ 6 ∷ 0x10 ∷ 0xF2000000 ∷ 1 ∷ 2 ∷ 0x80000008 ∷ 9 ∷ [])

-- a byte of the fixed chunk is another
abbrev pub fixed_changed : List ℕ
fixed_changed = grown_image 40 0 (0x04000010 ∷ 0x01FFFFF8 ∷ 0x41424344 ∷ 7 ∷ 0x10 ∷ 0xF2000000 ∷ 1 ∷ 3 ∷ 0x80000008 ∷ 9 ∷ [])

-- the map that contains no chunk
abbrev pub nothing : ChunkMap
nothing name = None
