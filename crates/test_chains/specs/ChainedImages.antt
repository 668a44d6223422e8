-- Images with a chain of tables, to try the definitions on. Each has one slot in the first table, at
-- 16, and the first word `next` at 20. Its chunks begin at 24.
use Rattle.std.specs.Prelude.{◌++◌, ℕ, List, [], ◌∷◌, flat_map, replicate}
use Rattle.heap_model.specs.Bytes.{u32_bytes}
use Rattle.heap_model.specs.Slots.{Table}

-- an image of this size, with what the slot and the word `next` contain, and the words of the chunks
abbrev pub chained_image : ℕ → ℕ → ℕ → List ℕ → List ℕ
chained_image size slot next chunks = flat_map u32_bytes (0x50484932 ∷ size ∷ 0x00010000 ∷ 0 ∷ slot ∷ next ∷ chunks)

-- a further table, by its place and the count of its slots
abbrev pub made_table : ℕ → ℕ → Table
made_table place count = record { place = place; count = count }

-- a table of one slot at 32, and a chunk of 4 bytes in that slot
abbrev pub two_tables : List ℕ
two_tables = chained_image 64 0 32 (0x10 ∷ 0xF0000000 ∷ 0 ∷ 48 ∷ 0x04000010 ∷ 0x01FFFFFE ∷ 0x41424344 ∷ 0 ∷ 0x80000008 ∷ 0 ∷ [])

-- the same tables with an empty slot, and free bytes
abbrev pub empty_tables : List ℕ
empty_tables = chained_image 64 0 32 (0x10 ∷ 0xF0000000 ∷ 0 ∷ 0 ∷ 0x80000018 ∷ 0 ∷ 0 ∷ 0 ∷ 0 ∷ 0 ∷ [])

-- Three tables: a table at 32, a chunk without bytes, and a table at 56. The chain has the one at 56
-- before the one at 32. The chunk is in the slot at 60.
abbrev pub three_tables : List ℕ
three_tables = chained_image 72 0 56 (0x10 ∷ 0xF0000000 ∷ 0 ∷ 0 ∷ 8 ∷ 0x0100000A ∷ 0x10 ∷ 0xF0000000 ∷ 32 ∷ 48 ∷ 0x80000008 ∷ 0 ∷ [])

-- a chunk without bytes in the first slot, a table of two slots with 4 bytes of slack after it, and
-- a fixed chunk of a caller's
abbrev pub behind_chunk : List ℕ
behind_chunk = chained_image 64 32 40 (8 ∷ 0x01FFFFFC ∷ 0x04000018 ∷ 0xF0000000 ∷ 0 ∷ 0 ∷ 0 ∷ 7 ∷ 8 ∷ 0xF1000000 ∷ [])

-- the table at 32 leads to the one at 48, and that one back to it
abbrev pub cycle : List ℕ
cycle = chained_image 64 0 32 (0x10 ∷ 0xF0000000 ∷ 48 ∷ 0 ∷ 0x10 ∷ 0xF0000000 ∷ 32 ∷ 0 ∷ 0x80000008 ∷ 0 ∷ [])

-- no word `next` leads to the table at 32
abbrev pub stray_table : List ℕ
stray_table = chained_image 64 0 0 (0x10 ∷ 0xF0000000 ∷ 0 ∷ 0 ∷ 0x80000018 ∷ 0 ∷ 0 ∷ 0 ∷ 0 ∷ 0 ∷ [])

-- ---- tables that are added

-- 112 bytes with a table of one slot at 32: the first word `next`, that of the table, and the words
-- of the chunks after the table
abbrev pub one_table_then : ℕ → ℕ → List ℕ → List ℕ
one_table_then first second chunks = chained_image 112 0 first (0x10 ∷ 0xF0000000 ∷ second ∷ 0 ∷ chunks)

-- free bytes for a new table, exactly
abbrev pub room_for_table : List ℕ
room_for_table = one_table_then 32 0 (0x80000048 ∷ replicate 17 0)

-- 8 bytes less in one stretch
abbrev pub room_too_small : List ℕ
room_too_small = one_table_then 32 0 (0x80000040 ∷ replicate 15 0 ++ 8 ∷ 0xF1000000 ∷ [])

-- a table of 15 slots is at 48, and no word `next` leads to it
abbrev pub new_table : List ℕ
new_table = one_table_then 32 0 (0x48 ∷ 0xF0000000 ∷ replicate 16 0)

-- the same, with a word in its last slot
abbrev pub used_table : List ℕ
used_table = one_table_then 32 0 (0x48 ∷ 0xF0000000 ∷ replicate 15 0 ++ 1 ∷ [])

-- the new table is the last of the chain
abbrev pub table_added : List ℕ
table_added = one_table_then 32 48 (0x48 ∷ 0xF0000000 ∷ replicate 16 0)

-- the new table is the first of the chain
abbrev pub table_in_front : List ℕ
table_in_front = one_table_then 48 0 (0x48 ∷ 0xF0000000 ∷ 32 ∷ replicate 15 0)

-- the last table of the chain has 14 slots
abbrev pub smaller_table : List ℕ
smaller_table = one_table_then 32 48 (0x04000048 ∷ 0xF0000000 ∷ replicate 16 0)

-- A table of one slot, then a free chunk with room for a table, and a chunk without bytes in the slot
-- of the table. And what it may have become: the new table is there, and one of its slots, at 52, has
-- the chunk.
abbrev pub one_in_slot : List ℕ
one_in_slot = chained_image 120 0 32 (0x10 ∷ 0xF0000000 ∷ 0 ∷ 120 ∷ 0x80000048 ∷ replicate 17 0 ++ 8 ∷ 0x01FFFFDA ∷ [])

abbrev pub one_in_new_slot : List ℕ
one_in_new_slot = chained_image 120 0 32 (0x10 ∷ 0xF0000000 ∷ 48 ∷ 0 ∷ 0x48 ∷ 0xF0000000 ∷ 0 ∷ 120 ∷ replicate 14 0 ++ 8 ∷ 0x01FFFFE2 ∷ [])

-- an image without a chain, whose one free chunk has room for a table
abbrev pub plain_image : List ℕ
plain_image = flat_map u32_bytes (0x50484931 ∷ 96 ∷ 0x00010000 ∷ 0 ∷ 0 ∷ 0 ∷ 0x80000048 ∷ replicate 17 0)

-- the word `next` leads into a free chunk
abbrev pub next_is_free : List ℕ
next_is_free = chained_image 64 0 32 (0x80000028 ∷ replicate 9 0)
