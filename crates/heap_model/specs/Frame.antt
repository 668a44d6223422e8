-- The frame of an image: the bytes before its master pointer table, the offsets of their words, and
-- the least and greatest size of an image. Nothing else gives these numbers.
use Rattle.std.specs.Prelude.{ℕ}
use Rattle.heap_model.specs.Memory.{Memory, IsWithin}

-- the first four bytes of an image, as a number: `PHI1`, an image with one table of slots
abbrev pub magic : ℕ
magic = 0x50484931

-- or `PHI2`, an image whose tables are a chain
abbrev pub chained_magic : ℕ
chained_magic = 0x50484932

-- the offset of the magic
abbrev pub magic_at : ℕ
magic_at = 0

-- the offset of the size of the image, in four bytes
abbrev pub size_at : ℕ
size_at = 4

-- the offset of the slot count, in two bytes
abbrev pub slot_count_at : ℕ
slot_count_at = 8

-- the offset of two bytes that are zero
abbrev pub reserved_at : ℕ
reserved_at = 10

-- the offset of the directory word
abbrev pub directory_at : ℕ
directory_at = 12

-- how many bytes the frame takes: the table begins after it
abbrev pub frame_size : ℕ
frame_size = 16

-- the least size of an image
abbrev pub least_size : ℕ
least_size = 64

-- the greatest size of an image, and so of a chunk
abbrev pub most_size : ℕ
most_size = 16777208

-- the frame lies within a memory
abbrev pub HasFrame : Memory → Type 0
HasFrame memory = IsWithin memory 0 frame_size
