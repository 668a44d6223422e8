-- The marks of a picture, and the mark that a chunk has. A cell shows the mark of its chunks that
-- comes first in the list, so a mark is its rank in the list.
use Rattle.std.specs.Prelude.{◌+◌, ◌-◌, ◌*◌, ◌==◌, nat_lt, nat_le, if◌then◌else◌, ℕ, List, slice_index, codes}
use Rattle.heap_model.specs.Chunk.{Chunk, free, movable, fixed, managers_owner}
use Rattle.chunk_format.specs.declared.header.Header.{Header}
use Rattle.chunk_format.specs.declared.header.Header.TheVariants as headers
use Rattle.heap_map.specs.Numbers.{database_number}

-- a fixed chunk
abbrev pub fixed_mark : ℕ
fixed_mark = 0

-- a chunk with a lock
abbrev pub locked_mark : ℕ
locked_mark = 1

-- the directory, or the header of a database
abbrev pub managers_mark : ℕ
managers_mark = 2

-- a chunk that the database of this number names; numbers go from 1 to 1,024
abbrev pub database_mark : ℕ → ℕ
database_mark number = 2 + number

-- any other movable chunk
abbrev pub other_mark : ℕ
other_mark = 1027

-- a free chunk
abbrev pub free_mark : ℕ
free_mark = 1028

-- the mark of a movable chunk that is neither locked nor the manager's, from the number of its
-- database
abbrev pub numbered_mark : ℕ → ℕ
numbered_mark number = if number == 0 then other_mark else database_mark number

-- the mark of a movable chunk, from its lock count, its owner and the number of its database
abbrev pub movable_mark : ℕ → ℕ → ℕ → ℕ
movable_mark lock owner number = if nat_lt 0 lock then locked_mark else if owner == managers_owner then managers_mark else numbered_mark number

-- the mark of a chunk
abbrev pub mark_of : List ℕ → Chunk → ℕ
mark_of image (free size) = free_mark
mark_of image (movable bytes lock owner slot) = movable_mark lock owner (database_number image slot)
mark_of image (fixed bytes owner) = fixed_mark

-- the mark of a chunk, from its header
abbrev pub mark_by : List ℕ → Header → ℕ
mark_by image (headers.Free size) = free_mark
mark_by image (headers.Movable length lock owner slot) = movable_mark lock owner (database_number image slot)
mark_by image (headers.Fixed length owner) = fixed_mark

-- ---- how a mark is written

-- the letters of databases, in the order of their numbers. They leave out F and L, which have
-- meanings of their own.
abbrev pub letters : List ℕ
letters = codes "abcdefghijklmnopqrstuvwxyzABCDEGHIJKMNOPQRSTUVWXYZ0123456789"

-- how many letters there are
abbrev pub letter_count : ℕ
letter_count = 60

-- the letter of the database with a number. The databases after the last letter share a plus.
abbrev pub letter_of : ℕ → ℕ
letter_of number = if nat_lt letter_count number then 43 else slice_index letters (number - 1)

-- the byte of a mark that isn't that of free space: F, L, *, a letter, or #
abbrev pub live_byte : ℕ → ℕ
live_byte mark =
    if mark == fixed_mark then 70
    else if mark == locked_mark then 76
    else if mark == managers_mark then 42
    else if mark == other_mark then 35
    else letter_of (mark - managers_mark)

-- The byte of a cell, from the first mark of its chunks, its free bytes, and its size. It is F or L
-- if that is the first mark, and a point if the cell has only free chunks. It is a colon if at
-- least half of the cell is free. Otherwise it is the byte of the first mark.
abbrev pub cell_byte : ℕ → ℕ → ℕ → ℕ
cell_byte mark free_bytes size =
    if nat_le mark locked_mark then live_byte mark
    else if mark == free_mark then 46
    else if nat_le size (2 * free_bytes) then 58
    else live_byte mark
