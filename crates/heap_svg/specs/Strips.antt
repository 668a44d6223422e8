-- Strips: what a picture shows of an image, from its first byte to its last. A strip is the head of the image, a chunk, or
-- neighbouring chunks of one mark that are all thin.
use Rattle.std.specs.Prelude.{◌≡◌, ◌<◌, ◌≤◌, ◌+◌, ◌++◌, ◌==◌, ◌&&◌, ◌⊎◌, nat_lt, if◌then◌else◌, ℕ, Bool, true, false, List, [], ◌∷◌, length, All}
use Rattle.heap_model.specs.Chunk.{Chunk, size_of}
use Rattle.heap_model.specs.Slots.{area_start}
use Rattle.heap_model.specs.Reading.{chunks_of}
use Rattle.heap_map.specs.Marks.{mark_of}
use Rattle.heap_svg.specs.declared.strips.Strip.{Strip}
use Rattle.heap_svg.specs.declared.strips.Strips.{Strips}

-- the mark of what stands before the first chunk: the head with its slots
abbrev pub head_mark : ℕ
head_mark = 1029

-- ---- the strips of an image

-- the strip of the head
abbrev pub head_strip : List ℕ → Strip
head_strip image = record { mark = head_mark; at = 0; size = area_start image; is_thin = false }

-- a chunk of this mark and size belongs to the strip before it: all of it is thin, and has the mark
abbrev pub joins : ℕ → Strip → ℕ → ℕ → Bool
joins thin last mark size = nat_lt size thin && last.is_thin && (mark == last.mark)

-- the strip is `size` bytes longer
abbrev pub longer : Strip → ℕ → Strip
longer last size = record last { size = last.size + size }

-- the strip of a chunk behind another strip
abbrev pub next_strip : ℕ → Strip → ℕ → ℕ → Strip
next_strip thin last mark size = record { mark = mark; at = last.at + last.size; size = size; is_thin = nat_lt size thin }

-- a strip, and those of the chunks after it; chunks of fewer than `thin` bytes are thin
abbrev pub strips_from : List ℕ → ℕ → Strip → List Chunk → List Strip
strips_from image thin last [] = last ∷ []
strips_from image thin last (chunk ∷ chunks) =
    if joins thin last (mark_of image chunk) (size_of chunk) then strips_from image thin (longer last (size_of chunk)) chunks
    else last ∷ strips_from image thin (next_strip thin last (mark_of image chunk) (size_of chunk)) chunks

unfoldable pub strips_of : List ℕ → ℕ → List Strip
strips_of image thin = strips_from image thin (head_strip image) (chunks_of image)

-- ---- what strips show

-- the mark of the byte at an offset, by chunks of which the first begins at another
abbrev pub byte_mark : List ℕ → ℕ → List Chunk → ℕ → ℕ
byte_mark image at [] byte = head_mark
byte_mark image at (chunk ∷ chunks) byte = if nat_lt byte (at + size_of chunk) then mark_of image chunk else byte_mark image (at + size_of chunk) chunks byte

-- the mark of the byte at an offset: that of its chunk, or of the head
abbrev pub mark_of_byte : List ℕ → ℕ → ℕ
mark_of_byte image byte = if nat_lt byte (area_start image) then head_mark else byte_mark image (area_start image) (chunks_of image) byte

-- the strip has the byte at an offset
abbrev pub HasByte : ℕ → Strip → Type 0
HasByte byte strip = (strip.at ≤ byte) × (byte < strip.at + strip.size)

-- all bytes of a strip have its mark
abbrev pub HasOneMark : List ℕ → Strip → Type 0
HasOneMark image strip = (byte : ℕ) → HasByte byte strip → mark_of_byte image byte ≡ strip.mark

-- one of some strips has the byte
abbrev pub AnyHas : ℕ → List Strip → Type 0
AnyHas byte [] = ⊥
AnyHas byte (strip ∷ strips) = HasByte byte strip ⊎ AnyHas byte strips

-- Strips show an image: each byte is in one, and has the mark of each strip that it is in. So the strips of free space
-- have exactly the bytes of free chunks.
pub record ShowImage (image : List ℕ) (strips : List Strip) : Type 0 where
  pub inside : All (λ strip. strip.at + strip.size ≤ length image) strips
  pub right : All (HasOneMark image) strips
  pub covered : (byte : ℕ) → byte < length image → AnyHas byte strips

-- ---- the strips that a walk has met

-- where the last strip ends
abbrev pub end_of : Strips → ℕ
end_of strips = strips.last.at + strips.last.size

-- all of them
abbrev pub all_strips : Strips → List Strip
all_strips strips = strips.whole.items ++ strips.last ∷ []

-- the last strip goes on with bytes of its mark
pub record JoinsLast (thin : ℕ) (old new : Strips) (mark size : ℕ) : Type 0 where
  pub joined : joins thin old.last mark size ≡ true
  pub whole : new.whole.items ≡ old.whole.items
  pub last : new.last ≡ longer old.last size

-- a strip begins where the last one ends
pub record BeginsStrip (thin : ℕ) (old new : Strips) (mark size : ℕ) : Type 0 where
  pub apart : joins thin old.last mark size ≡ false
  pub whole : new.whole.items ≡ old.whole.items ++ old.last ∷ []
  pub last : new.last ≡ next_strip thin old.last mark size

abbrev pub AddsBytes : ℕ → Strips → Strips → ℕ → ℕ → Type 0
AddsBytes thin old new mark size = JoinsLast thin old new mark size ⊎ BeginsStrip thin old new mark size
