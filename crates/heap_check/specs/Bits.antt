-- The bits of the check of a chain: a set of words of the image.
use Rattle.std.specs.Prelude.{◌≡◌, ◌≤◌, ℕ, true, List, length}
use Rattle.heap_model.specs.Frame.{frame_size}
use Rattle.heap_model.specs.Slots.{is_chained}

-- the size in bytes of a set with a bit for each word of the largest image
abbrev pub bits_size : ℕ
bits_size = 524288

-- a set of this many bytes is enough to check the image: with a chain it has a bit for each word
abbrev pub AreEnoughBits : List ℕ → ℕ → Type 0
AreEnoughBits image count = frame_size ≤ length image → is_chained image ≡ true → bits_size ≤ count
