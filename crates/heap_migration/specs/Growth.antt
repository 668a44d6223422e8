-- The growth of an image that gets a chain of tables.
use Rattle.std.specs.Prelude.{◌%◌, ◌==◌, if◌then◌else◌, ℕ, List}
use Rattle.heap_model.specs.Slots.{slot_count}

-- With an even number of slots the word `next` and its padding take 8 bytes. With an odd number
-- `next` takes the place of the padding.
abbrev pub growth : ℕ → ℕ
growth slots = if slots % 2 == 0 then 8 else 0

abbrev pub growth_of : List ℕ → ℕ
growth_of image = growth (slot_count image)
