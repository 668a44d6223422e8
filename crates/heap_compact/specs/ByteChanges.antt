-- Changes of bytes of a chunk at equal distances.
use Rattle.std.specs.Prelude.{◌+◌, ℕ, List, slice_range}
use Rattle.heap_model.specs.Layout.{Alters, with_bytes}
use Rattle.raw_region.specs.ByteChanges.{changed_every}
use Rattle.heap_place.specs.declared.found.Found.{Found}
use Rattle.heap_place.specs.Found.{header_offset}

-- of `count` bytes from offset `at` within the body of a found chunk, those at `skip`, `skip +
-- step`, `skip + 2 * step`, .. are changed by `change`
abbrev pub ChangesEvery : List ℕ → List ℕ → Found → ℕ → ℕ → ℕ → ℕ → (ℕ → ℕ) → Type 0
ChangesEvery old new found at count skip step change =
    Alters old new (header_offset found) (with_bytes at (changed_every change step skip (slice_range old (found.place.0 + at) (found.place.0 + at + count))))
