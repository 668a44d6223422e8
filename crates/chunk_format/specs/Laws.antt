-- The statement of the law of blank images.
use Rattle.std.specs.Prelude.{ℕ, List}
use Rattle.heap_model.specs.Store.{Accepted, Means, store_of}
use Rattle.chunk_format.specs.Blank.{IsBlank, IsEmpty}

-- a blank image is accepted with its databases, and means the store that is read from it, which is
-- empty
abbrev pub BlankImagesAreEmpty : Type 0
BlankImagesAreEmpty = (size slots : ℕ) (image : List ℕ) → IsBlank size slots image → Accepted image × Means image (store_of image) × IsEmpty (store_of image)
