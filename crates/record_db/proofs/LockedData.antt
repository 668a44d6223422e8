-- Records that are passed in the order of their indexes.
use Rattle.record_db.proofs.Words.{ℕ, ◌<◌, List, slice_get, Entry, OfEntry, data_of_entry, ChunkMap, Of, IsLocked, IsOf}

-- none of the first `count` records is of the category and has locked data
abbrev pub NoneLocked : ChunkMap → List (Entry ℕ) → ℕ → ℕ → Type 0
NoneLocked chunks entries category end = (at : ℕ) → at < end → OfEntry (slice_get entries at) (IsOf category) → Of (chunks (data_of_entry (slice_get entries at))) IsLocked → ⊥
