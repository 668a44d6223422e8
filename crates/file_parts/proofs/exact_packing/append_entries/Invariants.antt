-- The loop of `append_entries` keeps its invariant: the entries so far are appended.
use Rattle.file_parts.proofs.AllWords.{◌≡◌, ◌++◌, ℕ, List, take, flat_map, entry_bytes, exact_placed, AreOffsets, exact_packed}
use Rattle.file_parts.proofs.exact_packing.append_entries.Given as goal

abbrev pub invariant-loop-index : goal.invariant-loop-index
invariant-loop-index g l = (parts : List (List ℕ))
    → AreOffsets (exact_packed l.exact parts) l.offsets → l.bytes.items ≡ l.fn.bytes.items
    ++ flat_map entry_bytes (take l.index (exact_placed (exact_packed l.exact parts)).entries)
