-- A database has two slots for info blocks, and one for each entry.
use Rattle.std.proofs.Common.{ap, sym, ◌∙◌, ◌+◌, ℕ}
use Rattle.palm_store.proofs.NamedChunks.{length-named, header_inside}
use Rattle.palm_store.proofs.databases.clearing.slot_count.Goals as goal

pub entry_count-requires : goal.entry_count-requires
entry_count-requires c = header_inside _ c.requires

pub returns : goal.returns
returns c = ap (λ (count : ℕ). 2 + count) c.entry_count.ensures ∙ sym (length-named _)
