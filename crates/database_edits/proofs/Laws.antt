-- The lemmas of this crate that proofs of its functions cite, passed on from one place. Declares nothing.
pub use Rattle.database_edits.proofs.Chunks.{is_movable, length_kept, rebodied_as, stays, then_by, written}
pub use Rattle.database_edits.proofs.Databases.{counted_fits, header_inside, kind_read, managers}
pub use Rattle.database_edits.proofs.Entries.{inside_body, nothing_slid, offset_entry, offset_order, slid, slide_fits}
pub use Rattle.database_edits.proofs.HeadersHere.{field_put, headed, header_kept, room_here}
pub use Rattle.database_edits.proofs.InfoBlocks.{block_fits, block_within, block_written}
pub use Rattle.database_edits.proofs.Kept.{none_slid, slides_then, writes_then}
pub use Rattle.database_edits.proofs.MovedEntries.{went_back, went_front}
pub use Rattle.database_edits.proofs.RaisedNumbers.{counted_same, database_now, raised, respells_twice, spells_now}
pub use Rattle.database_edits.proofs.Words.{Database, HasEntryCount, HasInfoBlock, HasModificationNumber, HasSeed, List, ap, arith, database_here, entry_inserted, entry_of, entry_offset, entry_removed, info_block_at, length, resources_in, sized_to, sym, ℕ, ◌+◌, ◌-◌, ◌∙◌, ◌≡◌}
unfoldable pub use Rattle.database_edits.proofs.Words.{database_in, entry_bytes, header_bytes, header_in, overwritten, u32_at}
