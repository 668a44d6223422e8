-- The lemmas of this crate that proofs of functions cite, passed on from one place.
pub use Rattle.heap_check.proofs.BodyLaws.{CountsBodies, bodies_fit, bodies_found, bodies_marked, bodies_more, counts_none}
pub use Rattle.heap_check.proofs.ChainedLaws.{followed_tiles, held_last, held_more, held_none, is_so, left_mismatch, marked_bare, marks_all, marks_more, marks_none, named_all, names_without, not_so, owned_all, stray_owner}
pub use Rattle.heap_check.proofs.CheckLaws.{faultless_heap, first_chunk, first_directory, first_table, passed_directory, passed_heap, passed_paired, surveyed_mismatch, surveyed_owner, surveyed_without}
pub use Rattle.heap_check.proofs.NameLaws.{NotesNames, names_all, names_more}
pub use Rattle.heap_check.proofs.NotingLaws.{NotesSlots, chained_room, names_room, note_set, notes_all, notes_more, notes_none}
pub use Rattle.heap_check.proofs.SlotLaws.{first_of_number, holds_false, holds_true, mark_none, mark_set, none_at, none_said, said}
pub use Rattle.heap_check.proofs.StrayLaws.{NotesStrays, first_of_bodies, none_marked_left, strays_all, strays_more, strays_none}
pub use Rattle.heap_check.proofs.WalkLaws.{HasPassed, passed_none, passed_size, passed_there, passed_whole}
pub use Rattle.heap_check.proofs.Words.{Bool, EveryOne, HasSurveyed, Header, HeldBefore, HoldsBody, IsHolder, IsMarked, IsRoomFor, IsSlot, IsTrue, List, ManagersBy, MarkedAt, MarksBefore, Names, None, NotesOwner, Option, [], ap, arith, chunks_of, cond, every_first-more, false, false≢true, first_slots-all, length, length-map, map, marks_needed, met_owner, one_lies, one_same, one_total, read_heap, refl, row_small, set, size_by, slot_facts, slot_within, slots_total, stands_slot, subst, sym, tiled_table, u32_at, whole_table, ℕ, ◌+◌, ◌-◌, ◌/◌, ◌<◌, ◌↔◌, ◌∙◌, ◌≡◌, ◌≤◌, ◌⊎◌}
