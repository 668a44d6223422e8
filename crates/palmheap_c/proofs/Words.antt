-- The words that most proofs of this crate cite, passed on from one place. Declares nothing.
pub use Rattle.allowance.specs.Refusals.{GrowthRefused}
pub use Rattle.canonical_file.specs.Canonical.{most_bytes}
pub use Rattle.chunk_format.specs.Blank.{IsBlank, IsRegionSize, LeavesRoom}
pub use Rattle.core.proofs.alloc.Calls.{Al, Goes-blank, handle_tells, token}
pub use Rattle.file_parts.proofs.ExactSpelled.{bytes_are, placed_well, size_is}
unfoldable pub use Rattle.file_parts.specs.Exact.{exact_database}
pub use Rattle.file_parts.specs.Exact.{ExactFile, IsExactly, exact_bytes, exact_entry, exact_in, exact_size, is_misplaced}
pub use Rattle.file_parts.specs.Values.{IsNoExactFile, part_if}
pub use Rattle.heap_map.specs.Pictures.{IsMapFault}
pub use Rattle.heap_map.specs.declared.picture.MapFault.TheVariants.{BadImage}
unfoldable pub use Rattle.heap_model.specs.Database.{database_in, header_in, name_field}
pub use Rattle.heap_model.specs.Database.{Database, DatabaseHeader, Entry, a_record, a_resource, data_in, entry_at, entry_count_in, entry_data, entry_in, entry_offset, entry_with, has_resources, name_in, resources_in}
pub use Rattle.heap_model.specs.DatabaseSteps.{info_of}
pub use Rattle.heap_model.specs.Files.{HasNoFault, block_bytes, blocks_in}
pub use Rattle.heap_model.specs.Lending.{IsLent}
pub use Rattle.heap_model.specs.Lists.{numbered}
pub use Rattle.heap_model.specs.Meaning.{LiveChunk}
pub use Rattle.heap_model.specs.Memory.{Lent, Memory, SomeLent, without}
pub use Rattle.heap_model.specs.MemorySteps.{Of}
pub use Rattle.heap_model.specs.Numbers.{number_of}
pub use Rattle.heap_model.specs.Reading.{chunks_of, held, is_fixed_name}
pub use Rattle.heap_model.specs.Refusals.{FirstBrings}
pub use Rattle.heap_model.specs.Slots.{IsSlot, area_start, start_behind}
pub use Rattle.heap_model.specs.Space.{place_of, place_under}
unfoldable pub use Rattle.heap_model.specs.Store.{store_of}
pub use Rattle.heap_model.specs.Store.{Accepted}
pub use Rattle.heap_model.specs.StoreSteps.{Call, DoesInStore}
pub use Rattle.heap_model.specs.declared.call.MemoryCall.TheVariants.{Lock, Locks, Read, Recover, Unlock}
pub use Rattle.heap_model.specs.declared.call.Reply.{Reply}
pub use Rattle.heap_model.specs.declared.call.Reply.TheVariants.{Data, Locked, Named, Number, Refused}
pub use Rattle.heap_model.specs.declared.database.DbInfo.{DbInfo}
pub use Rattle.heap_model.specs.declared.names.Name.{Name}
pub use Rattle.heap_model.specs.declared.refusal.Refusal.{Refusal}
pub use Rattle.heap_model.specs.declared.refusal.Refusal.TheVariants.{AlreadyExists, BadFile, ChunkFixed, ChunkLocked, ChunkNotLocked, DuplicateId, IndexOutOfRange, InvalidCategory, InvalidHandle, InvalidName, InvalidOwner, LockOverflow, NoInfoBlock, NoSuchDatabase, NotEnoughSpace, NotRecordDatabase, NotResourceDatabase, OutOfBounds, OwnedByDatabase, ReadOnly, RecordBusy, RecordDeleted, ResourceNotFound, TooManyEntries, UniqueIdNotFound}
pub use Rattle.laws_heap.proofs.LentBodies.{some_to}
pub use Rattle.mem_manager.specs.Loans.{AreLoansAbove, IsOutUnder, OnLoan, also_out_checks}
pub use Rattle.palm_store.specs.Loans.{PutsBackInStore, TakesOutOfStore}
pub use Rattle.palm_store.specs.Replies.{DoesMemory, number_or_refused}
pub use Rattle.palmheap_c.specs.Answers.{IsImageFault, IsMemoryAnswer, memory_answer, of_file, of_heap, of_store}
pub use Rattle.palmheap_c.specs.Blocks.{AreBlocks, IsInside, found, placed}
pub use Rattle.palmheap_c.specs.Buffers.{Buffer, FillsBuffer, PutsBytes, buffer}
pub use Rattle.palmheap_c.specs.Calls.{DoesAlways, DoesData, DoesInC, as_name, as_place}
pub use Rattle.palmheap_c.specs.FileEntries.{HasDataInside, IsRead, Outputs, entry_in_c, file_entry_at, outputs, place_of_data, place_of_rank}
pub use Rattle.palmheap_c.specs.Holding.{HoldsStore, IsNullIfClosed, frees, kept_in, slot_owns}
pub use Rattle.palmheap_c.specs.Infos.{database_from_c}
pub use Rattle.palmheap_c.specs.LoanNames.{AreLoans, HasMoreLoans, numbers_of_names}
pub use Rattle.palmheap_c.specs.Opened.{Opened}
pub use Rattle.palmheap_c.specs.Opening.{IsOpenStore}
pub use Rattle.palmheap_c.specs.Pointers.{AreAtPlaces, CountsPointers, GivesPointer, HasBytesOut, HoldsPointers, IsPinned, LetsLoanGo, LocksAgain, LocksFirst, LocksPointer, Pointers, RefusesFirst, RefusesPointer, Unlocks, UnlocksLast, UnlocksPointer, WantsEntry, loan_of, locked_times, pinned, pointer_checks, unlock_code}
pub use Rattle.palmheap_c.specs.Runs.{AreShortBuffers, HasResults, HasSizes, IsRunRefusal, Ran, RunsInPlace, RunsShort, Written, capped, ends_from, joined, of_line, of_script}
pub use Rattle.palmheap_c.specs.Salvaging.{is_line_end}
pub use Rattle.palmheap_c.specs.Writing.{Given, HasMisplaced, HasRefusedEntry, IsFileOf, IsNoFile, IsReadOf, IsWriteAnswer, IsWrittenBack, are_inside, block_from_c, exact_from_c, given, given_by, has_data_inside, header_from_c, is_inside, name_from_c, named_database, named_entry, part_from_c, parts_from_c, text_from_c, with_all}
pub use Rattle.palmheap_c.specs.declared.answers.Answer.{Answer}
pub use Rattle.palmheap_c.specs.declared.blocks.Block.{Block}
pub use Rattle.palmheap_c.specs.declared.file_entries.FileEntry.{FileEntry}
pub use Rattle.palmheap_c.specs.declared.pointers.Pinned.{Pinned}
pub use Rattle.pdb_format.specs.Blocks.{IsBlockWithin, bytes_at, places_in}
pub use Rattle.pdb_format.specs.OpenFaults.{IsOpenFault}
pub use Rattle.raw_region.specs.Holes.{AllLieIn}
pub use Rattle.raw_region.specs.Parts.{PartOut}
pub use Rattle.script_lines.specs.Reading.{read_script}
pub use Rattle.script_lines.specs.declared.fault.LineFault.{LineFault}
pub use Rattle.script_lines.specs.declared.fault.ScriptFault.{ScriptFault}
pub use Rattle.script_lines.specs.declared.fault.ScriptFault.TheVariants.{BadWord, OutOfMemory, UnknownCommand, WrongCount}
pub use Rattle.std.proofs.Common.{Bool, Equal, Err, Greater, Less, List, Ordering, [], add-one, ap, append-nil, arith, cond, drop, false, get_or, inl, inr, length, length-append, length-take, lit<, lit≤, min, refl, replicate, rules, subst, subst₂, suc, sym, take, take-suc, take_all, true, w64, zero, ℕ, ◌%◌, ◌++◌, ◌+◌, ◌-◌, ◌<◌, ◌^◌, ◌∙◌, ◌∷◌, ◌≡◌, ◌≢◌, ◌≤◌, ◌⊎◌}
pub use Rattle.std.proofs.lemmas.Bool.{and_from, and_parts, cases_eq, cases_lt, eq-eqb, eqb-true, le-leb, ne_eqb}
pub use Rattle.std.proofs.lemmas.Bool.Decides.{nat_tests}
pub use Rattle.std.proofs.lemmas.List.{drop-drop, drop-replicate, drop-set-lt, get_or-map, get_or_past, length-map, take_more_set}
pub use Rattle.std.proofs.lemmas.List.Elements.{All-head, All-map, All-tail}
pub use Rattle.std.proofs.raw_atomic.Walks.{leaves, proved, proved_at}
pub use Rattle.std.specs.BTreeMap.{insert_entry, is_at}
pub use Rattle.std.specs.List.{AllPass, AllZip, list_all, range_with_len}
pub use Rattle.std.specs.Map.{remove_entry, set_value}
pub use Rattle.std.specs.Ordering.{is_eq, match_ordering, nat_cmp}
pub use Rattle.std.specs.Prelude.{All, IfErr, IfOk, None, Ok, Option, Result, Some, count_by, if◌then◌else◌, map, nat_le, slice_index, slice_index_or, slice_range, slice_set, ◌&&◌, ◌==◌}
pub use Rattle.std_alloc.proofs.BoxSteps.Form.{B, Bx, D, P, R, args, box_ty, box_typed, word, τ}
pub use Rattle.std_alloc.proofs.BoxSteps.Steps.{box_in, box_out}
pub use Rattle.std_alloc.specs.Box.Ownership.{box_owns}
pub use Rattle.store_check.specs.declared.fault.StoreFault.{StoreFault}
pub use base.Fml.{Fml, GName, flft, fsep, ftrue}
pub use base.Fraction.{full_share}
pub use base.Logic.{SProp, emp, ent, fst∗, guard, guard_i, id⊢, never, sep, snd∗, via}
pub use contract.BorrowLft.{◌⊑◌}
pub use contract.Monad.{Fun, fact, fact_i, fact_use}
unfoldable pub use contract.Running.{tables_of}
pub use contract.Running.{tables}
pub use denote.Exit.{no}
pub use denote.Laws.{Is, shows}
unfoldable pub use denote.Memory.{part_of}
pub use denote.Memory.{cell_at, lone, mem}
pub use denote.Param.{bounded, layout}
pub use denote.RattleType.{RattleType, Valss, owns}
pub use denote.RawPtr.{InBlock, Ptr, RawPtr, Testable, block_ptr, in_a_block, lies_at, null_ptr, ptr_val, ◌+ₚ◌}
pub use denote.Signature.{mut_ref_to, plain, types_at}
pub use denote.Steps.{heard, nothing, only, opens, peeks}
pub use denote.Struct.Declared.{shape}
pub use denote.Struct.Struct.{Struct, within}
pub use denote.Struct.Tuple.{Tuple, tuple_type}
pub use denote.Triple.Call.{calls_at, calls_at_last}
pub use denote.Triple.Clauses.{Clauses, Ended}
pub use denote.Triple.Entry.{alive}
pub use denote.Triple.Spec.{triple_of}
pub use denote.Triple.Statement.{Contract, Triple}
pub use denote.Triple.Table.{entered}
pub use denote.Triple.Walked.{Goes-spent_ref, Stays, ends_at, says, stay_dropped, walk_Meets, walk_of}
pub use lib.Dec.{T}
pub use mir.MapTy.{inst_fn}
pub use mir.Syntax.{Args, Body, Dict, Fn, a_type, assign, copy, dcons, dnil, impl, named, place, return, rv_opd, seq, tnil}
pub use mir.Val.{Val, WT, has_ty, of_list, vcons, vint, vnil, vnull, vptr, vstruct}
pub use prog.Routine.{Routine}
pub use prog.Wp.{Tables, WpFn}
pub use seplogic.Ra.Ura.{Ura}
pub use sound.WpLaws.{WpFn-mono, fm_of}
pub use types.ByLocal.{alloc_all, env, free_all, get, get_in, lands_as, lands_last, look_at, pass_all, sets, sets_last, through}
pub use types.Kit.{ !, Goal, Item, Seq, Step, at_ret, await, by, done, feq_i, feq_l, fjoin, fpack, fpick, frame, fsplit, fsplit3, group, join, keep, later, learn, move, pick, prop, qed, raw, regoal, rewrite, some, split, split3, step, suffices, use0, use1, ‵, ◌$◌, ◌∵◌, ◌⊛◌}
pub use types.Logic.{Logic, sem}
pub use types.Part.{agg, look_in, sub, whole}
pub use types.Run.{addr, and_then, blocks, enter, exec, first, fld, lit, load, no_more, of_opd, returns, stop}
