-- The lemmas of this crate that proofs of its functions cite, passed on from one place. Declares nothing.
pub use Rattle.palmheap_c.proofs.CallLaws.{is_done}
pub use Rattle.palmheap_c.proofs.ChainLaws.{chain_made}
pub use Rattle.palmheap_c.proofs.EntryLaws.{is_read}
pub use Rattle.palmheap_c.proofs.PointerLaws.{first_given, first_refused, lock_keeps, never_refused, puts_keep, refused_keeps, takes_keep, unlock_pointer_keeps, unlocks}
pub use Rattle.palmheap_c.proofs.RefusalLaws.{is_no_memory}
pub use Rattle.palmheap_c.proofs.RunLaws.{ran}
pub use Rattle.palmheap_c.proofs.Values.{Data, al, both, parts_good, parts_in, parts_out, told, word, word_in}
unfoldable pub use Rattle.palmheap_c.proofs.Words.{part_of}
pub use Rattle.palmheap_c.proofs.Words.{ !, DoesMemory, Err, FirstBrings, Fml, Fn, GName, Goes-blank, Goes-spent_ref, HasBytesOut, HoldsPointers, HoldsStore, InBlock, IsNullIfClosed, IsOpenFault, IsOpenStore, IsRead, IsRegionSize, List, Lock, Locked, LocksPointer, Logic, Memory, None, OnLoan, Opened, Option, Pinned, Ptr, PutsBackInStore, RattleType, RawPtr, Refusal, RefusesPointer, SProp, Some, Stays, TakesOutOfStore, Testable, Unlock, UnlocksPointer, Ura, Val, Valss, WpFn, [], addr, agg, alive, alloc_all, also_out_checks, and_then, ap, as_name, at_ret, await, block_ptr, blocks, box_owns, by, cell_at, done, emp, ends_at, ent, enter, env, exec, fact, fact_i, fact_use, feq_i, first, fjoin, fld, flft, fpack, frame, free_all, frees, fsep, fsplit, fsplit3, fst∗, ftrue, full_share, get, get_in, group, guard, guard_i, handle_tells, heard, id⊢, in_a_block, inl, inr, join, keep, kept_in, later, learn, leaves, lies_at, lit, lit<, load, lone, look_at, look_in, mem, move, mut_ref_to, named, never, no, no_more, nothing, null_ptr, number_of, number_or_refused, of_opd, opens, outputs, owns, pass_all, peeks, pick, pinned, place_of, plain, prop, proved, proved_at, qed, raw, refl, regoal, returns, rewrite, rules, says, sem, sep, sets, sets_last, shape, shows, slot_owns, snd∗, some, split, split3, stay_dropped, stop, sub, subst, suffices, sym, tables, through, tuple_type, types_at, unlock_code, use0, use1, vcons, via, vnil, vnull, vptr, vstruct, walk_of, whole, within, ‵, ℕ, ◌$◌, ◌++◌, ◌∙◌, ◌∵◌, ◌∷◌, ◌≡◌, ◌⊎◌, ◌⊛◌}
