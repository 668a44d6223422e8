-- The data of an entry that takes another size: what refuses it, and what is left.
use Rattle.palm_store.proofs.Words.{◌≡◌, ℕ, List, sym, ◌∙◌, Memory, held, data_owner, sized, callers_map, growth_checks, NoneHolds, FirstBrings, owner_under, store_of, with_chunks, LeavesStore, Refusal, checks_of_data_growth, data_sized}
use Rattle.palm_store.proofs.DataChunks.{for_data, data_callers}

-- callers may name data, so for it the checks are the same
same_chunk : (image : List ℕ) (name : ℕ) → owner_under image name ≡ data_owner → held image name ≡ callers_map image name
same_chunk image name own = (let chunk = for_data image name own in chunk.there ∙ sym (data_callers image name chunk))

pub none_for_callers : (old : Memory) (name size : ℕ) → owner_under old.bytes name ≡ data_owner → NoneHolds (growth_checks old (held old.bytes) name size) → NoneHolds (checks_of_data_growth old name size)
unfolding store_of
none_for_callers old name size own none = rw (same_chunk old.bytes name own) at none

pub first_for_callers : (old : Memory) (name size : ℕ) (refusal : Refusal) → owner_under old.bytes name ≡ data_owner → FirstBrings (growth_checks old (held old.bytes) name size) refusal → FirstBrings (checks_of_data_growth old name size) refusal
unfolding store_of
first_for_callers old name size refusal own first = rw (same_chunk old.bytes name own) at first

pub sized_steps : (old new : List ℕ) (name size : ℕ) → LeavesStore old new (with_chunks (store_of old) (sized (callers_map old) name size)) → LeavesStore old new (data_sized (store_of old) name size)
unfolding store_of
sized_steps old new name size leaves = leaves
