-- What a call on an open database of a store knows in the heap, which is the store's value.
use Rattle.palm_store.proofs.Words.{◌≡◌, ℕ, ◌<◌, ◌≤◌, ◌^◌, List, length, ◌∙◌, Memory, Store, Accepted, store_of, database_here, LeavesStore, KeepsLoan, OnlyWrites, OnlySlides, OpenDatabase, IsOpened, IsStore, KnownIds, IsEntryData, data_owner, owner_under, entries_in}
use Rattle.palm_store.proofs.EntriesHere.{count_fits, index_below, index_most}
use Rattle.palm_store.proofs.EntryChanges.{named_owner}
use Rattle.palm_store.proofs.KnownIds.{stand_still}

pub opened_in : {heap self : Memory} {opened : OpenDatabase} → heap ≡ self
    → IsOpened self.bytes opened → IsOpened heap.bytes opened
opened_in same is = rw same is

-- the entries are fewer than 65,536
pub few_in : {heap self : Memory} {opened : OpenDatabase} → heap ≡ self → Accepted heap.bytes
    → IsOpened self.bytes opened → length (entries_in (store_of self.bytes) opened.db) < 2 ^ 16
few_in {heap} {self} {opened} same a is =
    rw same at (count_fits heap.bytes opened.db a (opened_in same is).number)

pub below_in : {heap self : Memory} {opened : OpenDatabase} (index : ℕ) → heap ≡ self
    → IsOpened self.bytes opened → index < length (entries_in (store_of self.bytes) opened.db)
    → index < length (database_here heap.bytes opened.db.0).entries
below_in index same is below = index_below _ _ index (opened_in same is).number (rw same below)

pub most_in : {heap self : Memory} {opened : OpenDatabase} (index : ℕ) → heap ≡ self
    → IsOpened self.bytes opened → index ≤ length (entries_in (store_of self.bytes) opened.db)
    → index ≤ length (database_here heap.bytes opened.db.0).entries
most_in index same is most = index_most _ _ index (opened_in same is).number (rw same most)

-- a call that leaves the databases as they were leaves a store
pub still_store : {old new : List ℕ} {store : Store} {known : KnownIds} → LeavesStore old new store
    → store.databases ≡ (store_of old).databases → IsStore old known → IsStore new known
still_store {old} {new} {store} {known} left same s = record {
  accepted = left.accepted;
  free = stand_still (store_of old) (store_of new) known (left.same.databases ∙ same) s.free;
}

-- a call of the heap that writes bytes
pub wrote : {old new : Memory} → KeepsLoan old new → new ≡ record old { bytes = new.bytes }
    → OnlyWrites old new
wrote loan rest = record { loan = loan; rest = rest }

-- a call of the heap that may also slide bytes
pub slid : {old new : Memory} → KeepsLoan old new
    → new ≡ record old { bytes = new.bytes; slid = new.slid } → OnlySlides old new
slid loan rest = record { loan = loan; rest = rest }

-- the data of an entry has its owner
pub owned_in : {heap self : Memory} {name : ℕ} → heap ≡ self → Accepted heap.bytes
    → IsEntryData self.bytes name → owner_under heap.bytes name ≡ data_owner
owned_in {heap} {self} {name} same a own = named_owner heap.bytes name a (rw same own)
