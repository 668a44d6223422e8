-- The header, the entries and the blocks of a file, with the IDs that its records have, are the
-- database that is read from it.
use Rattle.std.proofs.Common.{◌≡◌, ℕ, zero, suc, ◌+◌, ◌<◌, Bool, true, false, Option, Some, None, List, [], length, get_or, refl, sym, ap, subst, ◌∙◌, arith, inl, inr}
use Rattle.std.specs.List.{AllZip, filter_map}
use Rattle.std.proofs.lemmas.List.{length-map, get_or-map, ext_get_or, nil_from_length}
use Rattle.std.proofs.lemmas.List.FromFn.{length-map-range_with_len, get_or-map-range_with_len}
use Rattle.heap_model.specs.UniqueIds.{seed_in}
use Rattle.heap_model.specs.Database.{Entry, a_record, a_resource, entry_data, data_in, header_in, resources_in, entry_count_in, entry_at, entry_in, entry_offset, database_in}
use Rattle.heap_model.specs.Store.{unique_id, unique_ids}
use Rattle.heap_model.specs.Files.{kept_ids, blocks_in, IsReadAs, HasNoFault, HaveIds, Reads}
use Rattle.laws_heap.proofs.Tests.{true_or_false}
use Rattle.pdb_format.specs.ReadFiles.{entry_read, entry_read_at, entries_read, database_read}
use Rattle.pdb_format.proofs.Zips.{numbered_zip, all_given, none_given}
use Rattle.pdb_format.proofs.FileIds.{given_long, ids_of_records, ids_of_resources}
use Rattle.pdb_format.proofs.FileBlocks.{block_count}

pub length-entries_read : (file ids : List ℕ) → length (entries_read file ids) ≡ entry_count_in file
length-entries_read file ids =
    length-map-range_with_len (entry_read_at file ids) 0 (entry_count_in file)

-- the entry of an index
pub entry_read_is : (file ids : List ℕ) (k : ℕ) (d : Entry (Option (List ℕ)))
    → k < entry_count_in file → get_or (entries_read file ids) k d ≡ entry_read_at file ids k
entry_read_is file ids k d inside =
    get_or-map-range_with_len (entry_read_at file ids) 0 (entry_count_in file) k k d inside
    (omega arith)

-- ---- the IDs

record_id : (resources : Bool) (file : List ℕ) (at given : ℕ) (block : Option (List ℕ))
    → resources ≡ false
    → unique_id (entry_read (entry_at resources file at) given block) ≡ Some given
record_id false file at given block e = refl
record_id true file at given block e = absurd cc

resource_id : (resources : Bool) (file : List ℕ) (at given : ℕ) (block : Option (List ℕ))
    → resources ≡ true → unique_id (entry_read (entry_at resources file at) given block) ≡ None
resource_id true file at given block e = refl
resource_id false file at given block e = absurd cc

-- the records have these IDs, if there is one for each
pub given_read : (file ids : List ℕ) → length ids ≡ length (unique_ids (database_in file))
    → filter_map unique_id (entries_read file ids) ≡ ids
given_read file ids long =
    let many = length-entries_read file ids in
    let at : ℕ → ℕ = λ k. entry_offset (resources_in file) k in
    let block : ℕ → Option (List ℕ) = λ k. get_or (blocks_in file) (2 + k) None in
    elim (true_or_false (resources_in file)) [
      | inl resources ↦
          let zero_long = ap length (ids_of_resources file resources) in
          none_given unique_id (entries_read file ids)
          (λ k d inside. ap unique_id (entry_read_is file ids k d (omega arith))
          ∙ resource_id (resources_in file) file (at k) (get_or ids k 0) (block k) resources)
          ∙ sym (nil_from_length ids (omega arith))
      | inr records ↦
          let count = ids_of_records file records in
          all_given unique_id (entries_read file ids) ids (omega arith)
          (λ k d inside. ap unique_id (entry_read_is file ids k d (omega arith))
          ∙ record_id (resources_in file) file (at k) (get_or ids k 0) (block k) records)
    ]

-- so they have those that are given
pub ids_read : (file ids : List ℕ) (seed last : ℕ)
    → HaveIds seed (unique_ids (database_in file)) ids last
    → filter_map unique_id (entries_read file ids) ≡ ids
ids_read file ids seed last have =
    given_read file ids
    (given_long (kept_ids [] (unique_ids (database_in file))) [] seed
    (unique_ids (database_in file)) ids last have)

-- ---- the entries and the blocks

one_read : (entry : Entry ℕ) (given : ℕ) (block : Option (List ℕ))
    → IsReadAs entry (entry_read entry given block)
one_read (a_record attributes id at) given block = refl
one_read (a_resource kind id at) given block = (refl, refl)

pub data_read : (entry : Entry ℕ) (given : ℕ) (block : Option (List ℕ))
    → entry_data (entry_read entry given block) ≡ block
data_read (a_record attributes id at) given block = refl
data_read (a_resource kind id at) given block = refl

pub all_read : (file ids : List ℕ)
    → AllZip IsReadAs (database_in file).entries (entries_read file ids)
unfolding database_in
all_read file ids =
    numbered_zip IsReadAs (entry_in file) (entries_read file ids) 0 (entry_count_in file)
    (length-entries_read file ids)
    (λ k e inside.
    let same : 0 + k ≡ k = omega arith in
    subst (λ (n : ℕ). IsReadAs (entry_in file n) (get_or (entries_read file ids) k e)) (sym same)
    (subst (IsReadAs (entry_in file k)) (sym (entry_read_is file ids k e inside))
    (one_read (entry_in file k) (get_or ids k 0) (get_or (blocks_in file) (2 + k) None))))

block_read : (file ids : List ℕ) (seed rank : ℕ) → rank < length (blocks_in file)
    → get_or (data_in (database_read file ids seed)) rank None ≡ get_or (blocks_in file) rank None
unfolding database_read
block_read file ids seed zero inside = refl
block_read file ids seed (suc zero) inside = refl
block_read file ids seed (suc (suc k)) inside =
    let count = block_count file in
    let long = length-entries_read file ids in
    let next : 2 + k ≡ suc (suc k) = omega arith in
    let some : Entry (Option (List ℕ)) = a_record 0 0 None in
    get_or-map (entry_data {Data = Option (List ℕ)}) (entries_read file ids) k some None
    (omega arith)
    ∙ ap (entry_data {Data = Option (List ℕ)}) (entry_read_is file ids k some (omega arith))
    ∙ data_read (entry_in file k) (get_or ids k 0) (get_or (blocks_in file) (2 + k) None)
    ∙ ap (λ (rank : ℕ). get_or (blocks_in file) rank None) next

pub blocks_read_are : (file ids : List ℕ) (seed : ℕ)
    → data_in (database_read file ids seed) ≡ blocks_in file
unfolding database_read
blocks_read_are file ids seed =
    let count = block_count file in
    let long = length-entries_read file ids in
    let data_long = length-map (entries_read file ids) (entry_data {Data = Option (List ℕ)}) in
    ext_get_or None (data_in (database_read file ids seed)) (blocks_in file) (omega arith)
    (λ rank inside. block_read file ids seed rank (omega arith))

-- ---- all of it

pub reads : (file ids : List ℕ) (last : ℕ) → HasNoFault file
    → HaveIds (seed_in (header_in file).seed) (unique_ids (database_in file)) ids last
    → Reads file (database_read file ids last)
unfolding database_read
reads file ids last good have = record {
  good = good;
  last_seed = last;
  ids = rw (← (ids_read file ids (seed_in (header_in file).seed) last have)) at have;
  header = refl;
  entries = all_read file ids;
  blocks = blocks_read_are file ids last;
}
