-- A database that was made whole by a plan, and whose blocks are filled, is the one that is read
-- from the file.
use Rattle.pdb_files.proofs.Words.{◌≡◌, ℕ, zero, suc, ◌+◌, ◌<◌, ◌≤◌, Bool, Option, Some, None, List, [], ◌∷◌, length, get_or, map, drop, refl, sym, ap, subst, ◌∙◌, arith, inl, inr, All, AllZip, filter_map, length-map, get_or-map, ext_get_or, get_or_default, length-map-range_with_len, data_owner, Memory, times, LiveChunk, ChunkMap, Of, Still, seed_in, FirstBrings, DatabaseHeader, Database, Entry, a_record, a_resource, entry_with, entry_data, data_in, name_in, header_in, resources_in, entry_count_in, entry_in, entry_offset, database_in, bytes_of, bytes_named, content, unique_id, unique_ids, most_databases, Accepted, store_of, IsTaken, entries_end, blocks_in, HasNoFault, HaveIds, IsReadAs, size_of_block, block_sizes, whole_parts, whole_slots, IsNewData, GainsRead, StoreAsBefore, DoesInStore, Db, Import, Refusal, OutOfMemory, refused, LeavesChanged, OnlySlides, WholeEntry, data_sizes, id_asked, entries_named, whole_database, whole_size, RunsOut, IsGained, GainsZeros, MakesWhole, checks_of_whole, Plan, IsPlannedAs, IsPlan, HasBlock, zeros_for, AreFilled, Refills, zip_long, zip_at, bytes_at, Block, length-blocks}
use Rattle.heap_model.specs.declared.call.Call.TheVariants as calls
use Rattle.heap_model.specs.declared.call.Reply.TheVariants as replies
use Rattle.palm_store.specs.declared.entries.infos.EntryInfo.TheVariants as infos
use Rattle.palm_store.specs.WholeDatabases.{entry_named}
use Rattle.palm_store.proofs.WholeSteps.{whole_data}
use Rattle.pdb_files.proofs.Plans.{kind_planned}
use Rattle.pdb_files.proofs.Refusals.{behind_front, good_brings, good_none}

name_read : (file : List ℕ) → (header_in file).name ≡ name_in file
unfolding header_in
name_read file = refl

entries_count : (file : List ℕ) → length (database_in file).entries ≡ entry_count_in file
unfolding database_in
entries_count file = length-map-range_with_len (entry_in file) 0 (entry_count_in file)

-- ---- what is made is to be filled

zeros_there : (old new : ChunkMap) (block : Option (List ℕ)) (name : ℕ)
    → IsGained old new (size_of_block block) name → HasBlock new (zeros_for block) name
zeros_there old new None name is = is
zeros_there old new (Some bytes) name is = (is.0, is.2)

pub zeros_first : (old new : ChunkMap) (sizes : List (Option ℕ)) (blocks : List (Option (List ℕ)))
    (names : List ℕ) → sizes ≡ map size_of_block blocks → GainsZeros old new sizes names
    → AreFilled new blocks names 0
zeros_first old new sizes blocks names are gains =
    let each =
    subst (λ (xs : List (Option ℕ)). AllZip (IsGained old new) xs names) are gains.each in
    let long = zip_long (IsGained old new) (map size_of_block blocks) names each in
    let many = length-map blocks size_of_block in
    record {
      filled = λ index below. absurd (omega arith);
      zeros = λ index behind below. zeros_there old new (get_or blocks index None) (get_or names
          index 0) (subst (λ (size : Option ℕ). IsGained old new size (get_or names index 0))
          (get_or-map size_of_block blocks index None None (omega arith)) (zip_at (IsGained old new)
          (map size_of_block blocks) names index None 0 each (omega arith)));
    }

-- ---- the content

abbrev named : (ℕ → Option (List ℕ)) → List WholeEntry → List ℕ → List (Entry (Option (List ℕ)))
named bytes entries names = map (entry_with bytes) (entries_named entries names)

ids_kept : (bytes : ℕ → Option (List ℕ)) (entries : List WholeEntry) (names : List ℕ)
    → filter_map unique_id (named bytes entries names) ≡ filter_map id_asked entries
ids_kept bytes [] names = refl
ids_kept bytes ((infos.Record attributes id, size) ∷ entries) [] =
    ap (λ (ids : List ℕ). id ∷ ids) (ids_kept bytes entries [])
ids_kept bytes ((infos.Resource kind id, size) ∷ entries) [] = ids_kept bytes entries []
ids_kept bytes ((infos.Record attributes id, size) ∷ entries) (name ∷ names) =
    ap (λ (ids : List ℕ). id ∷ ids) (ids_kept bytes entries names)
ids_kept bytes ((infos.Resource kind id, size) ∷ entries) (name ∷ names) =
    ids_kept bytes entries names

one_read : (bytes : ℕ → Option (List ℕ)) (entry : Entry ℕ) (one : WholeEntry) (name : ℕ)
    → IsPlannedAs entry one → IsReadAs entry (entry_with bytes (entry_named one name))
one_read bytes (a_record attributes id at) (infos.Record other other_id, size) name is = is
one_read bytes (a_record attributes id at) (infos.Resource kind other_id, size) name is = is
one_read bytes (a_resource kind id at) (infos.Record other other_id, size) name is = is
one_read bytes (a_resource kind id at) (infos.Resource other other_id, size) name is = is

all_read : (bytes : ℕ → Option (List ℕ)) (file_entries : List (Entry ℕ)) (entries : List WholeEntry)
    (names : List ℕ) → AllZip IsPlannedAs file_entries entries
    → AllZip IsReadAs file_entries (named bytes entries names)
all_read bytes [] [] names are = tt
all_read bytes [] (one ∷ entries) names are = absurd are
all_read bytes (entry ∷ file_entries) [] names are = absurd are
all_read bytes (entry ∷ file_entries) (one ∷ entries) [] are =
    (one_read bytes entry one 0 are.0, all_read bytes file_entries entries [] are.1)
all_read bytes (entry ∷ file_entries) (one ∷ entries) (name ∷ names) are =
    (one_read bytes entry one name are.0, all_read bytes file_entries entries names are.1)

data_with : {A B : Type 0} (f : A → B) (entries : List (Entry A))
    → map entry_data (map (entry_with f) entries) ≡ map f (map entry_data entries)
data_with f [] = refl
data_with {A} {B} f (a_record attributes id at ∷ entries) =
    ap (λ (more : List B). f at ∷ more) (data_with f entries)
data_with {A} {B} f (a_resource kind id at ∷ entries) =
    ap (λ (more : List B). f at ∷ more) (data_with f entries)

content_data : (chunks : ChunkMap) (database : Database ℕ)
    → data_in (content chunks database) ≡ map (bytes_named chunks) (data_in database)
content_data chunks database =
    ap (λ (more : List (Option (List ℕ))). bytes_named chunks database.app_info ∷ bytes_named chunks
    database.sort_info ∷ more) (data_with (bytes_named chunks) database.entries)

block_named : (chunks : ChunkMap) (block : Option (List ℕ)) (name : ℕ) → HasBlock chunks block name
    → bytes_named chunks name ≡ block
block_named chunks None zero has = refl
block_named chunks None (suc name) has = absurd (omega arith)
block_named chunks (Some bytes) zero has = let some = has.0 in absurd (omega arith)
block_named chunks (Some bytes) (suc name) has =
    ap (λ (o : Option LiveChunk). Some (bytes_of o)) has.1

blocks_there : (chunks : ChunkMap) (blocks : List (Option (List ℕ))) (names : List ℕ)
    → length names ≡ length blocks → AreFilled chunks blocks names (length names)
    → map (bytes_named chunks) names ≡ blocks
blocks_there chunks blocks names long are =
    let many = length-map names (bytes_named chunks) in
    ext_get_or None (map (bytes_named chunks) names) blocks (omega arith)
    (λ index inside. get_or-map (bytes_named chunks) names index 0 None (omega arith) ∙ block_named
    chunks (get_or blocks index None) (get_or names index 0) (are.filled index (omega arith)))

-- ---- what the store gains

new_data : (old mid new : ChunkMap) (block : Option (List ℕ)) (name : ℕ)
    → IsGained old mid (size_of_block block) name → HasBlock new block name → IsNewData old new name
new_data old mid new None name gained has = inl has
new_data old mid new (Some bytes) name gained has =
    let P : Option LiveChunk → Type 0 =
    λ o. Of o (λ live. (live.lock ≡ 0) × (live.owner ≡ data_owner)) in
    inr (gained.1, subst P (sym has.1) (refl, refl))

pub gains_read : (old mid new file : List ℕ) (db : ℕ) (plan : Plan) (names : List ℕ)
    → HasNoFault file → IsPlan file plan
    → MakesWhole old mid db plan.info plan.sizes plan.entries.items names → Refills mid new names
    → length names ≡ 2 + length plan.entries.items
    → AreFilled (store_of new).map (blocks_in file) names (length names)
    → GainsRead (store_of old) (store_of new) db file
gains_read old mid new file db plan names good is makes refills many filled =
    let database : Database ℕ = whole_database plan.info plan.entries.items names in
    let chunks : ChunkMap = (store_of new).map in
    let named_data : data_in database ≡ names =
    whole_data plan.info plan.entries.items names many in
    let gains = makes.gains.map in
    let each = subst (λ (xs : List (Option ℕ)).
    AllZip (IsGained (store_of old).map (store_of mid).map) xs names) is.sizes gains.each in
    let zip = zip_long (IsGained (store_of old).map (store_of mid).map)
    (map size_of_block (blocks_in file)) names each in
    let blocks_long = length-map (blocks_in file) size_of_block in
    record {
      database = database;
      databases = refills.databases ∙ makes.gains.databases;
      reads = record {
        good = good;
        last_seed = is.last_seed;
        ids = subst (λ (ids : List ℕ). HaveIds (seed_in (header_in file).seed)
            (unique_ids (database_in file)) ids is.last_seed)
            (sym (ids_kept (bytes_named chunks) plan.entries.items (drop 2 names))) is.ids;
        header = is.header;
        entries = all_read (bytes_named chunks) (database_in file).entries plan.entries.items
            (drop 2 names) is.entries;
        blocks = content_data chunks database ∙ ap (map (bytes_named chunks)) named_data
            ∙ blocks_there chunks (blocks_in file) names (omega arith) filled;
      };
      each = subst (λ (xs : List ℕ). All (IsNewData (store_of old).map chunks) xs) (sym named_data)
          (λ index default below. subst (IsNewData (store_of old).map chunks)
          (get_or_default names index 0 default below) (new_data (store_of old).map
          (store_of mid).map chunks (get_or (blocks_in file) index None) (get_or names index 0)
          (subst (λ (size : Option ℕ). IsGained (store_of old).map (store_of mid).map size
          (get_or names index 0)) (get_or-map size_of_block (blocks_in file) index None None
          (omega arith)) (zip_at (IsGained (store_of old).map (store_of mid).map) (map size_of_block
          (blocks_in file)) names index None 0 each (omega arith))) (filled.filled index below)));
      once = subst (λ (xs : List ℕ). (name : ℕ) → 0 < name → times name xs ≤ 1)
          (sym named_data) gains.once;
      others = λ name none.
          let gone : 0 < name → times name names ≡ 0 =
          λ some. ap (times name) (sym named_data) ∙ none some in
          refills.others name gone ∙ gains.others name gone;
    }

-- ---- the step

still_filled : (old mid new names : List ℕ) → Still old mid → Refills mid new names → Still old new
still_filled old mid new names still refills name live there locked stays =
    let between = refills.none_made name stays in
    refills.unmoved name between stays ∙ still name live there locked between

pub imported : (old mid new : Memory) (file : List ℕ) (db : Db) (plan : Plan) (names : List ℕ)
    → Accepted old.bytes → HasNoFault file → (IsTaken (store_of old.bytes) 0 (name_in file) → ⊥)
    → length (store_of old.bytes).databases < most_databases → IsPlan file plan
    → MakesWhole old.bytes mid.bytes db.0 plan.info plan.sizes plan.entries.items names
    → Refills mid.bytes new.bytes names → length names ≡ 2 + length plan.entries.items
    → AreFilled (store_of new.bytes).map (blocks_in file) names (length names) → OnlySlides old new
    → DoesInStore old (calls.File (Import file)) (replies.Database db) new
imported old mid new file db plan names a good free few is makes refills many filled kept = record {
  before = a;
  step = (
    good_none file _ good (free, ((λ most. omega arith), (tt, (tt, tt)))),
    (
      makes.fresh,
      gains_read old.bytes mid.bytes new.bytes file db.0 plan names good is makes refills many
          filled,
    ),
  );
  accepted = refills.accepted;
  len = refills.len ∙ makes.len;
  tables = refills.tables ∙ makes.tables;
  directory = elim makes.directory [
    | inl stays ↦ inl (refills.directory ∙ stays)
    | inr begins ↦ inr (begins, tt)
  ];
  still = still_filled old.bytes mid.bytes new.bytes names makes.still refills;
  loan = kept.loan;
  asks = tt;
  rest = kept.rest;
}

-- ---- what is refused

-- the call can be refused with out of memory, if no check before that refuses
pub no_memory_left : (old : Memory) (file : List ℕ) → Accepted old.bytes → HasNoFault file
    → (IsTaken (store_of old.bytes) 0 (name_in file) → ⊥)
    → length (store_of old.bytes).databases < most_databases
    → DoesInStore old (calls.File (Import file)) (replies.Refused OutOfMemory) old
no_memory_left old file a good free few = refused old (calls.File (Import file)) OutOfMemory a
    (good_brings file _ OutOfMemory good (inr (free, inr ((λ most. omega arith), inl (tt, refl)))))

-- if there was no room, all is as before
pub no_room_left : (old new : Memory) (file : List ℕ) (plan : Plan) (refusal : Refusal)
    → Accepted old.bytes → HasNoFault file → (IsTaken (store_of old.bytes) 0 (name_in file) → ⊥)
    → length (store_of old.bytes).databases < most_databases → IsPlan file plan
    → FirstBrings (checks_of_whole old.bytes plan.info plan.sizes plan.entries.items) refusal
    → LeavesChanged old new (λ store. store) → StoreAsBefore old new → OnlySlides old new
    → DoesInStore old (calls.File (Import file)) (replies.Refused refusal) new
no_room_left old new file plan refusal a good free few is why leaves before kept = record {
  before = a;
  step = (good_brings file _ refusal good (lacking why), before);
  accepted = leaves.accepted;
  len = leaves.len;
  tables = leaves.tables;
  directory = inl leaves.directory;
  still = leaves.still;
  loan = kept.loan;
  asks = tt;
  rest = kept.rest;
} where
  named_as : plan.info.name ≡ name_in file
  named_as = ap (λ (h : DatabaseHeader). h.name) is.header ∙ name_read file

  size_as : whole_size plan.info plan.entries.items ≡ entries_end file
  size_as =
      let entries_long =
      zip_long IsPlannedAs (database_in file).entries plan.entries.items is.entries in
      ap (λ (r : Bool). entry_offset r (length plan.entries.items))
      (kind_planned file plan.info is.last_seed is.header)
      ∙ ap (entry_offset (resources_in file)) (sym entries_long ∙ entries_count file)

  runs_out : RunsOut old.bytes (whole_slots old.bytes (data_sizes plan.sizes plan.entries.items))
      (whole_parts old.bytes (whole_size plan.info plan.entries.items)
      (data_sizes plan.sizes plan.entries.items)) → RunsOut old.bytes (whole_slots old.bytes
      (block_sizes file)) (whole_parts old.bytes (entries_end file) (block_sizes file))
  runs_out lacks = subst (λ (size : ℕ). RunsOut old.bytes (whole_slots old.bytes (block_sizes file))
      (whole_parts old.bytes size (block_sizes file))) size_as
      (subst (λ (sizes : List (Option ℕ)). RunsOut old.bytes (whole_slots old.bytes sizes)
      (whole_parts old.bytes (whole_size plan.info plan.entries.items) sizes)) is.sizes lacks)

  lacking : FirstBrings (checks_of_whole old.bytes plan.info plan.sizes plan.entries.items) refusal
      → FirstBrings (behind_front old file) refusal
  lacking (inl (taken, e)) =
      absurd (free (subst (λ (name : List ℕ). IsTaken (store_of old.bytes) 0 name) named_as taken))
  lacking (inr (passed, inl (many, e))) = absurd (omega arith)
  lacking (inr (passed, inr (less, inl (lacks, e)))) =
      inr (free, inr ((λ most. omega arith), inr (tt, inl (runs_out lacks, e))))
  lacking (inr (passed, inr (less, inr (could, none)))) = absurd none

-- ---- the names that the caller lends

pub names_enough : (file : List ℕ) (plan : Plan) (blocks : List (Option Block))
    → map (bytes_at file) blocks ≡ blocks_in file → IsPlan file plan
    → length blocks ≡ 2 + length plan.entries.items
names_enough file plan blocks are is =
    let long = length-blocks file blocks are in
    let entries_long =
    zip_long IsPlannedAs (database_in file).entries plan.entries.items is.entries in
    let count = entries_count file in
    omega arith
