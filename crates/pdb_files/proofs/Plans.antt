-- What is planned of each entry, together with the header and the blocks, is a plan.
use Rattle.pdb_files.proofs.Words.{◌≡◌, ℕ, zero, suc, ◌+◌, ◌<◌, ◌≤◌, Bool, Option, None, List, [], length, get_or, map, refl, sym, ap, subst, ◌∙◌, arith, inl, inr, All, AllZip, filter_map, length-map, get_or-map, ext_get_or, nil_from_length, u16_at, attributes_at, Distinct, seed_in, DatabaseHeader, has_resources, IsDatabaseName, header_in, resources_in, entry_count_in, entry_in, database_in, unique_ids, most_entries, HaveIds, kept_ids, blocks_in, size_of_block, block_sizes, DbInfo, BlockSizes, WholeEntry, size_of_data, data_sizes, CanCome, id_asked, CanBeWhole, header_asked, Block, size_within, header_read, IsPlannedAs, id_planned, ArePlannedOf, IsPlan, bytes_at, IsBlockWithin, Plan, numbered_zip, all_given, none_given, given_long, ids_of_records, ids_of_resources, block_count, length-blocks, size_at}
use Rattle.laws_heap.proofs.Tests.{true_or_false}
use Rattle.palm_store.specs.declared.entries.infos.EntryInfo.TheVariants as infos

-- ---- the IDs that are planned

ids_are : (file ids : List ℕ) (entries : List WholeEntry) (seed last : ℕ)
    → HaveIds seed (unique_ids (database_in file)) ids last
    → ArePlannedOf file ids entries (entry_count_in file) → filter_map id_asked entries ≡ ids
ids_are file ids entries seed last have are =
    let long = given_long (kept_ids [] (unique_ids (database_in file))) [] seed
    (unique_ids (database_in file)) ids last have in
    let many = are.long in
    elim (true_or_false (resources_in file)) [
      | inl resources ↦
          let zero_long = ap length (ids_of_resources file resources) in
          none_given id_asked entries (λ k d inside. (are.each k d (omega arith)).id
          ∙ ap (λ (r : Bool). id_planned r ids k) resources)
          ∙ sym (nil_from_length ids (omega arith))
      | inr records ↦
          let count = ids_of_records file records in
          all_given id_asked entries ids (omega arith) (λ k d inside.
          (are.each k d (omega arith)).id ∙ ap (λ (r : Bool). id_planned r ids k) records)
    ]

pub ids_planned : (file ids : List ℕ) (entries : List WholeEntry) (seed last : ℕ)
    → HaveIds seed (unique_ids (database_in file)) ids last
    → ArePlannedOf file ids entries (entry_count_in file)
    → HaveIds seed (unique_ids (database_in file)) (filter_map id_asked entries) last
ids_planned file ids entries seed last have are =
    subst (λ (given : List ℕ). HaveIds seed (unique_ids (database_in file)) given last)
    (sym (ids_are file ids entries seed last have are)) have

-- ---- the header

kind_read : (file : List ℕ) → (header_in file).attributes ≡ u16_at file attributes_at
unfolding header_in
kind_read file = refl

pub kind_planned : (file : List ℕ) (info : DbInfo) (last : ℕ)
    → header_asked info ≡ header_read file last → has_resources info.attributes ≡ resources_in file
kind_planned file info last header = ap (λ (h : DatabaseHeader). has_resources h.attributes) header
    ∙ ap has_resources (kind_read file)

pub can_be_whole : (file ids : List ℕ) (info : DbInfo) (entries : List WholeEntry) (seed last : ℕ)
    → IsDatabaseName info.name → header_asked info ≡ header_read file last
    → info.entry_count ≡ entry_count_in file → info.entry_count ≤ most_entries
    → HaveIds seed (unique_ids (database_in file)) ids last → Distinct ids
    → ArePlannedOf file ids entries (entry_count_in file) → CanBeWhole info entries
can_be_whole file ids info entries seed last named header count few have distinct are =
    let many = are.long in
    record {
      name = named;
      entry_count = count ∙ sym are.long;
      few = omega arith;
      each = λ k d inside. subst (λ (r : Bool). CanCome r (get_or entries k d))
          (sym (kind_planned file info last header)) (are.each k d (omega arith)).can;
      ids = subst (λ (xs : List ℕ). Distinct xs)
          (sym (ids_are file ids entries seed last have are)) distinct;
    }

-- ---- the entries and the sizes

pub entries_planned : (file ids : List ℕ) (entries : List WholeEntry)
    → ArePlannedOf file ids entries (entry_count_in file)
    → AllZip IsPlannedAs (database_in file).entries entries
unfolding database_in
entries_planned file ids entries are = numbered_zip IsPlannedAs (entry_in file) entries 0
    (entry_count_in file) are.long (λ k e inside. let same : 0 + k ≡ k = omega arith in
    subst (λ (n : ℕ). IsPlannedAs (entry_in file n) (get_or entries k e)) (sym same)
    (are.each k e inside).planned)

sizes_at : (file ids : List ℕ) (sizes : BlockSizes) (entries : List WholeEntry)
    → sizes.app_info ≡ size_of_block (get_or (blocks_in file) 0 None)
    → sizes.sort_info ≡ size_of_block (get_or (blocks_in file) 1 None)
    → ArePlannedOf file ids entries (entry_count_in file) → (rank : ℕ)
    → rank < length (data_sizes sizes entries) → get_or (data_sizes sizes entries) rank None
    ≡ size_of_block (get_or (blocks_in file) rank None)
sizes_at file ids sizes entries app sort are zero inside = app
sizes_at file ids sizes entries app sort are (suc zero) inside = sort
sizes_at file ids sizes entries app sort are (suc (suc index)) inside =
    let many = are.long in
    let long = length-map entries size_of_data in
    let next : 2 + index ≡ suc (suc index) = omega arith in
    let entry : WholeEntry = (infos.Resource 0 0, None) in
    get_or-map size_of_data entries index entry None (omega arith)
    ∙ (are.each index entry (omega arith)).size
    ∙ ap (λ (rank : ℕ). size_of_block (get_or (blocks_in file) rank None)) next

pub sizes_planned : (file ids : List ℕ) (sizes : BlockSizes) (entries : List WholeEntry)
    → sizes.app_info ≡ size_of_block (get_or (blocks_in file) 0 None)
    → sizes.sort_info ≡ size_of_block (get_or (blocks_in file) 1 None)
    → ArePlannedOf file ids entries (entry_count_in file)
    → data_sizes sizes entries ≡ block_sizes file
sizes_planned file ids sizes entries app sort are =
    let many = are.long in
    let count = block_count file in
    let entries_long = length-map entries size_of_data in
    let blocks_long = length-map (blocks_in file) size_of_block in
    ext_get_or None (data_sizes sizes entries) (block_sizes file) (omega arith) (λ rank inside.
    sizes_at file ids sizes entries app sort are rank inside
    ∙ sym (get_or-map size_of_block (blocks_in file) rank None None (omega arith)))

-- ---- all of it

pub planned : (file ids : List ℕ) (plan : Plan) (last : ℕ) (blocks : List (Option Block))
    → HaveIds (seed_in (header_in file).seed) (unique_ids (database_in file)) ids last
    → Distinct ids → IsDatabaseName plan.info.name → header_asked plan.info ≡ header_read file last
    → plan.info.entry_count ≡ entry_count_in file → plan.info.entry_count ≤ most_entries
    → ArePlannedOf file ids plan.entries.items (entry_count_in file)
    → plan.sizes.app_info ≡ size_within (get_or blocks 0 None)
    → plan.sizes.sort_info ≡ size_within (get_or blocks 1 None)
    → map (bytes_at file) blocks ≡ blocks_in file → All (IsBlockWithin (length file)) blocks
    → IsPlan file plan
planned file ids plan last blocks have distinct named header count few are app sort here inside =
    let entries : List WholeEntry = plan.entries.items in
    let long = length-blocks file blocks here in
    record {
      can = can_be_whole file ids plan.info entries
          (seed_in (header_in file).seed) last named header count few have distinct are;
      last_seed = last;
      ids = ids_planned file ids entries (seed_in (header_in file).seed) last have are;
      header = header;
      entries = entries_planned file ids entries are;
      sizes = sizes_planned file ids plan.sizes entries
          (size_at file blocks 0 plan.sizes.app_info here inside (omega arith) app)
          (size_at file blocks 1 plan.sizes.sort_info here inside (omega arith) sort) are;
    }
