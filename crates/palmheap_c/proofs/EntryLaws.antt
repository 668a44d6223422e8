-- The header and the entries that are read from a file.
use Rattle.palmheap_c.proofs.Words.{◌≡◌, ◌<◌, ◌+◌, ℕ, List, [], ◌∷◌, ◌++◌, length, get_or, take, drop, refl, sym, ap, subst, ◌∙◌, arith, inl, inr, cases_lt, drop-drop, drop-set-lt, get_or_past, take_more_set, All, slice_set, Entry, a_record, a_resource, database_in, entry_count_in, entry_in, header_in, name_field, name_in, info_of, HasNoFault, numbered, DbInfo, IsBlockWithin, places_in, IsInside, placed, HasDataInside, IsRead, Outputs, place_of_data, entry_in_c, file_entry_at, place_of_rank, database_from_c, Block, FileEntry}
use Rattle.std.proofs.Common.{Option, None}
use Rattle.std.proofs.lemmas.List.FromFn.{get_or-map-range_with_len, length-map-range_with_len, map-range_with_len_more}
use Rattle.db_format.specs.Headers.{IsHeaderOf, info_told}
use Rattle.db_format.specs.declared.header.DbHeader.{DbHeader}
use Rattle.pdb_format.specs.Opened.{HasPlaces}
use Rattle.pdb_format.specs.declared.blocks.Block as files
use Rattle.palm_store.proofs.Lookups.{info_read}
use Rattle.palmheap_c.proofs.BlockLaws.{inside_placed}

-- its name is that of the file
pub name_told : (file : List ℕ) (info : DbInfo) → info ≡ info_of (database_in file)
    → name_field info.name ≡ name_field (name_in file)
unfolding database_in header_in
name_told file info is = ap (λ (one : DbInfo). name_field one.name) is

-- one entry more is written
pub one_more : (file : List ℕ) (i : ℕ) (to first : List FileEntry) (entry : FileEntry)
    → i < length to → take i to ≡ numbered (file_entry_at file) i → drop i to ≡ drop i first
    → entry ≡ file_entry_at file i
    → (take (i + 1) (slice_set to i entry) ≡ numbered (file_entry_at file) (i + 1))
    × (drop (i + 1) (slice_set to i entry) ≡ drop (i + 1) first)
one_more file i to first entry within before rest is = (
  take_more_set to i entry within
      ∙ ap (λ (front : List FileEntry). front ++ entry ∷ []) before
      ∙ ap (λ (last : FileEntry). numbered (file_entry_at file) i ++ last ∷ []) is
      ∙ sym (map-range_with_len_more (file_entry_at file) 0 i i (omega arith)),
  drop-set-lt (i + 1) to i entry (omega arith) ∙ sym (drop-drop 1 i to) ∙ ap (drop 1) rest
      ∙ drop-drop 1 i first,
)

-- ---- the places lie within the file

pub rank_inside : (file : List ℕ) (rank : ℕ) (block : Block)
    → All (IsBlockWithin (length file)) (places_in file) → block ≡ place_of_rank file rank
    → IsInside (length file) block
rank_inside file rank block within is =
    subst (IsInside (length file)) (sym is) (elim (cases_lt rank (length (places_in file))) [
      | inl less ↦
          inside_placed (length file) (get_or (places_in file) rank None) (within rank None less)
      | inr past ↦ subst (λ (place : Option files.Block). IsInside (length file) (placed place))
          (sym (get_or_past (places_in file) rank None past)) (omega arith, omega arith)
    ])

-- the place of the data of an entry that is read
pub data_place : (entry : Entry ℕ) (block : Block) → place_of_data (entry_in_c entry block) ≡ block
data_place (a_record attributes id at) block = refl
data_place (a_resource kind id at) block = refl

pub all_inside : (file : List ℕ) (count : ℕ) (entries : List FileEntry)
    → All (IsBlockWithin (length file)) (places_in file)
    → entries ≡ numbered (file_entry_at file) count → All (HasDataInside (length file)) entries
all_inside file count entries within are =
    subst (All (HasDataInside (length file))) (sym are) (λ k d inside.
    let long = length-map-range_with_len (file_entry_at file) 0 count in
    let here =
    get_or-map-range_with_len (file_entry_at file) 0 count k k d (omega arith) (omega arith) in
    subst (HasDataInside (length file)) (sym here) (rank_inside file (2 + k) (place_of_data
    (file_entry_at file k)) within (data_place (entry_in file k) (place_of_rank file (2 + k)))))

-- ---- the whole

-- what is written is read from the file
pub is_read : (file : List ℕ) (header : DbHeader) (info : DbInfo) (was new : Outputs)
    → HasNoFault file → HasPlaces file (places_in file) → IsHeaderOf (database_in file) header
    → info ≡ info_told header → database_from_c new.header ≡ info
    → new.header.name ≡ name_field info.name → new.app ≡ place_of_rank file 0
    → new.sort ≡ place_of_rank file 1 → new.count ≡ entry_count_in file
    → take (entry_count_in file) new.entries ≡ numbered (file_entry_at file) (entry_count_in file)
    → drop (entry_count_in file) new.entries ≡ drop (entry_count_in file) was.entries
    → IsRead file was new
is_read file header info was new good places head told from_c field app sort counted read others =
    let same = told ∙ info_read (database_in file) header head in
    let entries =
    subst (λ (n : ℕ). take n new.entries ≡ numbered (file_entry_at file) n) (sym counted) read in
    record {
      good = good;
      header_is = from_c ∙ same;
      name_is = field ∙ name_told file info same;
      app_is = app;
      sort_is = sort;
      counted = counted;
      entries_are = entries;
      app_inside = rank_inside file 0 new.app places.within app;
      sort_inside = rank_inside file 1 new.sort places.within sort;
      data_inside = all_inside file new.count (take new.count new.entries) places.within entries;
      others = subst (λ (n : ℕ). drop n new.entries ≡ drop n was.entries) (sym counted) others;
    }
