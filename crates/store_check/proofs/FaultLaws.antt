-- An accepted heap is accepted with its databases if it has no fault.
use Rattle.store_check.proofs.Terms.{◌≡◌, ℕ, ◌*◌, ◌/◌, ◌%◌, ◌<◌, ◌≤◌, Bool, true, false, List, [], ◌∷◌, length, map, get_or, take, refl, sym, ap, subst, ◌∙◌, arith, inl, inr, cases_eq, cases_lt, false≢true, Decides-and, Decides-or, Decides-eqb, Decides-like, get_or-map, length-map, bytes_eq-Decides, ◌↔◌, ◌&&◌, ◌||◌, ◌==◌, All, AreBytes, u32_at, HeapAccepted, times, Distinct, numbered, Entry, a_record, a_resource, is_deleted, name_field, name_in, entry_data, data_in, header_in, resources_in, entry_offset, entry_in, entry_count_in, database_in, HasName, HasShape, StoredDatabase, bytes_under, owner_under, directory_bytes, listed, database_under, databases, named, most_databases, IsHeaderSlot, IsInfoBlock, HasData, unique_ids, HasUniqueIds, IsDatabase, names_of, Accepted, all-times, All-flat_map, no_least, no_least_pair, listed_at, listed_count, header_at, IsBadSlot, HasDatabaseHeader, IsBadHeader, IsBadEntry, IsShared, IsStray, HasBadId, IsBadId, IsBadName, IsSameName, store_faults, NoneBrought, AreNamed}
use Rattle.std.proofs.lemmas.List.Elements.{All-cons, All-map}
use Rattle.std.specs.Bool.{Decides}
use Rattle.std.specs.Str.{bytes_eq}
use Rattle.laws_store.proofs.Bodies.{held_bytes}
use Rattle.laws_store.proofs.Counts.{named_owner}
use Rattle.laws_store.proofs.Tests.{Decides-name}
use Rattle.laws_store.proofs.NameCounts.{unique_counts, counts_unique}
use Rattle.laws_store.proofs.Shapes.{spelled_shape, shape_spelled}
use Rattle.laws_store.specs.StoreTests.{is_name}
use Rattle.db_format.specs.Headers.{AreWholeBytes}
use Rattle.laws_store.proofs.RecordIds.{ids_index, ids_once, once_ids, index_ids}
use Rattle.store_check.proofs.IndexLaws.{length-numbered, numbered_at, all_numbered, numbered_all, distinct_numbered, numbered_distinct}
use Rattle.store_check.proofs.CountLaws.{data_once, all_listed, not_shared, not_stray}

-- ---- no row, and no number of which its condition holds

pub record Faultless (image : List ℕ) : Type 0 where
  pub slots : (index : ℕ) → IsBadSlot image index → ⊥
  pub headers : (db : ℕ) → IsBadHeader image db → ⊥
  pub entries : (db index : ℕ) → IsBadEntry image db index → ⊥
  pub shared : (slot : ℕ) → IsShared image slot → ⊥
  pub stray : (slot : ℕ) → IsStray image slot → ⊥
  pub ids : (db index : ℕ) → IsBadId image db index → ⊥
  pub names : (db : ℕ) → IsBadName image db → ⊥
  pub same_names : (db : ℕ) → IsSameName image db → ⊥

faultless_none : (image : List ℕ) → Faultless image → NoneBrought (store_faults image)
faultless_none image f = (
  λ fault row. f.slots row.0 row.1.here,
  (
    λ fault row. f.headers row.0 row.1.here,
    (
      λ fault row. f.entries row.0 row.1 row.2.here,
      (
        λ fault row. f.shared row.0 row.1.here,
        (
          λ fault row. f.stray row.0 row.1.here,
          (
            λ fault row. f.ids row.0 row.1 row.2.here,
            (
              λ fault row. f.names row.0 row.1.here,
              (
                λ fault row. f.same_names row.0 row.1.here,
                tt,
              ),
            ),
          ),
        ),
      ),
    ),
  ),
)

none_faultless : (image : List ℕ) → NoneBrought (store_faults image) → Faultless image
none_faultless image n = record {
  slots = no_least (IsBadSlot image) (λ k l. n.0 _ (k, l, refl));
  headers = no_least (IsBadHeader image) (λ k l. n.1.0 _ (k, l, refl));
  entries = no_least_pair (IsBadEntry image) (λ k i l. n.1.1.0 _ (k, i, l, refl));
  shared = no_least (IsShared image) (λ k l. n.1.1.1.0 _ (k, l, refl));
  stray = no_least (IsStray image) (λ k l. n.1.1.1.1.0 _ (k, l, refl));
  ids = no_least_pair (IsBadId image) (λ k i l. n.1.1.1.1.1.0 _ (k, i, l, refl));
  names = no_least (IsBadName image) (λ k l. n.1.1.1.1.1.1.0 _ (k, l, refl));
  same_names = no_least (IsSameName image) (λ k l. n.1.1.1.1.1.1.1.0 _ (k, l, refl));
}

-- ---- what isn't wrong is right

pub decided : (b : Bool) (P : Type 0) → Decides b P → ((P → ⊥) → ⊥) → P
decided true P d nn = d.0 refl
decided false P d nn = absurd (nn (λ p. false≢true (d.1 p)))

Decides-info : (image : List ℕ) (slot : ℕ)
    → Decides ((slot == 0) || (owner_under image slot == 15)) (IsInfoBlock image slot)
Decides-info image slot =
    Decides-or _ _ (Decides-eqb slot 0) (Decides-eqb (owner_under image slot) 15)

pub info_decided : (image : List ℕ) (slot : ℕ) → ((IsInfoBlock image slot → ⊥) → ⊥)
    → IsInfoBlock image slot
info_decided image slot nn = decided _ (IsInfoBlock image slot) (Decides-info image slot) nn

pub data_decided : (image : List ℕ) (entry : Entry ℕ) → ((HasData image entry → ⊥) → ⊥)
    → HasData image entry
data_decided image (a_record attributes id slot) nn = decided _ _ (Decides-or _ _ (Decides-and _ _
    (Decides-eqb slot 0) (λ e. e, λ e. e)) (Decides-eqb (owner_under image slot) 15)) nn
data_decided image (a_resource kind id slot) nn =
    decided _ _ (Decides-eqb (owner_under image slot) 15) nn

pub name_decided : (bytes : List ℕ) → ((HasName bytes → ⊥) → ⊥) → HasName bytes
name_decided bytes nn = decided _ _ (Decides-like _ (λ p. record { name = p.0; field = p.1 })
    (λ h. (h.name, h.field)) (Decides-and _ _ (Decides-name (name_in bytes))
    (bytes_eq-Decides (take 32 bytes) (name_field (name_in bytes))))) nn

pub slot_decided : (image : List ℕ) (slot : ℕ) → ((IsHeaderSlot image slot → ⊥) → ⊥)
    → IsHeaderSlot image slot
slot_decided image slot nn = record {
  owner = elim (cases_eq (owner_under image slot)
      0) [ inl e ↦ e | inr ne ↦ absurd (nn (λ h. ne h.owner)) ];
  other = λ e. nn (λ h. h.other e);
}

-- ---- the directory

below_count : (n i : ℕ) → i < n / 4 → 4 * i < n
below_count n i below = omega arith

-- no word of the directory is bad
abbrev pub SlotsRight : List ℕ → Type 0
SlotsRight image = (index : ℕ) → IsBadSlot image index → ⊥

pub whole_directory : (image : List ℕ) → SlotsRight image → length (directory_bytes image) % 4 ≡ 0
whole_directory image f = elim (cases_eq (length (directory_bytes image) % 4) 0) [
  | inl e ↦ e
  | inr ne ↦ absurd (f (length (directory_bytes image) / 4) (omega arith, inl (omega arith)))
]

pub few_listed : (image : List ℕ) → SlotsRight image → listed_count image ≤ most_databases
few_listed image f = elim (cases_lt 1024 (listed_count image)) [
  | inl many ↦ absurd (f 1024 (omega arith, inr (inl (omega arith))))
  | inr few ↦ few
]

pub header_slot : (image : List ℕ) → SlotsRight image → (i : ℕ) → i < listed_count image
    → IsHeaderSlot image (listed_at image i)
header_slot image f i below = slot_decided image (listed_at image i)
    (λ none. f i (below_count (length (directory_bytes image)) i below, inr (inr (inl none))))

pub length-listed : (image : List ℕ) → length (listed image) ≡ listed_count image
unfolding listed
length-listed image = length-numbered (listed_at image) (listed_count image)

pub header_slots : (image : List ℕ) → SlotsRight image → All (IsHeaderSlot image) (listed image)
unfolding listed
header_slots image f =
    all_numbered (IsHeaderSlot image) (listed_at image) (listed_count image) (header_slot image f)

pub listed_distinct : (image : List ℕ) → SlotsRight image → Distinct (listed image)
unfolding listed
listed_distinct image f =
    distinct_numbered (listed_at image) (listed_count image) (λ i j below earlier same. f i
    (below_count (length (directory_bytes image)) i below, inr (inr (inr (j, earlier, same)))))

-- ---- databases by their indexes

stored_at : List ℕ → ℕ → StoredDatabase
stored_at image db = database_under image (listed_at image db)

-- what holds of each database of an index holds of all, and the other way round
all_databases : (image : List ℕ) (P : StoredDatabase → Type 0)
    → ((db : ℕ) → db < listed_count image → P (stored_at image db)) → All P (databases image)
unfolding databases listed stored_at
all_databases image P each = All-map P (database_under image) (numbered (listed_at image)
    (listed_count image)) (all_numbered (λ slot. P (database_under image slot)) (listed_at image)
    (listed_count image) each)

databases_at : (image : List ℕ) (db : ℕ) (d : StoredDatabase) → db < listed_count image
    → get_or (databases image) db d ≡ stored_at image db
unfolding databases listed stored_at
databases_at image db d below =
    let len = length-numbered (listed_at image) (listed_count image) in
    get_or-map (database_under image) (numbered (listed_at image) (listed_count image)) db 0 d
    (omega arith)
    ∙ ap (database_under image) (numbered_at (listed_at image) (listed_count image) db 0 below)

-- ---- an image without faults is accepted

shape_of : (bytes : List ℕ) → AreWholeBytes bytes → HasName bytes → HasShape bytes
shape_of bytes w n = record { header = w.header; name = n; next_list = w.next_list; ends = w.ends }

whole_decided : (bytes : List ℕ) → ((AreWholeBytes bytes → ⊥) → ⊥) → AreWholeBytes bytes
whole_decided bytes nn = record {
  header = elim (cases_lt (length bytes)
      78) [ inl low ↦ absurd (nn (λ w. (let high = w.header in omega arith))) | inr high ↦ high ];
  next_list = elim (cases_eq (u32_at bytes 72)
      0) [ inl e ↦ e | inr ne ↦ absurd (nn (λ w. ne w.next_list)) ];
  ends = elim (cases_eq (length bytes) (entry_offset (resources_in bytes)
      (entry_count_in bytes))) [ inl e ↦ e | inr ne ↦ absurd (nn (λ w. ne w.ends)) ];
}

pub header_decided : (image bytes : List ℕ) → ((HasDatabaseHeader image bytes → ⊥) → ⊥)
    → HasDatabaseHeader image bytes
header_decided image bytes nn = record {
  whole = whole_decided bytes (λ none. nn (λ h. none h.whole));
  app_info = info_decided image (u32_at bytes 52) (λ none. nn (λ h. none h.app_info));
  sort_info = info_decided image (u32_at bytes 56) (λ none. nn (λ h. none h.sort_info));
}

-- the records have unique IDs exactly if none is bad
ids_right : (bytes : List ℕ) → ((index : ℕ) → HasBadId bytes index → ⊥)
    → HasUniqueIds (database_in bytes)
unfolding database_in
ids_right bytes good = counts_unique (database_in bytes)
    (elim (cases_lt 0 (times 0 (unique_ids (database_in bytes)))) [
      | inl some ↦ let k = ids_index (entry_in bytes) 0 (entry_count_in bytes) some in
          absurd (good k.0 (k.1, inl k.2))
      | inr none ↦ omega arith
    ]) (ids_once (entry_in bytes) (entry_count_in bytes)
    (λ i j q below less one other. good i (below, inr (q, j, less, one, other))))

ids_good : (bytes : List ℕ) → HasUniqueIds (database_in bytes) → (index : ℕ) → HasBadId bytes index
    → ⊥
unfolding database_in
ids_good bytes u index bad =
    let counts = unique_counts (database_in bytes) u in
    elim bad.1 [
      | inl z ↦ let some = index_ids (entry_in bytes) 0 (entry_count_in bytes) index bad.0 z in
          let none = counts.0 in omega arith
      | inr t ↦ let more = once_ids (entry_in bytes) (entry_count_in bytes) index t.1 t.0 bad.0 t.2
          t.3 t.4 in let most = counts.1 t.0 in omega arith
    ]

-- what a database names
pub entry_named : (image : List ℕ) (entry : Entry ℕ) → HasData image entry
    → IsInfoBlock image (entry_data entry)
entry_named image (a_record attributes id slot) h = elim h [ inl p ↦ inl p.0 | inr own ↦ inr own ]
entry_named image (a_resource kind id slot) own = inr own

database_named : (image bytes : List ℕ) → HasDatabaseHeader image bytes
    → ((index : ℕ) → index < entry_count_in bytes → HasData image (entry_in bytes index))
    → All (IsInfoBlock image) (data_in (database_in bytes))
unfolding database_in
database_named image bytes h entries =
    let items : List (Entry ℕ) = numbered (entry_in bytes) (entry_count_in bytes) in
    All-cons (IsInfoBlock image) (u32_at bytes 52) (u32_at bytes 56 ∷ map entry_data items)
    h.app_info (All-cons (IsInfoBlock image) (u32_at bytes 56) (map entry_data items) h.sort_info
    (All-map (IsInfoBlock image) entry_data items
    (all_numbered (λ entry. IsInfoBlock image (entry_data entry)) (entry_in bytes)
    (entry_count_in bytes) (λ i below. entry_named image (entry_in bytes i) (entries i below)))))

-- what all databases name are chunks for data, if no slot, no header and no entry is bad
pub are_named : (image : List ℕ) → HeapAccepted image → SlotsRight image
    → ((db : ℕ) → IsBadHeader image db → ⊥) → ((db index : ℕ) → IsBadEntry image db index → ⊥)
    → AreNamed image
unfolding named stored_at header_at
are_named image h slots headers entries = record {
  heap = h;
  distinct = listed_distinct image slots;
  headers = header_slots image slots;
  «data» = λ slot some there.
      let all = All-flat_map (IsInfoBlock image) (λ (one : StoredDatabase). data_in one.database)
      (databases image) (all_databases image (λ one. All (IsInfoBlock image) (data_in one.database))
      (λ db below. database_named image (header_at image db) (header_decided image
      (header_at image db) (λ none. headers db (below, none))) (λ i less. data_decided image
      (entry_in (header_at image db) i) (λ none. entries db i (below, (less, none)))))) in
      elim (all-times (IsInfoBlock image)
      (named image) all _ there) [ inl z ↦ absurd (some z) | inr own ↦ own ];
}

database_right : (image : List ℕ) → HeapAccepted image → AreBytes image → Faultless image → (db : ℕ)
    → db < listed_count image → IsDatabase image (stored_at image db)
unfolding database_in header_at stored_at
database_right image h b f db below =
    let bytes : List ℕ = bytes_under image (listed_at image db) in
    let header = header_decided image bytes (λ none. f.headers db (below, none)) in
    record {
      spelled = shape_spelled bytes (held_bytes image (listed_at image db) h b)
          (shape_of _ header.whole (name_decided bytes (λ none. f.names db (below, none))));
      app_info = header.app_info;
      sort_info = header.sort_info;
      entries = all_numbered (HasData image) (entry_in bytes) (entry_count_in bytes) (λ i less.
          data_decided image (entry_in bytes i) (λ none. f.entries db i (below, (less, none))));
      ids = ids_right bytes (λ i bad. f.ids db i (below, bad));
    }

length-databases : (image : List ℕ) → length (databases image) ≡ listed_count image
unfolding databases
length-databases image = length-map (listed image) (database_under image) ∙ length-listed image

name_at : (image : List ℕ) (db : ℕ) (d : List ℕ) → db < listed_count image
    → get_or (names_of (databases image)) db d ≡ name_in (header_at image db)
unfolding database_in header_in header_at stored_at
name_at image db d below =
    let len = length-databases image in
    get_or-map (λ (one : StoredDatabase). one.database.header.name) (databases image) db
    (stored_at image db) d (omega arith) ∙ ap (λ (one : StoredDatabase). one.database.header.name)
    (databases_at image db (stored_at image db) below)

length-names : (image : List ℕ) → length (names_of (databases image)) ≡ listed_count image
length-names image = length-map (databases image)
    (λ (one : StoredDatabase). one.database.header.name) ∙ length-databases image

names_distinct : (image : List ℕ) → Faultless image → Distinct (names_of (databases image))
names_distinct image f i j d less below e =
    let len = length-names image in
    let last : j < listed_count image = omega arith in
    let first : i < listed_count image = omega arith in
    f.same_names j (last, (i, less, sym (name_at image i d first) ∙ e ∙ name_at image j d last))

faultless_accepted : (image : List ℕ) → HeapAccepted image → AreBytes image → Faultless image
    → Accepted image
faultless_accepted image h b f =
    let n = are_named image h f.slots f.headers f.entries in
    record {
      heap = h;
      whole = whole_directory image f.slots;
      few = (let len = length-listed image in let few = few_listed image f.slots in omega arith);
      distinct = n.distinct;
      headers = n.headers;
      each = all_databases image (IsDatabase image) (database_right image h b f);
      own_names = names_distinct image f;
      data_once = data_once image n f.shared f.stray;
      all_listed = all_listed image f.stray;
    }

-- ---- an accepted image has no fault

accepted_named : (image : List ℕ) → Accepted image → AreNamed image
accepted_named image a = record {
  heap = a.heap;
  distinct = a.distinct;
  headers = a.headers;
  «data» = λ slot some there. elim (all-times (IsInfoBlock image) (named image)
      (named_owner image a.each) slot there) [ inl z ↦ absurd (some z) | inr own ↦ own ];
}

no_bad_slot : (image : List ℕ) → Accepted image → (index : ℕ) → IsBadSlot image index → ⊥
unfolding listed
no_bad_slot image a index bad =
    let n : ℕ = length (directory_bytes image) in
    let whole = a.whole in
    let inside = bad.0 in
    let below : index < n / 4 = omega arith in
    elim bad.1 [
      | inl short ↦ omega arith
      | inr rest ↦ elim rest [
        | inl many ↦ let few = a.few in
            let len = length-numbered (listed_at image) (listed_count image) in omega arith
        | inr rest ↦ elim rest [
          | inl other ↦ other (numbered_all (IsHeaderSlot image) (listed_at image)
              (listed_count image) a.headers index below)
          | inr twice ↦ numbered_distinct (listed_at image)
              (listed_count image) a.distinct index twice.0 below twice.1 twice.2
        ]
      ]
    ]

right_at : (image : List ℕ) → Accepted image → (db : ℕ) → db < listed_count image
    → IsDatabase image (stored_at image db)
right_at image a db below =
    let len = length-databases image in
    subst (IsDatabase image) (databases_at image db (stored_at image db) below)
    (a.each db (stored_at image db) (omega arith))

header_of_database : (image : List ℕ) → Accepted image → (db : ℕ) → db < listed_count image
    → HasDatabaseHeader image (header_at image db)
unfolding database_in header_at stored_at
header_of_database image a db below =
    let r = right_at image a db below in
    let s = spelled_shape (database_in (bytes_under image (listed_at image db)))
    (bytes_under image (listed_at image db)) r.spelled in
    record {
      whole = record { header = s.header; next_list = s.next_list; ends = s.ends };
      app_info = r.app_info;
      sort_info = r.sort_info;
    }

name_of_database : (image : List ℕ) → Accepted image → (db : ℕ) → db < listed_count image
    → HasName (header_at image db)
unfolding header_at stored_at
name_of_database image a db below =
    (spelled_shape (database_in (bytes_under image (listed_at image db)))
    (bytes_under image (listed_at image db)) (right_at _ a db below).spelled).name

no_bad_entry : (image : List ℕ) → Accepted image → (db index : ℕ) → IsBadEntry image db index → ⊥
unfolding database_in header_at stored_at
no_bad_entry image a db index bad =
    bad.1.1 (numbered_all (HasData image) (entry_in (header_at image db))
    (entry_count_in (header_at image db)) (right_at _ a db bad.0).entries index bad.1.0)

no_bad_id : (image : List ℕ) → Accepted image → (db index : ℕ) → IsBadId image db index → ⊥
unfolding header_at stored_at
no_bad_id image a db index bad =
    ids_good (header_at image db) (right_at _ a db bad.0).ids index bad.1

no_same_name : (image : List ℕ) → Accepted image → (db : ℕ) → IsSameName image db → ⊥
no_same_name image a db bad =
    let t = bad.1 in
    let len = length-names image in
    let last : db < listed_count image = bad.0 in
    let less : t.0 < db = t.1 in
    let first : t.0 < listed_count image = omega arith in
    a.own_names t.0 db [] less (omega arith)
    (name_at image t.0 [] first ∙ t.2 ∙ sym (name_at image db [] last))

accepted_faultless : (image : List ℕ) → Accepted image → Faultless image
accepted_faultless image a =
    let n = accepted_named image a in
    record {
      slots = no_bad_slot image a;
      headers = λ db bad. bad.1 (header_of_database image a db bad.0);
      entries = no_bad_entry image a;
      shared = not_shared image n a.data_once;
      stray = not_stray image a.data_once a.all_listed;
      ids = no_bad_id image a;
      names = λ db bad. bad.1 (name_of_database image a db bad.0);
      same_names = no_same_name image a;
    }

pub accepted_none : (image : List ℕ) → HeapAccepted image → AreBytes image
    → (Accepted image ↔ NoneBrought (store_faults image))
accepted_none image h b = (
  λ a. faultless_none _ (accepted_faultless _ a),
  λ n. faultless_accepted _ h b (none_faultless image n),
)
