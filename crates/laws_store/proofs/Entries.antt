-- Entries of a sound database put in, taken out, replaced and moved, and headers raised: the
-- database stays sound, and names what it named but for the data of that one entry.
use Rattle.laws_store.proofs.Words.{◌≡◌, ◌≢◌, ℕ, suc, ◌+◌, ◌%◌, ◌*◌, ◌/◌, ◌^◌, ◌<◌, ◌≤◌, Bool, true, false, Option, Some, None, List, [], ◌∷◌, length, get_or, set, take, drop, refl, sym, ap, subst, ◌∙◌, arith, inl, inr, cases_eq, cases_lt, get_or-set_same, get_or-set_other, length-set, length-insert, length-remove, All-cons, All-head, All-tail, All-append, All-take, All-drop, All-set, sum_by-cons, sum_by-set, sum_by-insert, sum_by-remove, get_or-le-sum_by, slice_get_within, get_or_from_slice_get, slice_get-get_or, All, insert, slice_get, remove, sum_by, same, times, insertion_index, moved, DatabaseHeader, Entry, a_record, a_resource, Database, entry_data, data_in, has_resources, IsDatabaseName, HeaderFits, EntryFits, unique_id, unique_ids, IsFresh, seed_in, NamesData, IsSound, OfEntry, replaced, replaced_if, seeded_by, with_entry_at, raised_header, HasNewId, HasOwnId}
use Rattle.laws_store.proofs.Times.{same-yes, same-no}
use Rattle.laws_store.proofs.NameCounts.{has_id, times-data, times-ids, unique_counts, counts_unique}
use Rattle.laws_store.proofs.Fresh.{fresh_fits}
use Rattle.laws_store.proofs.Counts.{same-is}
use Rattle.laws_store.proofs.MovedElements.{moved_is, length-moved, sum_by-moved}

-- ---- all elements, where one is put in, taken out or moved

pub All-inserted : {X : Type 0} (P : X → Type 0) (xs : List X) (i : ℕ) (x : X) → All P xs → P x
    → All P (insert xs i x)
All-inserted P xs i x all p = All-append P (take i xs) (x ∷ drop i xs) (All-take P i xs all)
    (All-cons P x (drop i xs) p (All-drop P i xs all))

pub All-removed : {X : Type 0} (P : X → Type 0) (xs : List X) (i : ℕ) → All P xs
    → All P (remove xs i)
All-removed P xs i all =
    All-append P (take i xs) (drop (suc i) xs) (All-take P i xs all) (All-drop P (suc i) xs all)

pub All-moved : {X : Type 0} (P : X → Type 0) (xs : List X) (from to : ℕ) (d : X) → from < length xs
    → All P xs → All P (moved xs from to)
All-moved P xs from to d below all =
    subst (λ ys. All P ys) (sym (moved_is xs from to d below)) (All-inserted P (remove xs from)
    (insertion_index from to) (get_or xs from d) (All-removed P xs from all) (all from d below))

sum_none : {X : Type 0} (f : X → ℕ) (xs : List X) → All (λ x. f x ≡ 0) xs → sum_by f xs ≡ 0
sum_none f [] all = refl
sum_none f (x ∷ xs) all =
    let cons = sum_by-cons f x xs in
    let one = All-head (λ y. f y ≡ 0) x xs all in
    let ih = sum_none f xs (All-tail (λ y. f y ≡ 0) x xs all) in
    omega arith

-- ---- a sound database with other entries, or another header

some_entry : Entry ℕ
some_entry = a_resource 0 0 0

-- the sum over its entries of what they name
abbrev named_sum : ℕ → List (Entry ℕ) → ℕ
named_sum q entries = sum_by (λ entry. same (entry_data entry) q) entries

-- the names of data, with other entries
data_with : (q : ℕ) (d : Database ℕ) (entries : List (Entry ℕ))
    → times q (data_in (record d { entries = entries })) + named_sum q d.entries
    ≡ times q (data_in d) + named_sum q entries
data_with q d entries =
    let new = times-data q (record d { entries = entries }) in
    let old = times-data q d in
    omega arith

sound_entries : (d : Database ℕ) (entries : List (Entry ℕ)) → IsSound d
    → All (EntryFits (has_resources d.header.attributes)) entries → All NamesData entries
    → length entries < 2 ^ 16 → sum_by (has_id 0) entries ≡ 0
    → ((q : ℕ) → sum_by (has_id q) entries ≤ 1) → IsSound (record d { entries = entries })
sound_entries d entries s fits names few none once =
    let now : Database ℕ = record d { entries = entries } in
    record {
      fits = record {
        name = s.fits.name;
        header = s.fits.header;
        app_info = s.fits.app_info;
        sort_info = s.fits.sort_info;
        entries = fits;
        entry_count = few;
      };
      entries = names;
      ids = counts_unique now (times-ids 0 now ∙ none)
          (λ q. let ids = times-ids q now in let most = once q in omega arith);
    }

-- none of its entries has the ID 0, and no two have one
ids_none : (d : Database ℕ) → IsSound d → sum_by (has_id 0) d.entries ≡ 0
ids_none d s = sym (times-ids 0 d) ∙ (unique_counts d s.ids).0

ids_once : (d : Database ℕ) → IsSound d → (q : ℕ) → sum_by (has_id q) d.entries ≤ 1
ids_once d s q = let ids = times-ids q d in let most = (unique_counts d s.ids).1 q in omega arith

sound_header : (d : Database ℕ) (header : DatabaseHeader) → IsSound d → header.name ≡ d.header.name
    → header.attributes ≡ d.header.attributes → HeaderFits header
    → IsSound (record d { header = header })
sound_header d header s name attributes fits = record {
  fits = record {
    name = subst (λ (n : List ℕ). IsDatabaseName n) (sym name) s.fits.name;
    header = fits;
    app_info = s.fits.app_info;
    sort_info = s.fits.sort_info;
    entries = rw (← attributes) at s.fits.entries;
    entry_count = s.fits.entry_count;
  };
  entries = s.entries;
  ids = record { none_zero = s.ids.none_zero; distinct = s.ids.distinct };
}

-- ---- the modification number raised

pub raised_sound : (d : Database ℕ) → IsSound d
    → IsSound (record d { header = raised_header d.header })
raised_sound d s =
    let h = s.fits.header in
    sound_header d (raised_header d.header) s refl refl (record {
      attributes = h.attributes;
      version = h.version;
      creation_date = h.creation_date;
      modification_date = h.modification_date;
      backup_date = h.backup_date;
      modification_number = omega arith;
      kind = h.kind;
      creator = h.creator;
      seed = h.seed;
    })

-- ---- an entry replaced

pub replaced_is : (entries : List (Entry ℕ)) (index : ℕ) (change : Entry ℕ → Entry ℕ) (e : Entry ℕ)
    → slice_get entries index ≡ Some e
    → replaced entries index change ≡ set entries index (change e)
replaced_is entries index change e at = ap (replaced_if entries index change) at

-- an ID that an entry counts is its own
counted_id : (q : ℕ) (e : Entry ℕ) → 0 < has_id q e → unique_id e ≡ Some q
unfolding has_id
counted_id q (a_record attributes id slot) some = ap (λ (n : ℕ). Some n) (same-is id q some)
counted_id q (a_resource kind id slot) some = absurd (omega arith)

id_count : ℕ → Option ℕ → ℕ
id_count q None = 0
id_count q (Some id) = same id q

has_id_is : (q : ℕ) (e : Entry ℕ) → has_id q e ≡ id_count q (unique_id e)
unfolding has_id id_count
has_id_is q (a_record attributes id slot) = refl
has_id_is q (a_resource kind id slot) = refl

id_counts : (q : ℕ) (e other : Entry ℕ) → unique_id e ≡ unique_id other
    → has_id q e ≡ has_id q other
id_counts q e other same_id = has_id_is q e ∙ ap (id_count q) same_id ∙ sym (has_id_is q other)

-- where no other entry has an ID, it is counted at one index alone
counted_here : (entries : List (Entry ℕ)) (index id : ℕ) (e : Entry ℕ)
    → slice_get entries index ≡ Some e → ((other : ℕ) × (other ≢ index)
    × OfEntry (slice_get entries other) (λ entry. unique_id entry ≡ Some id) → ⊥)
    → sum_by (has_id id) entries ≡ has_id id e
unfolding has_id some_entry
counted_here entries index id e at none =
    let inside = slice_get_within entries index e at in
    let len = length-set entries index some_entry in
    let all : All (λ x. has_id id x ≡ 0) (set entries index some_entry) =
    λ k d below. elim (cases_eq k index) [
      | inl here ↦ ap (λ i. has_id id (get_or (set entries index some_entry) i d)) here
          ∙ ap (has_id id) (get_or-set_same entries index some_entry d inside)
      | inr apart ↦ ap (has_id id) (get_or-set_other entries index k some_entry d apart)
          ∙ elim (cases_lt 0 (has_id id (get_or entries k d))) [
            | inl some ↦ absurd (none (
              k,
              apart,
              subst (λ (o : Option (Entry ℕ)). OfEntry o (λ entry. unique_id entry ≡ Some id))
                  (sym (slice_get-get_or entries k d (omega arith)))
                  (counted_id id (get_or entries k d) some),
            ))
            | inr past ↦ omega arith
          ]
    ] in
    let rest = sum_none (has_id id) (set entries index some_entry) all in
    let sums = sum_by-set (has_id id) entries index some_entry e inside in
    let here = ap (has_id id) (get_or_from_slice_get entries index e e at) in
    omega arith

set_sound : (d : Database ℕ) (index : ℕ) (e now : Entry ℕ) → IsSound d
    → slice_get d.entries index ≡ Some e → EntryFits (has_resources d.header.attributes) now
    → NamesData now → has_id 0 now ≡ 0
    → ((q : ℕ) → sum_by (has_id q) d.entries + has_id q now ≤ 1 + has_id q e)
    → IsSound (record d { entries = set d.entries index now })
set_sound d index e now s at fits names none once =
    let inside = slice_get_within d.entries index e at in
    let len = length-set d.entries index now in
    let few = s.fits.entry_count in
    let sums : (q : ℕ) → sum_by (has_id q) (set d.entries index now) + has_id q e
    ≡ sum_by (has_id q) d.entries + has_id q now =
    λ q. (let sum = sum_by-set (has_id q) d.entries index now e inside in
    let here = ap (has_id q) (get_or_from_slice_get d.entries index e e at) in omega arith) in
    sound_entries d (set d.entries index now) s (All-set
    (EntryFits (has_resources d.header.attributes)) d.entries index now fits s.fits.entries)
    (All-set NamesData d.entries index now names s.entries) (omega arith)
    (let sum = sums 0 in let was = ids_none d s in omega arith)
    (λ q. let sum = sums q in let most = once q in omega arith)

-- by one with the same ID
set_kept : (d : Database ℕ) (index : ℕ) (e now : Entry ℕ) → IsSound d
    → slice_get d.entries index ≡ Some e → EntryFits (has_resources d.header.attributes) now
    → NamesData now → unique_id now ≡ unique_id e
    → IsSound (record d { entries = set d.entries index now })
set_kept d index e now s at fits names same_id =
    let inside = slice_get_within d.entries index e at in
    let here : (q : ℕ) → has_id q e ≤ sum_by (has_id q) d.entries =
    λ q. (let is = ap (has_id q) (get_or_from_slice_get d.entries index e e at) in
    let most = get_or-le-sum_by (has_id q) d.entries index e inside in omega arith) in
    set_sound d index e now s at fits names
    (let is = id_counts 0 now e same_id in let none = ids_none d s in let most = here 0 in
    omega arith)
    (λ q. let is = id_counts q now e same_id in let once = ids_once d s q in omega arith)

-- by one with an ID of its own
set_own : (d : Database ℕ) (index : ℕ) (e now : Entry ℕ) → IsSound d
    → slice_get d.entries index ≡ Some e → EntryFits (has_resources d.header.attributes) now
    → NamesData now → HasOwnId d.entries index now
    → IsSound (record d { entries = set d.entries index now })
unfolding has_id
set_own d index e (a_resource kind id slot) s at fits names own = set_sound d index e
    (a_resource kind id slot) s at fits names refl (λ q. let once = ids_once d s q in omega arith)
set_own d index e (a_record attributes id slot) s at fits names own =
    set_sound d index e (a_record attributes id slot) s at fits names
    (let some = own.0 in same-no id 0 (λ z. omega arith))
    (λ q. elim (cases_eq id q) [
      | inl is ↦
          let alone = counted_here d.entries index q e at (λ other. own.1 (rw (← is) at other)) in
          let yes = same-yes id q is in
          omega arith
      | inr apart ↦ let no = same-no id q apart in let once = ids_once d s q in omega arith
    ])

pub replaced_kept : (d : Database ℕ) (index : ℕ) (change : Entry ℕ → Entry ℕ) (e : Entry ℕ)
    → IsSound d → slice_get d.entries index ≡ Some e
    → EntryFits (has_resources d.header.attributes) (change e) → NamesData (change e)
    → unique_id (change e) ≡ unique_id e
    → IsSound (record d { entries = replaced d.entries index change })
replaced_kept d index change e s at fits names same_id =
    rw (← (replaced_is d.entries index change e at)) at (set_kept d index e
    (change e) s at fits names same_id)

pub replaced_own : (d : Database ℕ) (index : ℕ) (change : Entry ℕ → Entry ℕ) (e : Entry ℕ)
    → IsSound d → slice_get d.entries index ≡ Some e
    → EntryFits (has_resources d.header.attributes) (change e) → NamesData (change e)
    → HasOwnId d.entries index (change e)
    → IsSound (record d { entries = replaced d.entries index change })
replaced_own d index change e s at fits names own = rw (←
    (replaced_is d.entries index change e at)) at (set_own d index e (change e) s at fits names own)

pub replaced_names : (q : ℕ) (d : Database ℕ) (index : ℕ) (change : Entry ℕ → Entry ℕ) (e : Entry ℕ)
    → slice_get d.entries index ≡ Some e
    → times q (data_in (record d { entries = replaced d.entries index change }))
    + same (entry_data e) q ≡ times q (data_in d) + same (entry_data (change e)) q
replaced_names q d index change e at =
    let is = ap (λ (es : List (Entry ℕ)). times q (data_in (record d { entries = es })))
    (replaced_is d.entries index change e at) in
    let sums = data_with q d (set d.entries index (change e)) in
    let sum = sum_by-set (λ entry. same (entry_data entry) q) d.entries index (change e) e
    (slice_get_within d.entries index e at) in
    let here =
    ap (λ entry. same (entry_data entry) q) (get_or_from_slice_get d.entries index e e at) in
    omega arith

-- ---- an entry taken out

pub removed_sound : (d : Database ℕ) (index : ℕ) → IsSound d → index < length d.entries
    → IsSound (record d { entries = remove d.entries index })
removed_sound d index s inside =
    let len = length-remove d.entries index inside in
    let few = s.fits.entry_count in
    let sums = λ (q : ℕ). sum_by-remove (has_id q) d.entries index some_entry inside in
    sound_entries d (remove d.entries index) s
    (All-removed (EntryFits (has_resources d.header.attributes)) d.entries index s.fits.entries)
    (All-removed NamesData d.entries index s.entries) (omega arith)
    (let sum = sums 0 in let none = ids_none d s in omega arith)
    (λ q. let sum = sums q in let once = ids_once d s q in omega arith)

pub removed_names : (q : ℕ) (d : Database ℕ) (index : ℕ) (e : Entry ℕ)
    → slice_get d.entries index ≡ Some e → times q (data_in
    (record d { entries = remove d.entries index })) + same (entry_data e) q ≡ times q (data_in d)
removed_names q d index e at =
    let sums = data_with q d (remove d.entries index) in
    let sum = sum_by-remove (λ entry. same (entry_data entry) q) d.entries index e
    (slice_get_within d.entries index e at) in
    let here =
    ap (λ entry. same (entry_data entry) q) (get_or_from_slice_get d.entries index e e at) in
    omega arith

-- ---- an entry put in

pub seeded_name : (e : Entry ℕ) (header : DatabaseHeader) → (seeded_by e header).name ≡ header.name
seeded_name (a_record attributes id slot) header = refl
seeded_name (a_resource kind id slot) header = refl

pub seeded_attributes : (e : Entry ℕ) (header : DatabaseHeader)
    → (seeded_by e header).attributes ≡ header.attributes
seeded_attributes (a_record attributes id slot) header = refl
seeded_attributes (a_resource kind id slot) header = refl

seed_fits : (field id : ℕ) → field < 2 ^ 32 → id < 2 ^ 24 → 2 ^ 24 * (field / 2 ^ 24) + id < 2 ^ 32
seed_fits field id below fits = omega arith

id_fits : (resources : Bool) (attributes id slot : ℕ)
    → EntryFits resources (a_record attributes id slot) → id < 2 ^ 24
id_fits false attributes id slot fits = fits.1
id_fits true attributes id slot fits = absurd fits

-- a header fits with another name, and with another seed that fits
pub fits_with : (header : DatabaseHeader) (name : List ℕ) (seed : ℕ) → HeaderFits header
    → seed < 2 ^ 32 → HeaderFits (record header { name = name; seed = seed })
fits_with header name seed h below = record {
  attributes = h.attributes;
  version = h.version;
  creation_date = h.creation_date;
  modification_date = h.modification_date;
  backup_date = h.backup_date;
  modification_number = h.modification_number;
  kind = h.kind;
  creator = h.creator;
  seed = below;
}

seeded_fits : (resources : Bool) (e : Entry ℕ) (header : DatabaseHeader) → EntryFits resources e
    → HeaderFits header → HeaderFits (seeded_by e header)
seeded_fits resources (a_record attributes id slot) header fits h =
    fits_with header header.name (2 ^ 24 * (header.seed / 2 ^ 24) + id) h
    (seed_fits header.seed id h.seed (id_fits resources attributes id slot fits))
seeded_fits resources (a_resource kind id slot) header fits h = h

-- how often a new ID is counted with those that were there
new_counts : (d : Database ℕ) (e : Entry ℕ) → IsSound d → HasNewId (unique_ids d) e
    → (has_id 0 e ≡ 0) × ((q : ℕ) → sum_by (has_id q) d.entries + has_id q e ≤ 1)
unfolding has_id
new_counts d (a_resource kind id slot) s new = (refl, λ q. let once = ids_once d s q in omega arith)
new_counts d (a_record attributes id slot) s new = (
  (let some = new.0 in same-no id 0 (λ z. omega arith)),
  λ q. elim (cases_eq id q) [
    | inl is ↦
        let none = ap (λ (n : ℕ). times n (unique_ids d)) (sym is) ∙ new.1 in
        let ids = times-ids q d in
        let yes = same-yes id q is in
        omega arith
    | inr apart ↦ let no = same-no id q apart in let once = ids_once d s q in omega arith
  ],
)

-- a fresh ID fits, and is none that a record has
pub fresh_new : (ids : List ℕ) (field id : ℕ) → IsFresh ids (seed_in field) id
    → (0 < id) × (id < 2 ^ 24) × (times id ids ≡ 0)
fresh_new ids field id fresh =
    let fits = fresh_fits ids (field % 2 ^ 24) id (omega arith) fresh in
    (fits.0, (let most = fits.1 in omega arith), fits.2)

pub inserted_sound : (d : Database ℕ) (index : ℕ) (e : Entry ℕ) → IsSound d
    → EntryFits (has_resources d.header.attributes) e → NamesData e → HasNewId (unique_ids d) e
    → index ≤ length d.entries → length d.entries < 65535 → IsSound (with_entry_at index e d)
inserted_sound d index e s fits names new inside few =
    let entries : List (Entry ℕ) = insert d.entries index e in
    let len = length-insert d.entries index e inside in
    let counts = new_counts d e s new in
    let sums = λ (q : ℕ). sum_by-insert (has_id q) d.entries index e in
    let with_entries = sound_entries d entries s (All-inserted
    (EntryFits (has_resources d.header.attributes)) d.entries index e s.fits.entries fits)
    (All-inserted NamesData d.entries index e s.entries names) (omega arith)
    (let sum = sums 0 in let was = ids_none d s in let none = counts.0 in omega arith)
    (λ q. let sum = sums q in let once = counts.1 q in omega arith) in
    sound_header (record d { entries = entries }) (seeded_by e d.header) with_entries
    (seeded_name e d.header) (seeded_attributes e d.header)
    (seeded_fits (has_resources d.header.attributes) e d.header fits s.fits.header)

pub inserted_names : (q : ℕ) (d : Database ℕ) (index : ℕ) (e : Entry ℕ)
    → times q (data_in (with_entry_at index e d)) ≡ times q (data_in d) + same (entry_data e) q
inserted_names q d index e =
    let sums = data_with q d (insert d.entries index e) in
    let sum = sum_by-insert (λ (entry : Entry ℕ). same (entry_data entry) q) d.entries index e in
    omega arith

-- ---- an entry moved

pub moved_sound : (d : Database ℕ) (from to : ℕ) → IsSound d → from < length d.entries
    → to ≤ length d.entries → IsSound (record d { entries = moved d.entries from to })
moved_sound d from to s inside most =
    let len = length-moved d.entries from to inside most in
    let few = s.fits.entry_count in
    let sums = λ (q : ℕ). sum_by-moved (has_id q) d.entries from to inside in
    sound_entries d (moved d.entries from to) s (All-moved (EntryFits
    (has_resources d.header.attributes)) d.entries from to some_entry inside s.fits.entries)
    (All-moved NamesData d.entries from to some_entry inside s.entries) (omega arith)
    (sums 0 ∙ ids_none d s)
    (λ q. let sum = sums q in let once = ids_once d s q in omega arith)

pub moved_names : (q : ℕ) (d : Database ℕ) (from to : ℕ) → from < length d.entries
    → times q (data_in (record d { entries = moved d.entries from to })) ≡ times q (data_in d)
moved_names q d from to inside =
    let sums = data_with q d (moved d.entries from to) in
    let sum = sum_by-moved (λ entry. same (entry_data entry) q) d.entries from to inside in
    omega arith
