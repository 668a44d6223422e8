-- The accepted image, and the same by counts: an image has the databases that are read off it.
use Rattle.laws_store.proofs.Words.{◌≡◌, ◌≢◌, ℕ, ◌+◌, ◌<◌, ◌≤◌, List, [], ◌∷◌, length, map, get_or, refl, sym, ap, ◌∙◌, arith, inl, inr, cases_eq, cases_lt, All-cons, All-head, All-tail, All-map, All-weaker, ◌⊎◌, All, managers_owner, data_owner, HeapAccepted, directory_of, same, times, Distinct, Database, Entry, a_record, a_resource, entry_data, data_in, IsSpelled, StoredDatabase, bytes_under, owner_under, listed, database_under, databases, named_by, named, most_databases, IsHeaderSlot, HasData, IsDatabase, numbers_of, Accepted, NamesData, IsWhole, HasDatabases}
use Rattle.laws_store.proofs.Spellings.{database_read}
use Rattle.laws_store.proofs.Owners.{owner-zero, owned_some, directory_owner}
use Rattle.laws_store.proofs.Times.{same-yes, same-no, times-contained, contained-times, all-times, times-all, distinct-times, times-distinct, All-flat_map, flat_map-All, map-All}

-- ---- what is named, in one database and in all

-- a name, if it is one, is that of a chunk for data
abbrev IsDataName : List ℕ → ℕ → Type 0
IsDataName image name = (name ≡ 0) ⊎ (owner_under image name ≡ data_owner)

entry_name : (image : List ℕ) (entry : Entry ℕ) → HasData image entry
    → IsDataName image (entry_data entry)
entry_name image (a_record attributes id slot) has =
    elim has [ inl none ↦ inl none.0 | inr own ↦ inr own ]
entry_name image (a_resource kind id slot) has = inr has

entry_names : (image : List ℕ) (entry : Entry ℕ) → HeapAccepted image → HasData image entry
    → NamesData entry
entry_names image (a_record attributes id slot) heap has = λ z. elim has [
  | inl none ↦ none.1
  | inr own ↦ let some = owned_some image slot 15 heap own (omega arith) in absurd (omega arith)
]
entry_names image (a_resource kind id slot) heap has = owned_some _ slot 15 heap has (omega arith)

entry_has : (image : List ℕ) (entry : Entry ℕ) → NamesData entry
    → IsDataName image (entry_data entry) → HasData image entry
entry_has image (a_record attributes id slot) names is =
    elim is [ inl z ↦ inl (z, names z) | inr own ↦ inr own ]
entry_has image (a_resource kind id slot) names is =
    elim is [ inl z ↦ absurd (omega arith) | inr own ↦ own ]

database_names : (image : List ℕ) (stored : StoredDatabase) → IsDatabase image stored
    → All (IsDataName image) (data_in stored.database)
database_names image stored is =
    let entries : List (Entry ℕ) = stored.database.entries in
    let rest = All-map (IsDataName image) entry_data entries (All-weaker (HasData image)
    (λ entry. IsDataName image (entry_data entry)) (entry_name image) entries is.entries) in
    All-cons (IsDataName image) stored.database.app_info
    (stored.database.sort_info ∷ map entry_data entries) is.app_info
    (All-cons (IsDataName image) stored.database.sort_info (map _ entries) is.sort_info rest)

pub named_owner : (image : List ℕ) → All (IsDatabase image) (databases image)
    → All (IsDataName image) (named image)
unfolding named
named_owner image each =
    All-flat_map (IsDataName image) (λ one. data_in one.database) (databases image)
    (All-weaker (IsDatabase image) (λ one. All (IsDataName image) (data_in one.database))
    (database_names image) (databases image) each)

-- ---- from the one to the other

pub length-numbers : (stored : List StoredDatabase) → length (numbers_of stored) ≡ length stored
length-numbers [] = refl
length-numbers (one ∷ stored) = let ih = length-numbers stored in omega arith

whole_of : (image : List ℕ) (stored : StoredDatabase) → HeapAccepted image → IsDatabase image stored
    → IsWhole image stored
whole_of image stored heap is = record {
  spelled = is.spelled;
  entries = All-weaker (HasData image) NamesData
      (λ entry. entry_names image entry heap) stored.database.entries is.entries;
  ids = is.ids;
}

named_counted : (image : List ℕ) → Accepted image → (name : ℕ) → 0 < name
    → times name (named image) ≡ same (owner_under image name) data_owner
named_counted image a name some = elim (cases_eq (owner_under image name) data_owner) [
  | inl own ↦ let yes = same-yes _ 15 own in let once = a.data_once name own in omega arith
  | inr other ↦ let no = same-no _ 15 other in elim (cases_lt 0 (times name (named image))) [
    | inl more ↦ absurd (elim (all-times (IsDataName image) (named image)
        (named_owner image a.each) name more) [ inl z ↦ omega arith | inr own ↦ other own ])
    | inr none ↦ omega arith
  ]
]

listed_counted : (image : List ℕ) → Accepted image → (name : ℕ) → 0 < name → times name
    (listed image) + same name (directory_of image) ≡ same (owner_under image name) managers_owner
listed_counted image a name some =
    let header = all-times (IsHeaderSlot image) (listed image) a.headers name in
    let most = distinct-times (listed image) a.distinct name in
    elim (cases_eq name (directory_of image)) [
      | inl directory ↦ let yes = same-yes name (directory_of image) directory in
          let own = ap (owner_under image) directory ∙ directory_owner image a.heap (omega arith) in
          let managers = same-yes (owner_under image name) 0 own in
          elim (cases_lt 0 (times name (listed image))) [
            | inl more ↦ absurd ((header more).other directory)
            | inr none ↦ omega arith
          ]
      | inr other ↦ let no = same-no name _ other in elim (cases_lt 0 (times name (listed image))) [
        | inl more ↦ let managers = same-yes _ 0 (header more).owner in omega arith
        | inr none ↦
            let stranger : owner_under image name ≢ 0 = λ own. elim (a.all_listed name own) [
              | inl directory ↦ other directory
              | inr there ↦ let more = times-contained name (listed image) there in omega arith
            ] in
            let managers = same-no (owner_under image name) 0 stranger in
            omega arith
      ]
    ]

numbers_back : (image : List ℕ) (slots : List ℕ)
    → numbers_of (map (database_under image) slots) ≡ slots
numbers_back image [] = refl
numbers_back image (slot ∷ slots) = ap (λ (xs : List ℕ). slot ∷ xs) (numbers_back image slots)

-- the directory lists the numbers of the databases that are read
pub listed_numbers : (image : List ℕ) → listed image ≡ numbers_of (databases image)
unfolding databases
listed_numbers image = sym (numbers_back image (listed image))

pub has_databases : (image : List ℕ) → Accepted image → HasDatabases image (databases image)
unfolding named
has_databases image a =
    let numbers = listed_numbers image in
    let few : length (databases image) ≤ most_databases = (let n = ap length numbers in
    let m = length-numbers (databases image) in let few = a.few in omega arith) in
    record {
      heap = a.heap;
      whole = a.whole;
      listed_are = numbers;
      few = few;
      each = All-weaker (IsDatabase image) (IsWhole image) (λ stored. whole_of image stored a.heap)
          (databases image) a.each;
      own_names = a.own_names;
      named_once = named_counted image a;
      listed_once = rw numbers at (listed_counted image a);
      none_listed = ap (times 0) (sym numbers) ∙ elim (cases_lt 0 (times 0 (listed image))) [
        | inl more ↦
            let own = (all-times (IsHeaderSlot image) (listed image) a.headers 0 more).owner in
            let none = owner-zero image a.heap in
            absurd (omega arith)
        | inr none ↦ omega arith
      ];
    }

-- ---- and back

with_database : ℕ → Database ℕ → StoredDatabase
with_database db database = record { db = db; database = database }

onto : StoredDatabase → List StoredDatabase → List StoredDatabase
onto x xs = x ∷ xs

pub same-is : (one other : ℕ) → 0 < same one other → one ≡ other
same-is one other some = elim (cases_eq one other) [
  | inl e ↦ e
  | inr ne ↦ let no = same-no one other ne in absurd (omega arith)
]

pub same-least : (one other : ℕ) → same one other ≤ 1
same-least one other = elim (cases_eq one other) [
  | inl e ↦ let yes = same-yes one other e in omega arith
  | inr ne ↦ let no = same-no one other ne in omega arith
]

-- the databases that an image has are those that are read
stored_read : (image : List ℕ) (one : StoredDatabase)
    → IsSpelled one.database (bytes_under image one.db) → database_under image one.db ≡ one
unfolding with_database
stored_read image one s = ap (with_database one.db) (database_read one.database _ s)

all_read : (image : List ℕ) (stored : List StoredDatabase) → All (IsWhole image) stored
    → map (database_under image) (numbers_of stored) ≡ stored
unfolding onto
all_read image [] all = refl
all_read image (one ∷ stored) all = ap (λ x. x ∷ map (database_under image) (numbers_of stored))
    (stored_read image one (All-head (IsWhole image) one stored all).spelled)
    ∙ ap (onto one) (all_read image stored (All-tail (IsWhole image) one stored all))

pub databases_are : (image : List ℕ) (stored : List StoredDatabase) → HasDatabases image stored
    → databases image ≡ stored
unfolding databases
databases_are image stored h = ap (map _) h.listed_are ∙ all_read image stored h.each

named_is_data : (image : List ℕ) (stored : List StoredDatabase) → HasDatabases image stored
    → All (IsDataName image) (named_by stored)
named_is_data image stored h = times-all _ (named_by stored) (λ name more. elim (cases_eq name 0) [
  | inl z ↦ inl z
  | inr some ↦
      let once = h.named_once name (omega arith) in
      inr (same-is (owner_under image name) 15 (omega arith))
])

database_of : (image : List ℕ) (stored : StoredDatabase) → IsWhole image stored
    → All (IsDataName image) (data_in stored.database) → IsDatabase image stored
database_of image stored is all =
    let entries : List (Entry ℕ) = stored.database.entries in
    let behind = All-tail (IsDataName image) stored.database.app_info
    (stored.database.sort_info ∷ map entry_data entries) all in
    let names = map-All (IsDataName image) entry_data entries
    (All-tail (IsDataName image) stored.database.sort_info (map entry_data entries) behind) in
    record {
      spelled = is.spelled;
      app_info = All-head (IsDataName image) stored.database.app_info
          (stored.database.sort_info ∷ map entry_data entries) all;
      sort_info =
          All-head (IsDataName image) stored.database.sort_info (map entry_data entries) behind;
      entries = λ k d below. entry_has image (get_or entries k d) (is.entries k d below)
          (names k d below);
      ids = is.ids;
    }

each_database : (image : List ℕ) (stored : List StoredDatabase) → HasDatabases image stored
    → All (IsDatabase image) stored
each_database image stored h =
    let names = flat_map-All (IsDataName image) (λ one. data_in one.database) stored
    (named_is_data image stored h) in
    λ k d below. database_of image (get_or stored k d) (h.each k d below) (names k d below)

pub header_slots : (image : List ℕ) (stored : List StoredDatabase) → HasDatabases image stored
    → All (IsHeaderSlot image) (numbers_of stored)
header_slots image stored h =
    times-all (IsHeaderSlot image) (numbers_of stored) (λ q more. elim (cases_eq q 0) [
      | inl z ↦
          let none = ap (λ name. times name (numbers_of stored)) z in let zero_is = h.none_listed in
          absurd (omega arith)
      | inr some ↦
          let once = h.listed_once q (omega arith) in
          let least = same-least (owner_under image q) 0 in
          record {
            owner = same-is (owner_under image q) 0 (omega arith);
            other =
                λ directory. (let yes = same-yes q (directory_of image) directory in omega arith);
          }
    ])

pub numbers_distinct : (image : List ℕ) (stored : List StoredDatabase) → HasDatabases image stored
    → Distinct (numbers_of stored)
numbers_distinct image stored h = times-distinct (numbers_of stored) (λ q. elim (cases_eq q 0) [
  | inl z ↦
      let none = ap (λ name. times name (numbers_of stored)) z in let zero_is = h.none_listed in
      omega arith
  | inr some ↦
      let once = h.listed_once q (omega arith) in
      let least = same-least (owner_under image q) 0 in
      omega arith
])

pub accepted_with : (image : List ℕ) (stored : List StoredDatabase) → HasDatabases image stored
    → Accepted image
unfolding named
accepted_with image stored h =
    let read = databases_are image stored h in
    let numbers = h.listed_are in
    record {
      heap = h.heap;
      whole = h.whole;
      few =
          let n = ap length numbers in let m = length-numbers stored in let few = h.few in
          omega arith;
      distinct = rw (← numbers) at (numbers_distinct image stored h);
      headers = rw (← numbers) at (header_slots image stored h);
      each = rw (← read) at (each_database image stored h);
      own_names = rw (← read) at h.own_names;
      data_once = λ slot own.
          let once = h.named_once slot (owned_some image slot 15 h.heap own (omega arith)) in
          let yes = same-yes (owner_under image slot) 15 own in
          let there = ap (λ (all : List StoredDatabase). times slot (named_by all)) read in
          omega arith;
      all_listed = λ slot own.
          let once = h.listed_once slot (owned_some image slot 0 h.heap own (omega arith)) in
          let yes = same-yes (owner_under image slot) 0 own in
          let there = ap (times slot) numbers in
          elim (cases_eq slot (directory_of image)) [
            | inl directory ↦ inl directory
            | inr other ↦
                let no = same-no slot (directory_of image) other in
                inr (contained-times slot (listed image) (omega arith))
          ];
    }
