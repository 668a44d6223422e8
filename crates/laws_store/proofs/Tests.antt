-- The tests of an accepted image with its databases decide it.
use Rattle.laws_store.proofs.Words.{◌≡◌, ◌≢◌, ℕ, ◌%◌, ◌^◌, ◌<◌, ◌≤◌, Bool, true, false, List, [], ◌∷◌, length, refl, arith, inl, inr, Contains-from_at, at_from_Contains, AllPairs-cons, ◌⊎◌, ◌==◌, ◌||◌, not, nat_lt, All, Decides, list_all, list_any, Contains, EveryOne, slots_of, HeapAccepted, directory_of, times, Distinct, DatabaseHeader, Entry, a_record, a_resource, Database, has_resources, is_deleted, spelled, IsDatabaseName, HeaderFits, EntryFits, DatabaseFits, StoredDatabase, bytes_under, owner_under, directory_bytes, listed, databases, named_by, named, most_databases, IsHeaderSlot, IsInfoBlock, HasData, unique_ids, names_of, Accepted, Decides-nat_le, Decides-every_one}
use Rattle.std.proofs.lemmas.Bool.Decides.{Decides-and, Decides-or, Decides-not, Decides-eqb, Decides-ltb, Decides-like, Decides-by_and, Decides-by_or}
use Rattle.std.proofs.lemmas.Slice.Eq.{bytes_eq-Decides}
use Rattle.std.specs.Str.{bytes_eq}
use Rattle.laws_store.specs.StoreTests.{are_distinct, is_name, header_fits, entry_fits, database_fits, is_info_block, has_data, is_header_slot, is_named_once, is_listed, is_store}
use Rattle.laws_heap.proofs.Slots.{each_slot, every_slot}
use Rattle.laws_heap.proofs.Accepted.{Decides-accepted}
use Rattle.laws_store.proofs.Times.{Distinct-head, Distinct-tail}
use Rattle.laws_store.proofs.Owners.{owned_slot}

-- ---- lists

Decides-all : {X : Type 0} (test : X → Bool) (P : X → Type 0) → ((x : X) → Decides (test x) (P x))
    → (xs : List X) → Decides (list_all test xs) (All P xs)
Decides-all test P each xs = Decides-by_and test P (list_all test) each refl (λ _ _. refl) xs

Decides-distinct : {X : Type 0} (same : X → X → Bool) → ((a b : X) → Decides (same a b) (a ≡ b))
    → (xs : List X) → Decides (are_distinct same xs) (Distinct xs)
Decides-distinct same each [] = (λ e i j d less below. absurd (omega arith), λ h. refl)
Decides-distinct same each (x ∷ xs) = Decides-like _ (λ p. AllPairs-cons
    (λ one other. one ≢ other) x xs p.0 p.1) (λ d. (Distinct-head x xs d, Distinct-tail x xs d))
    (Decides-and _ _ (Decides-all (λ other. not (same x other)) (λ other. x ≢ other)
    (λ other. Decides-not _ (each x other)) xs) (Decides-distinct same each xs))

-- ---- one database

pub Decides-name : (name : List ℕ) → Decides (is_name name) (IsDatabaseName name)
Decides-name name = Decides-like _ (λ h. record { some = h.0.0; room = h.0.1; none_zero = h.1 })
    (λ is. ((is.some, is.room), is.none_zero))
    (Decides-and _ _ (Decides-and _ _ (Decides-ltb 0 (length name)) (Decides-ltb (length name) 32))
    (Decides-all (λ byte. nat_lt 0 byte) (λ byte. 0 < byte) (λ byte. Decides-ltb 0 byte) name))

Decides-header : (header : DatabaseHeader) → Decides (header_fits header) (HeaderFits header)
Decides-header h = Decides-like _ (λ p. record {
  attributes = p.0.0;
  version = p.0.1.0;
  creation_date = p.1.0;
  modification_date = p.1.1.0;
  backup_date = p.1.1.1.0;
  modification_number = p.1.1.1.1.0;
  kind = p.1.1.1.1.1.0;
  creator = p.1.1.1.1.1.1.0;
  seed = p.1.1.1.1.1.1.1.0;
}) (λ f. (
  (f.attributes, (f.version, tt)),
  (
    f.creation_date,
    (
      f.modification_date,
      (f.backup_date, (f.modification_number, (f.kind, (f.creator, (f.seed, tt))))),
    ),
  ),
))
    (Decides-and _ _ (Decides-and _ _ (Decides-ltb h.attributes (2 ^ 16))
    (Decides-and _ _ (Decides-ltb h.version (2 ^ 16)) no_more))
    (Decides-and _ _ (Decides-ltb h.creation_date (2 ^ 32))
    (Decides-and _ _ (Decides-ltb h.modification_date (2 ^ 32))
    (Decides-and _ _ (Decides-ltb h.backup_date (2 ^ 32))
    (Decides-and _ _ (Decides-ltb h.modification_number (2 ^ 32))
    (Decides-and _ _ (Decides-ltb h.kind (2 ^ 32))
    (Decides-and _ _ (Decides-ltb h.creator (2 ^ 32))
    (Decides-and _ _ (Decides-ltb h.seed (2 ^ 32)) no_more)))))))) where
      no_more : Decides true (Unit {0})
      no_more = (λ e. tt, λ h. refl)

Decides-entry : (resources : Bool) (entry : Entry ℕ)
    → Decides (entry_fits resources entry) (EntryFits resources entry)
Decides-entry false (a_record attributes id slot) =
    Decides-like _ (λ p. (p.0.0, p.0.1, p.1)) (λ f. ((f.0, f.1), f.2))
    (Decides-and _ _ (Decides-and _ _ (Decides-ltb attributes (2 ^ 8)) (Decides-ltb id (2 ^ 24)))
    (Decides-ltb slot (2 ^ 32)))
Decides-entry false (a_resource kind id slot) = (λ e. absurd cc, λ b. absurd b)
Decides-entry true (a_record attributes id slot) = (λ e. absurd cc, λ b. absurd b)
Decides-entry true (a_resource kind id slot) =
    Decides-like _ (λ p. (p.0.0, p.0.1, p.1)) (λ f. ((f.0, f.1), f.2))
    (Decides-and _ _ (Decides-and _ _ (Decides-ltb kind (2 ^ 32)) (Decides-ltb id (2 ^ 16)))
    (Decides-ltb slot (2 ^ 32)))

Decides-fits : (d : Database ℕ) → Decides (database_fits d) (DatabaseFits d)
Decides-fits d = Decides-like _ (λ p. record {
  name = p.0.0.0.0.0;
  header = p.0.0.0.0.1;
  app_info = p.0.0.0.1;
  sort_info = p.0.0.1;
  entries = p.0.1;
  entry_count = p.1;
})
    (λ f. (((((f.name, f.header), f.app_info), f.sort_info), f.entries), f.entry_count))
    (Decides-and _ _
    (Decides-and _ _
    (Decides-and _ _
    (Decides-and _ _ (Decides-and _ _ (Decides-name d.header.name) (Decides-header d.header))
    (Decides-ltb d.app_info (2 ^ 32)))
    (Decides-ltb d.sort_info (2 ^ 32)))
    (Decides-all (entry_fits (has_resources d.header.attributes)) (EntryFits (has_resources
    d.header.attributes)) (Decides-entry (has_resources d.header.attributes)) d.entries))
    (Decides-ltb (length d.entries) (2 ^ 16)))

Decides-info : (image : List ℕ) (slot : ℕ)
    → Decides (is_info_block image slot) (IsInfoBlock image slot)
Decides-info image slot =
    Decides-or _ _ (Decides-eqb slot 0) (Decides-eqb (owner_under image slot) 15)

Decides-true : (b : Bool) → Decides b (b ≡ true)
Decides-true b = (λ e. e, λ e. e)

Decides-data : (image : List ℕ) (entry : Entry ℕ)
    → Decides (has_data image entry) (HasData image entry)
Decides-data image (a_record attributes id slot) =
    Decides-or _ _ (Decides-and _ _ (Decides-eqb slot 0) (Decides-true (is_deleted attributes)))
    (Decides-eqb (owner_under image slot) 15)
Decides-data image (a_resource kind id slot) = Decides-eqb (owner_under image slot) 15

-- ---- the chunks, slot by slot

NamedOnce : List ℕ → ℕ → Type 0
NamedOnce image slot = owner_under image slot ≡ 15 → times slot (named image) ≡ 1

IsListed : List ℕ → ℕ → Type 0
IsListed image slot =
    owner_under image slot ≡ 0 → (slot ≡ directory_of image) ⊎ Contains (listed image) slot

where_then : {P Q : Type 0} (a b : Bool) → Decides a P → Decides b Q → Decides (not a || b) (P → Q)
where_then false b p q = (λ e. λ h. absurd (let t = p.1 h in absurd cc), λ f. refl)
where_then true b p q = (λ e. λ h. q.0 e, λ f. q.1 (f (p.0 refl)))

Decides-contains : (xs : List ℕ) (q : ℕ) → Decides (list_any (λ x. x == q) xs) (Contains xs q)
Decides-contains xs q = Decides-like _ (λ at. Contains-from_at xs q at)
    (λ c. at_from_Contains xs q c) (Decides-by_or (λ x. x == q) (λ x. x ≡ q)
    (list_any (λ x. x == q)) (λ x. Decides-eqb x q) refl (λ _ _. refl) xs)

Decides-named : (image : List ℕ) (slot : ℕ)
    → Decides (is_named_once image (named_by (databases image)) slot) (NamedOnce image slot)
unfolding NamedOnce named
Decides-named image slot = where_then _ _ (Decides-eqb (owner_under image slot) 15)
    (Decides-eqb (times slot (named_by (databases image))) 1)

Decides-listed : (image : List ℕ) (slot : ℕ)
    → Decides (is_listed image (listed image) slot) (IsListed image slot)
unfolding IsListed
Decides-listed image slot = where_then _ _ (Decides-eqb (owner_under image slot) 0)
    (Decides-or _ _ (Decides-eqb slot (directory_of image)) (Decides-contains (listed image) slot))

-- ---- the whole

-- what the tests decide, conjunct by conjunct
abbrev OfAll : List ℕ → (StoredDatabase → Type 0) → Type 0
OfAll image P = All P (databases image)

abbrev Conjuncts : List ℕ → Type 0
Conjuncts image =
    HeapAccepted image
    × ((length (directory_bytes image) % 4 ≡ 0)
    × ((length (listed image) ≤ most_databases)
    × (Distinct (listed image)
    × (All (IsHeaderSlot image) (listed image)
    × (OfAll image (λ one. DatabaseFits one.database)
    × (OfAll image (λ one. bytes_under image one.db ≡ spelled one.database)
    × (OfAll image
    (λ one. IsInfoBlock image one.database.app_info × IsInfoBlock image one.database.sort_info)
    × (OfAll image (λ one. All (HasData image) one.database.entries)
    × (OfAll image (λ one. All (λ id. id ≢ 0) (unique_ids one.database))
    × (OfAll image (λ one. Distinct (unique_ids one.database))
    × (Distinct (names_of (databases image))
    × (EveryOne (NamedOnce image) (slots_of image)
    × (EveryOne (IsListed image) (slots_of image)
    × Unit {0})))))))))))))

no_test : Decides (list_all (λ test. test) []) (Unit {0})
no_test = (λ e. tt, λ h. refl)

Decides-header_slot : (image : List ℕ) (slot : ℕ)
    → Decides (is_header_slot image slot) (IsHeaderSlot image slot)
Decides-header_slot image slot = Decides-like _ (λ p. record { owner = p.0; other = p.1 })
    (λ h. (h.owner, h.other)) (Decides-and _ _ (Decides-eqb (owner_under image slot) 0)
    (Decides-not _ (Decides-eqb slot (directory_of image))))

Decides-conjuncts : (image : List ℕ) → Decides (is_store image) (Conjuncts image)
unfolding is_store
Decides-conjuncts image =
    let all : List StoredDatabase = databases image in
    Decides-and _ _ (Decides-accepted image)
    (Decides-and _ _ (Decides-eqb (length (directory_bytes image) % 4) 0)
    (Decides-and _ _ (Decides-nat_le (length (listed image)) most_databases)
    (Decides-and _ _ (Decides-distinct ◌==◌ Decides-eqb (listed image))
    (Decides-and _ _ (Decides-all _ (IsHeaderSlot image) (Decides-header_slot image) (listed image))
    (Decides-and _ _ (Decides-all _ (λ one. DatabaseFits one.database) (λ one. Decides-fits _) all)
    (Decides-and _ _ (Decides-all _ (λ one. bytes_under image one.db ≡ spelled one.database)
    (λ one. bytes_eq-Decides (bytes_under image one.db) (spelled one.database)) all)
    (Decides-and _ _ (Decides-all _ (λ one. IsInfoBlock image one.database.app_info
    × IsInfoBlock image one.database.sort_info) (λ one. Decides-and _ _
    (Decides-info image one.database.app_info) (Decides-info image one.database.sort_info)) all)
    (Decides-and _ _ (Decides-all _ (λ one. All (HasData image) one.database.entries)
    (λ one. Decides-all _ (HasData image) (Decides-data image) one.database.entries) all)
    (Decides-and _ _
    (Decides-all _ (λ one. All (λ id. id ≢ 0) (unique_ids one.database)) (λ one. Decides-all _
    (λ id. id ≢ 0) (λ id. Decides-not _ (Decides-eqb id 0)) (unique_ids one.database)) all)
    (Decides-and _ _ (Decides-all _ (λ one. Distinct (unique_ids one.database))
    (λ one. Decides-distinct ◌==◌ Decides-eqb (unique_ids one.database)) all)
    (Decides-and _ _ (Decides-distinct bytes_eq bytes_eq-Decides (names_of all))
    (Decides-and _ _ (Decides-every_one _ (NamedOnce image) (Decides-named image) (slots_of image))
    (Decides-and _ _ (Decides-every_one _ _ (Decides-listed image) _) no_test)))))))))))))

accepted_of : (image : List ℕ) → Conjuncts image → Accepted image
unfolding NamedOnce IsListed
accepted_of image (
  heap,
  (
    whole,
    (
      few,
      (
        distinct,
        (headers, (fits, (bytes, (infos, (entries, (some, (ids, (names, (once, (there, _)))))))))),
      ),
    ),
  ),
) =
    record {
      heap = heap;
      whole = whole;
      few = few;
      distinct = distinct;
      headers = headers;
      each = λ k d below. record {
        spelled = record { fits = fits k d below; bytes_are = bytes k d below };
        app_info = (infos k d below).0;
        sort_info = (infos k d below).1;
        entries = entries k d below;
        ids = record { none_zero = some k d below; distinct = ids k d below };
      };
      own_names = names;
      data_once =
          λ slot own. each_slot _ image once slot (owned_slot image slot heap (inr own)) own;
      all_listed =
          λ slot own. each_slot _ image there slot (owned_slot image slot heap (inl own)) own;
    }

conjuncts_of : (image : List ℕ) → Accepted image → Conjuncts image
unfolding NamedOnce IsListed
conjuncts_of image a = (
  a.heap,
  (
    a.whole,
    (
      a.few,
      (
        a.distinct,
        (
          a.headers,
          (
            λ k d below. (a.each k d below).spelled.fits,
            (
              λ k d below. (a.each k d below).spelled.bytes_are,
              (
                λ k d below. ((a.each k d below).app_info, (a.each k d below).sort_info),
                (
                  λ k d below. (a.each k d below).entries,
                  (
                    λ k d below. (a.each k d below).ids.none_zero,
                    (
                      λ k d below. (a.each k d below).ids.distinct,
                      (
                        a.own_names,
                        (
                          every_slot (NamedOnce image) image (λ slot is. a.data_once slot),
                          (every_slot (IsListed image) image (λ slot is. a.all_listed slot), tt),
                        ),
                      ),
                    ),
                  ),
                ),
              ),
            ),
          ),
        ),
      ),
    ),
  ),
)

pub Decides-store : (image : List ℕ) → Decides (is_store image) (Accepted image)
Decides-store image = Decides-like _ (accepted_of _) (conjuncts_of image) (Decides-conjuncts image)
