-- A database that was made: its header is written into the chunk that was listed last.
use Rattle.palm_store.proofs.Words.{◌≡◌, ◌≢◌, ℕ, ◌+◌, ◌^◌, ◌<◌, ◌≤◌, Bool, false, List, [], ◌∷◌, ◌++◌, length, get_or, replicate, Option, Some, None, refl, sym, ap, subst, ◌∙◌, arith, length-append, inl, inr, both_ways, cases_eq, append-nil, map-append, get_or-map, length-map, All-nil, IsTrue, ◌⊎◌, if◌then◌else◌, All, flat_map, Memory, KeepsLoan, u32_bytes, header_size, HeapAccepted, directory_of, LiveChunk, chunks_of, held, free_slots, rooms, same, times, u32s_in, Distinct, not_owned, callers_map, put, Leaves, Stuck, Entry, Database, data_in, header_bytes, entry_bytes, spelled, has_resources, IsDatabaseName, EntryFits, DatabaseFits, StoredDatabase, owner_under, directory_bytes, listed, databases, names_of, most_databases, HasUniqueIds, Accepted, store_of, NamesData, IsTaken, empty_database, create_parts, create_slots, DoesInStore, Db, Refusal, NotEnoughSpace, InvalidName, AlreadyExists, TooManyEntries, Create, length-u32_bytes, read_heap, hidden, Appends, same-no, times-cons, owned_slot, directory_owner, owned_some, has_databases, listed_numbers, length-numbers, get-any, directory_like, number_owner, managers_loose, none_some, u32s_push, refused, same_steps, create_steps, ListsNew, ListsWhole, IsGained, GainsZeros, all_written}
use Rattle.std.proofs.lemmas.Bool.Decides.{nat_tests}
use Rattle.std.proofs.lemmas.List.Quantifiers.{all_pairs_push}
use Rattle.heap_model.specs.declared.call.Call.TheVariants as calls
use Rattle.heap_model.specs.declared.call.Reply.TheVariants as replies
use Rattle.laws_heap.proofs.Slots.{slot_facts}
use Rattle.laws_store.proofs.CallSteps.{changes}
use Rattle.palm_store.proofs.NewEntries.{left_as_before}
use Rattle.palm_store.proofs.DataChunks.{name_some}
use Rattle.palm_store.proofs.GainedChunks.{zip_weaken, zeros_of, IsNew, gained}
use Rattle.palm_store.proofs.Maps.{owner_held, owner_none, owner_alike, bytes_held, owned, held_some, still_through}
use Rattle.palm_store.proofs.ListedSlots.{chunk_of, put_here, put_apart, lock_of}

-- the directory has no lock
pub directory_unlocked : (image : List ℕ) (name : ℕ) (live : LiveChunk) → HeapAccepted image → held image name ≡ Some live → name ≡ directory_of image → live.lock ≡ 0
directory_unlocked image name live h e is =
    let some = name_some image name live h e in
    let o = owned image name 0 (ap (owner_under image) is ∙ directory_owner image h (omega arith)) (omega arith) in
    lock_of image name o.live live o.there (managers_loose image name o.live h o.there o.own) e

pub header_put : (old mid new : List ℕ) (slot : ℕ) (bytes : List ℕ) → HeapAccepted old → ListsNew old mid slot (replicate header_size 0) → Leaves mid new (put (held mid) slot 0 bytes) → length bytes ≡ 78 → ListsNew old new slot bytes
header_put old mid new slot bytes h l w long =
    let word : directory_of new ≡ directory_of mid = w.frame.directory in
    let kept : (name : ℕ) → name ≢ slot → held new name ≡ held mid name = put_apart mid new slot 0 bytes w in
    let listed_still : directory_bytes new ≡ directory_bytes mid = directory_like mid new l.accepted w.frame.accepted word (λ some. kept (directory_of mid) (λ e. l.apart (sym e))) in
    record {
      accepted = w.frame.accepted;
      len = w.frame.len ∙ l.len;
      tables = w.frame.tables ∙ l.tables;
      still = still_through old mid new l.still w.still (λ name live e locked. l.others name (λ same_slot. none_some (held old name) live (ap (held old) same_slot ∙ l.fresh) e)
          (λ directory. elim l.directory [
            | inl stays ↦ (let loose = directory_unlocked old name live h e (directory ∙ stays) in absurd (omega arith))
            | inr begins ↦ none_some (held old name) live (ap (held old) directory ∙ begins.1) e
          ]) ∙ e);
      some = let some = l.some in omega arith;
      directory = elim l.directory [ inl stays ↦ inl (word ∙ stays) | inr begins ↦ inr (begins.0, ap (held old) word ∙ begins.1) ];
      last = listed_still ∙ l.last;
      fresh = l.fresh;
      apart = λ e. l.apart (e ∙ word);
      chunk = put_here mid new slot 0 bytes (chunk_of (replicate header_size 0)) w l.chunk ∙ ap (λ (xs : List ℕ). Some (chunk_of xs)) (all_written (replicate 78 0) bytes long);
      others = λ name ne other. kept name ne ∙ l.others name ne (λ e. other (e ∙ sym word));
    }

-- what was found of a name
pub not_taken : (image given name : List ℕ) (db : ℕ) (found : Bool) → (IsTaken (store_of image) db given → IsTrue found) → found ≡ false → given ≡ name → IsTaken (store_of image) db name → ⊥
not_taken image given name db found finds none is taken = both_ways found none (finds (subst (λ (n : List ℕ). IsTaken (store_of image) db n) (sym is) taken))

-- the database that came
pub slot_fits : (image : List ℕ) (slot : ℕ) → HeapAccepted image → owner_under image slot ≡ 0 → slot < 2 ^ 32
slot_fits image slot h own =
    let s = owned_slot image slot h (inl own) in
    let heap = read_heap image h in
    let inside = (slot_facts image (chunks_of image) slot heap.tiles s).inside in
    let most = heap.tiles.head.most in
    omega arith

-- no database has the name yet
pub names_apart : (image name : List ℕ) → Accepted image → (IsTaken (store_of image) 0 name → ⊥) → (k : ℕ) (d : StoredDatabase) → k < length (databases image) → (get_or (databases image) k d).database.header.name ≢ name
unfolding store_of
names_apart image name a free k d inside e =
    let one : StoredDatabase = get_or (databases image) k d in
    let some = owned_some image one.db 0 a.heap (number_owner image (databases image) k d (has_databases image a) inside) (omega arith) in
    free (k, one, inside, get-any (databases image) k one d inside, (λ z. omega arith, e))

pub own_names : (image : List ℕ) (one : StoredDatabase) → Accepted image → (IsTaken (store_of image) 0 one.database.header.name → ⊥) → Distinct (names_of (databases image ++ one ∷ []))
own_names image one a free =
    let many = length-map (databases image) (λ (x : StoredDatabase). x.database.header.name) in
    subst (λ (names : List (List ℕ)). Distinct names) (sym (map-append (λ (x : StoredDatabase). x.database.header.name) (databases image) (one ∷ [])))
    (all_pairs_push (λ a b. a ≢ b) (names_of (databases image)) one.database.header.name a.own_names
    (λ k n below e. names_apart image one.database.header.name a free k one (omega arith) (sym (get_or-map (λ (x : StoredDatabase). x.database.header.name) (databases image) k one n (omega arith)) ∙ e)))

none_named : (name : ℕ) → 0 < name → times name (0 ∷ 0 ∷ []) ≡ 0
none_named name some = omega (arith, times-cons name 0 (0 ∷ []), times-cons name 0 [], same-no 0 name (λ e. omega arith))

-- how a name counts afterwards, by its owners: `o` before, and `n` afterwards
owners_gained : (name slot was directory o n t : ℕ) → 0 < name → slot ≢ directory → (name ≡ slot → (o ≡ 16) × (n ≡ 0)) → (name ≡ directory → n ≡ 0) → (name ≡ was → o ≡ 0)
    → (directory ≡ was) ⊎ ((was ≡ 0) × (name ≡ directory → o ≡ 16)) → (0 < t → (t ≤ 1) × (o ≡ 16) × (n ≡ 15)) → (name ≢ slot → name ≢ directory → t ≡ 0 → n ≡ o)
    → (same name slot + same name directory + same o 0 ≡ same name was + same n 0) × (t + same o 15 ≡ same n 15)
owners_gained name slot was directory o n t some apart at_slot at_directory at_was begins gains stays = (grind (arith, nat_tests), grind (arith, nat_tests))

-- it comes after the others, with its data
pub appends_gained : (old new : List ℕ) (one : StoredDatabase) (sizes : List (Option ℕ)) (names : List ℕ) → Accepted old → ListsWhole old new one.db (spelled one.database) sizes names → DatabaseFits one.database → All NamesData one.database.entries
    → HasUniqueIds one.database → ((q : ℕ) → 0 < q → times q (data_in one.database) ≡ times q names) → length (databases old) < most_databases → (IsTaken (store_of old) 0 one.database.header.name → ⊥) → Appends old new (databases old) one
unfolding listed
appends_gained old new one sizes names a l fits named ids sums few free =
    let chunk : LiveChunk = chunk_of (spelled one.database) in
    let own : owner_under new one.db ≡ 0 = owner_held new one.db chunk l.chunk in
    let was : owner_under old one.db ≡ 16 = owner_none old one.db l.fresh in
    record {
      heap = l.accepted;
      whole = omega (arith, length-append (directory_bytes old) (u32_bytes one.db), length-u32_bytes one.db, ap length l.last, a.whole);
      listed_are = ap u32s_in l.last ∙ u32s_push (directory_bytes old) one.db a.whole (slot_fits new one.db l.accepted own);
      some = held_some new one.db chunk l.accepted l.chunk (omega arith);
      few = few;
      database = record { spelled = record { fits = fits; bytes_are = bytes_held new one.db chunk l.chunk }; entries = named; ids = ids };
      own_names = own_names old one a free;
      managers = λ name other owns. l.others name (λ e. (let same_owner = ap (owner_under old) e in omega arith))
          (λ e. elim l.directory [
            | inl stays ↦ other (e ∙ stays)
            | inr begins ↦ (let none = owner_none old name (ap (held old) e ∙ begins.1) in omega arith)
          ])
          (λ positive. elim (cases_eq (times name names) 0) [
            | inl none ↦ none
            | inr more ↦ (let none = owner_none old name (is_new name positive (omega arith)).fresh in absurd (omega arith))
          ]);
      owners = λ name positive. (owned_after name positive own was).0;
      balance = λ name positive. (let after = (owned_after name positive own was).1 in let sum = sums name positive in omega arith);
    } where
      is_new : (name : ℕ) → 0 < name → 0 < times name names → IsNew (held old) (held new) name
      is_new name positive at = gained (held old) (held new) sizes names l.each name positive at

      owned_after : (name : ℕ) → 0 < name → owner_under new one.db ≡ 0 → owner_under old one.db ≡ 16 → (same name one.db + same name (directory_of new) + same (owner_under old name) 0 ≡ same name (directory_of old) + same (owner_under new name) 0) × (times name names + same (owner_under old name) 15 ≡ same (owner_under new name) 15)
      owned_after name positive own was = owners_gained name one.db (directory_of old) (directory_of new) (owner_under old name) (owner_under new name) (times name names) positive l.apart
          (λ e. (ap (owner_under old) e ∙ was, ap (owner_under new) e ∙ own)) (λ e. ap (owner_under new) e ∙ directory_owner new l.accepted l.some) (λ e. ap (owner_under old) e ∙ directory_owner old a.heap (omega arith))
          (elim l.directory [ inl stays ↦ inl stays | inr begins ↦ inr (begins.0, λ e. owner_none old name (ap (held old) e ∙ begins.1)) ])
          (λ some. (let is = is_new name positive some in (l.once name positive, owner_none old name is.fresh, owner_held new name (zeros_of is.size) is.there)))
          (λ ne other none. owner_alike old new name (l.others name ne other (λ z. none)))

-- what callers may name
hidden_none : (image : List ℕ) (name : ℕ) → owner_under image name ≡ 0 → callers_map image name ≡ None
unfolding owner_under
hidden_none image name own = hidden (held image name) own

pub callers_gain : (old new : List ℕ) (db : ℕ) (bytes : List ℕ) (sizes : List (Option ℕ)) (names : List ℕ) → HeapAccepted old → ListsWhole old new db bytes sizes names → GainsZeros (callers_map old) (callers_map new) sizes names
callers_gain old new db bytes sizes names h l = record {
  each = zip_weaken (IsGained (held old) (held new)) (IsGained (callers_map old) (callers_map new)) sizes names (λ size name. shown size name) l.each;
  once = l.once;
  others = λ name none. elim (cases_eq name db) [
    | inl e ↦ hidden_none new name (ap (owner_under new) e ∙ owner_held new db (chunk_of bytes) l.chunk) ∙ sym (ap (not_owned 0) (ap (held old) e ∙ l.fresh))
    | inr ne ↦ elim (cases_eq name (directory_of new)) [
      | inl e ↦ hidden_none new name (ap (owner_under new) e ∙ directory_owner new l.accepted l.some) ∙ sym (elim l.directory [
        | inl stays ↦ hidden_none old name (ap (owner_under old) (e ∙ stays) ∙ directory_owner old h (omega (arith, l.some)))
        | inr begins ↦ ap (not_owned 0) (ap (held old) e ∙ begins.1)
      ])
      | inr other ↦ ap (not_owned 0) (l.others name ne other none)
    ]
  ];
} where
  shown : (size : Option ℕ) (name : ℕ) → IsGained (held old) (held new) size name → IsGained (callers_map old) (callers_map new) size name
  shown None name is = is
  shown (Some size) name is = (is.0, ap (not_owned 0) is.1, ap (not_owned 0) is.2)

-- without data
as_whole : (old new : List ℕ) (slot : ℕ) (bytes : List ℕ) → ListsNew old new slot bytes → ListsWhole old new slot bytes [] []
as_whole old new slot bytes l = record {
  accepted = l.accepted;
  len = l.len;
  tables = l.tables;
  still = l.still;
  some = l.some;
  directory = l.directory;
  last = l.last;
  fresh = l.fresh;
  apart = l.apart;
  chunk = l.chunk;
  each = tt;
  once = λ name some. omega arith;
  others = λ name ne other none. l.others name ne other;
}

-- the step
pub few_listed : (image : List ℕ) → length (listed image) < most_databases → length (databases image) < most_databases
few_listed image few = omega (arith, length-numbers (databases image), ap length (listed_numbers image))

pub below_most : (image : List ℕ) → length (databases image) < most_databases → most_databases ≤ length (store_of image).databases → ⊥
unfolding store_of
below_most image room many = omega arith

pub created : (old new : Memory) (db : Db) (name : List ℕ) (kind creator : ℕ) (resources : Bool) (date : ℕ) → Accepted old.bytes → ListsNew old.bytes new.bytes db.0 (spelled (empty_database name kind creator resources date)) → DatabaseFits (empty_database name kind creator resources date)
    → length (listed old.bytes) < most_databases → (IsTaken (store_of old.bytes) 0 name → ⊥) → KeepsLoan old new → new ≡ record old { bytes = new.bytes; slid = new.slid } → DoesInStore old (calls.Database (Create name kind creator resources date)) (replies.Database db) new
created old new db name kind creator resources date a l fits few free loan rest =
    let one : StoredDatabase = record { db = db.0; database = empty_database name kind creator resources date } in
    let room = few_listed old.bytes few in
    let whole = as_whole old.bytes new.bytes db.0 (spelled one.database) l in
    let ids : HasUniqueIds one.database = record { none_zero = All-nil (λ id. id ≢ 0); distinct = λ i j d less below. absurd (omega arith) } in
    let has = create_steps old.bytes new.bytes one a (appends_gained old.bytes new.bytes one [] [] a whole fits (All-nil NamesData) ids (λ q some. none_named q some) room free)
    (λ name. (callers_gain old.bytes new.bytes db.0 (spelled one.database) [] [] a.heap whole).others name (λ some. refl)) in
    record {
      before = a;
      step = ((λ not_name. not_name fits.name, (free, ((λ many. below_most old.bytes room many), (tt, tt)))), (l.fresh, has.same));
      accepted = has.accepted;
      len = l.len;
      tables = l.tables;
      directory = elim l.directory [ inl stays ↦ inl stays | inr begins ↦ inr (begins.0, tt) ];
      still = l.still;
      loan = loan;
      asks = tt;
      rest = rest;
    }

-- where there was no room all is as before
pub not_created : (old new : Memory) (name : List ℕ) (kind creator : ℕ) (resources : Bool) (date : ℕ) (refusal : Refusal) → Accepted old.bytes → IsDatabaseName name → length (listed old.bytes) < most_databases → (IsTaken (store_of old.bytes) 0 name → ⊥)
    → (free_slots old.bytes < create_slots old.bytes) ⊎ Stuck (rooms old.bytes) (create_parts old.bytes) → refusal ≡ NotEnoughSpace → Leaves old.bytes new.bytes (held old.bytes) → KeepsLoan old new → new ≡ record old { bytes = new.bytes; slid = new.slid }
    → DoesInStore old (calls.Database (Create name kind creator resources date)) (replies.Refused refusal) new
not_created old new name kind creator resources date refusal a named few free lacks is l loan rest =
    let why = inr (λ not_name. not_name named, inr (free, inr ((λ many. below_most old.bytes (few_listed old.bytes few) many), inl (lacks, is)))) in
    changes old new (calls.Database (Create name kind creator resources date)) (replies.Refused refusal) (store_of old.bytes) (λ tables. refl) a (same_steps old.bytes new.bytes a l) (why, left_as_before old new a l) loan tt rest

-- what is refused at once
pub not_named : (old : Memory) (name : List ℕ) (kind creator : ℕ) (resources : Bool) (date : ℕ) → Accepted old.bytes → (IsDatabaseName name → ⊥) → DoesInStore old (calls.Database (Create name kind creator resources date)) (replies.Refused InvalidName) old
not_named old name kind creator resources date a unnamed = refused old (calls.Database (Create name kind creator resources date)) InvalidName a (inl (unnamed, refl))

pub name_taken : (old : Memory) (name : List ℕ) (kind creator : ℕ) (resources : Bool) (date : ℕ) → Accepted old.bytes → IsDatabaseName name → IsTaken (store_of old.bytes) 0 name
    → DoesInStore old (calls.Database (Create name kind creator resources date)) (replies.Refused AlreadyExists) old
name_taken old name kind creator resources date a named taken = refused old (calls.Database (Create name kind creator resources date)) AlreadyExists a (inr ((λ not_name. not_name named), inl (taken, refl)))

pub most_there : (image : List ℕ) → most_databases ≤ length (listed image) → most_databases ≤ length (store_of image).databases
unfolding store_of
most_there image many = omega (arith, length-numbers (databases image), ap length (listed_numbers image))

pub too_many : (old : Memory) (name : List ℕ) (kind creator : ℕ) (resources : Bool) (date : ℕ) → Accepted old.bytes → IsDatabaseName name → (IsTaken (store_of old.bytes) 0 name → ⊥) → most_databases ≤ length (listed old.bytes)
    → DoesInStore old (calls.Database (Create name kind creator resources date)) (replies.Refused TooManyEntries) old
too_many old name kind creator resources date a named free many =
    refused old (calls.Database (Create name kind creator resources date)) TooManyEntries a (inr ((λ not_name. not_name named), inr (free, inl (most_there old.bytes many, refl))))

-- its header
bit_fits : (resources : Bool) → (if resources then 1 else 0) < 2 ^ 16
bit_fits resources = grind (arith, nat_tests)

pub empty_fits : (name : List ℕ) (kind creator : ℕ) (resources : Bool) (date : ℕ) → IsDatabaseName name → kind < 2 ^ 32 → creator < 2 ^ 32 → date < 2 ^ 32 → DatabaseFits (empty_database name kind creator resources date)
empty_fits name kind creator resources date named kind_fits creator_fits date_fits = record {
  name = named;
  header = record {
    attributes = bit_fits resources;
    version = omega arith;
    creation_date = date_fits;
    modification_date = date_fits;
    backup_date = omega arith;
    modification_number = omega arith;
    kind = kind_fits;
    creator = creator_fits;
    seed = omega arith;
  };
  app_info = omega arith;
  sort_info = omega arith;
  entries = All-nil (EntryFits (has_resources (if resources then 1 else 0)));
  entry_count = omega arith;
}

-- what spells it is its header
pub header_spells : (database : Database ℕ) → database.entries ≡ [] → spelled database ≡ header_bytes database
unfolding spelled
header_spells database empty = ap (λ (entries : List (Entry ℕ)). header_bytes database ++ flat_map entry_bytes entries) empty ∙ append-nil (header_bytes database)
