-- The slots that one entry, or one database, more names are marked after those before it.
use Rattle.store_check.proofs.Terms.{◌≡◌, ℕ, suc, ◌+◌, List, [], ◌∷◌, ◌++◌, map, sym, ap, ◌∙◌, arith, append_assoc, map-append, append-nil, flat_map, IfNone, u32_at, numbered, entry_data, data_in, entry_in, entry_count_in, database_in, StoredDatabase, listed, database_under, databases, named_by, named, numbered_more, listed_at, listed_count, header_at, entries_spelled}
use Rattle.std.proofs.lemmas.Grind.{flat_map-append}
use Rattle.std.specs.Prelude.{Option, Some, None}

-- one number more
one_more : {X : Type 0} (each : ℕ → X) (n : ℕ)
    → numbered each (n + 1) ≡ numbered each n ++ each n ∷ []
one_more each n = let e : n + 1 ≡ suc n = omega arith in ap (numbered each) e ∙ numbered_more each n

-- what follows if there is no value
pub none_maps : {A : Type 0} {P Q : Type 0} (found : Option A) → (P → Q) → IfNone found P
    → IfNone found Q
none_maps None f p = f p
none_maps (Some value) f p = tt

-- ---- entries

pub entries_more : (bytes xs : List ℕ) (i slot : ℕ) → slot ≡ entry_data (entry_in bytes i)
    → (xs ++ map entry_data (numbered (entry_in bytes) i)) ++ slot ∷ []
    ≡ xs ++ map entry_data (numbered (entry_in bytes) (i + 1))
entries_more bytes xs i slot e =
    append_assoc xs (map entry_data (numbered (entry_in bytes) i)) (slot ∷ [])
    ∙ ap (λ (l : List ℕ). xs ++ l)
    (ap (λ (s : ℕ). map entry_data (numbered (entry_in bytes) i) ++ s ∷ []) e
    ∙ sym (map-append entry_data (numbered (entry_in bytes) i) (entry_in bytes i ∷ []))
    ∙ sym (ap (map entry_data) (one_more (entry_in bytes) i)))

pub entries_all : (bytes xs : List ℕ) (i : ℕ) → i ≡ entry_count_in bytes → xs
    ++ map entry_data (numbered (entry_in bytes) i) ≡ xs ++ map entry_data (entries_spelled bytes)
entries_all bytes xs i e = ap (λ (n : ℕ). xs ++ map entry_data (numbered (entry_in bytes) n)) e

-- ---- a database

pub data_all : (bytes xs : List ℕ) (app sort : ℕ) → app ≡ u32_at bytes 52 → sort ≡ u32_at bytes 56
    → ((xs ++ app ∷ []) ++ sort ∷ []) ++ map entry_data (entries_spelled bytes)
    ≡ xs ++ data_in (database_in bytes)
unfolding database_in
data_all bytes xs app sort e f =
    let rest : List ℕ = map entry_data (entries_spelled bytes) in
    append_assoc (xs ++ app ∷ []) (sort ∷ []) rest ∙ append_assoc xs (app ∷ []) (sort ∷ rest)
    ∙ ap (λ (a : ℕ). xs ++ a ∷ sort ∷ rest) e ∙ ap (λ (s : ℕ). xs ++ u32_at bytes 52 ∷ s ∷ rest) f

-- ---- databases

-- what the databases below an index name
abbrev pub named_below : List ℕ → ℕ → List ℕ
named_below image db = named_by (map (database_under image) (numbered (listed_at image) db))

data_of : StoredDatabase → List ℕ
data_of one = data_in one.database

pub named_more : (image xs bytes : List ℕ) (db : ℕ) → bytes ≡ header_at image db
    → (xs ++ named_below image db) ++ data_in (database_in bytes) ≡ xs ++ named_below image (db + 1)
unfolding header_at data_of
named_more image xs bytes db e =
    let front : List ℕ = numbered (listed_at image) db in
    let one : StoredDatabase = database_under image (listed_at image db) in
    append_assoc xs (named_below image db) (data_in (database_in bytes)) ∙ ap (λ (l : List ℕ). xs
    ++ l) (ap (λ (b : List ℕ). named_below image db ++ data_in (database_in b)) e
    ∙ ap (λ (l : List ℕ). named_below image db ++ l) (sym (append-nil (data_of one)))
    ∙ sym (flat_map-append data_of (map (database_under image) front) (one ∷ []))
    ∙ sym (ap (flat_map data_of) (ap (map (database_under image)) (one_more (listed_at image) db)
    ∙ map-append (database_under image) front (listed_at image db ∷ []))))

pub named_all : (image xs : List ℕ) (db : ℕ) → db ≡ listed_count image
    → xs ++ named_below image db ≡ xs ++ named image
unfolding named databases listed
named_all image xs db e = ap (λ (n : ℕ). xs ++ named_below image n) e
