-- What an accepted image means: one store.
use Rattle.laws_store.proofs.Words.{◌≡◌, ℕ, List, [], ◌∷◌, map, refl, sym, ap, ◌∙◌, All-head, All-tail, All, AllZip, managers_owner, ChunkMap, held, without_owner, Database, StoredDatabase, Store, bytes_under, listed, database_under, databases, IsDatabase, Accepted, SpelledUnder, Means, store_of, heap_holds, holds_one}
use Rattle.laws_store.proofs.Times.{map-All}
use Rattle.laws_store.proofs.Spellings.{database_read}

-- ---- the store that is read is meant

each_spelled : (image : List ℕ) (slots : List ℕ)
    → All (λ slot. IsDatabase image (database_under image slot)) slots
    → AllZip (SpelledUnder (held image)) slots (map (database_under image) slots)
unfolding bytes_under
each_spelled image [] all = tt
each_spelled image (slot ∷ slots) all =
    let one = All-head (λ slot. IsDatabase image (database_under image slot)) slot slots all in (
      record { number = refl; spelled = one.spelled },
      each_spelled image slots
          (All-tail (λ slot. IsDatabase image (database_under image slot)) slot slots all),
    )

pub read_is_meant : (image : List ℕ) → Accepted image → Means image (store_of image)
unfolding store_of databases
read_is_meant image a = record {
  all = held image;
  holds = heap_holds image a.heap;
  map_is = refl;
  spelled = each_spelled image (listed image)
      (map-All (IsDatabase image) (database_under image) (listed image) a.each);
}

-- ---- no other is

stored : ℕ → Database ℕ → StoredDatabase
stored db database = record { db = db; database = database }

same_stored : (map : ChunkMap) (slot : ℕ) (one other : StoredDatabase) → SpelledUnder map slot one
    → SpelledUnder map slot other → one ≡ other
unfolding stored
same_stored map slot one other p q =
    same one.db other.db one.database other.database (p.number ∙ sym q.number)
    (sym (database_read one.database _ p.spelled) ∙ database_read other.database _ q.spelled) where
      same : (a b : ℕ) (c d : Database ℕ) → a ≡ b → c ≡ d → stored a c ≡ stored b d
      same a b c d e f = cc

onto : StoredDatabase → List StoredDatabase → List StoredDatabase
onto x xs = x ∷ xs

same_databases : (map : ChunkMap) (slots : List ℕ) (xs ys : List StoredDatabase)
    → AllZip (SpelledUnder map) slots xs → AllZip (SpelledUnder map) slots ys → xs ≡ ys
unfolding onto
same_databases map [] [] [] p q = refl
same_databases map [] [] (y ∷ ys) p q = absurd q
same_databases map [] (x ∷ xs) ys p q = absurd p
same_databases map (slot ∷ slots) [] ys p q = absurd p
same_databases map (slot ∷ slots) (x ∷ xs) [] p q = absurd q
same_databases map (slot ∷ slots) (x ∷ xs) (y ∷ ys) p q =
    ap (λ z. z ∷ xs) (same_stored map slot x y p.0 q.0)
    ∙ ap (onto y) (same_databases map slots xs ys p.1 q.1)

store : ChunkMap → List StoredDatabase → Store
store map databases = record { map = map; databases = databases }

pub one_meant : (image : List ℕ) (one other : Store) → Means image one → Means image other
    → one ≡ other
unfolding store
one_meant image one other p q =
    let all : p.all ≡ q.all = holds_one image p.all q.all p.holds q.holds in
    let maps = p.map_is ∙ ap (λ m. without_owner m managers_owner) all ∙ sym q.map_is in
    let lists = same_databases q.all _ one.databases _ (rw all at p.spelled) q.spelled in
    ap (λ (m : ChunkMap). store m one.databases) maps ∙ ap (store other.map) lists
