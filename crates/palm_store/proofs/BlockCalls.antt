-- The calls on info blocks: what they look at first, and the steps that they make.
use Rattle.palm_store.proofs.Words.{◌≡◌, ◌≢◌, ◌↔◌, ℕ, true, List, Option, Some, None, refl, sym, ap, ◌∙◌, inl, inr, IsSome, Memory, is_read_only, NoneHolds, FirstBrings, StoredDatabase, Accepted, store_of, OfDatabase, In, with_number, DoesInStore, Db, Name, Which, InfoBlock, ReadOnly, NoInfoBlock, asks, same_store, refused}
use Rattle.heap_model.specs.declared.call.Call.TheVariants as calls
use Rattle.heap_model.specs.declared.call.Reply.TheVariants.{Named, Refused}
use Rattle.palm_store.specs.InfoBlocks.{block_of_image, writing_checks}

-- it is there, and may only be read if the attributes say so
there : (x : Option StoredDatabase) (attributes : ℕ) → OfDatabase x (λ database. database.header.attributes ≡ attributes)
    → (x ≡ None → ⊥) × (OfDatabase x (λ database. is_read_only database.header.attributes ≡ true) ↔ (is_read_only attributes ≡ true))
there None attributes is = absurd is
there (Some one) attributes is = ((λ none. absurd cc), (λ set. sym (ap is_read_only is) ∙ set, λ set. ap is_read_only is ∙ set))

pub may_be_written : (image : List ℕ) (db : Db) (attributes : ℕ) → In (store_of image) db (λ database. database.header.attributes ≡ attributes) → (is_read_only attributes ≡ true → ⊥) → NoneHolds (writing_checks image db)
may_be_written image db attributes is free =
    let database = there (with_number (store_of image) db.0) attributes is in
    (database.0, ((λ set. free (database.1.0 set)), tt))

pub may_not_be_written : (image : List ℕ) (db : Db) (attributes : ℕ) → In (store_of image) db (λ database. database.header.attributes ≡ attributes) → is_read_only attributes ≡ true → FirstBrings (writing_checks image db) ReadOnly
may_not_be_written image db attributes is set =
    let database = there (with_number (store_of image) db.0) attributes is in
    inr (database.0, inl (database.1.1 set, refl))

pub known_number : (image : List ℕ) (db : Db) → IsSome (with_number (store_of image) db.0) → with_number (store_of image) db.0 ≡ None → ⊥
known_number image db known none = let no : IsSome {T = StoredDatabase} None = rw none at known in absurd cc

pub no_block_there : (region : Memory) (db : Db) (which : Which) → Accepted region.bytes → (with_number (store_of region.bytes) db.0 ≡ None → ⊥) → block_of_image region.bytes db which ≡ 0 → DoesInStore region (calls.Database (InfoBlock db which)) (Refused NoInfoBlock) region
no_block_there region db which a known none = refused region (calls.Database (InfoBlock db which)) NoInfoBlock a (inr (known, inl (none, refl)))

pub block_told : (region : Memory) (db : Db) (which : Which) (name : Name) → Accepted region.bytes → (with_number (store_of region.bytes) db.0 ≡ None → ⊥) → block_of_image region.bytes db which ≢ 0 → name.0 ≡ block_of_image region.bytes db which
    → DoesInStore region (calls.Database (InfoBlock db which)) (Named name) region
block_told region db which name a known some is = asks region (calls.Database (InfoBlock db which)) (Named name) a ((known, (some, tt)), (is, same_store region))
