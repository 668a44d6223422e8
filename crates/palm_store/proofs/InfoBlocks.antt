-- A database gets an info block from a caller's chunk, or hands its own over to a caller.
use Rattle.palm_store.proofs.Words.{◌≡◌, ◌≢◌, ℕ, ◌+◌, ◌<◌, false, List, refl, sym, ap, subst, ◌∙◌, arith, inl, inr, ◌⊎◌, data_owner, u32_at, directory_of, held, same, times, reowned, callers_map, Database, data_in, database_in, spelled, DatabaseFits, owner_under, IsInfoBlock, databases, Accepted, store_of, with_changed, IsSound, Leaves, Respells, rewritten, database_here, info_block, with_info_block, info_block_of, info_block_under, info_block_set, info_block_taken, raised, LeavesStore, Db, Which, same-no, accepted_sound, number_database, number_here, IsMovable, HasNumber, with_block}
use Rattle.heap_model.specs.declared.names.Which.TheVariants.{App, Sort}
use Rattle.laws_store.proofs.NameCounts.{times-data}
use Rattle.palm_store.proofs.DataChunks.{for_data, data_movable, data_no_directory}
use Rattle.palm_store.proofs.EntryChanges.{name_apart, then_raised, handed_steps, sound_like}
use Rattle.palm_store.proofs.TwoSteps.{rewritten_apart}
use Rattle.palm_store.proofs.GivenData.{IsGiven, given_steps}

pub same_name : (which : Which) (slot : ℕ) (d : Database ℕ) → (with_block which slot d).header.name ≡ d.header.name
same_name App slot d = refl
same_name Sort slot d = refl

-- it names the block in place of the one that it had
pub names_block : (q : ℕ) (which : Which) (slot : ℕ) (d : Database ℕ) → times q (data_in (with_block which slot d)) + same (info_block which d) q ≡ times q (data_in d) + same slot q
names_block q App slot d = omega (arith, times-data q d, times-data q (with_block App slot d))
names_block q Sort slot d = omega (arith, times-data q d, times-data q (with_block Sort slot d))

-- the block that there is
pub block_here : (image : List ℕ) (db : Db) (which : Which) → HasNumber image db.0 → info_block_under (store_of image) db which ≡ info_block which (database_here image db.0)
block_here image db which has = ap (info_block_of which) (number_here image db.0 has)

-- it is a chunk for data
block_owned : (image : List ℕ) (slot : ℕ) → IsInfoBlock image slot → 0 < slot → owner_under image slot ≡ data_owner
block_owned image slot is some = elim is [ inl none ↦ absurd (omega arith) | inr own ↦ own ]

pub block_owner : (image : List ℕ) (db : ℕ) (which : Which) → Accepted image → HasNumber image db → 0 < info_block which (database_here image db) → owner_under image (info_block which (database_here image db)) ≡ data_owner
block_owner image db App a has some = let d = number_database image db a has in block_owned image (database_here image db).app_info d.app_info some
block_owner image db Sort a has some = let d = number_database image db a has in block_owned image (database_here image db).sort_info d.sort_info some

-- the name of the block that there is
pub record IsBlock (image : List ℕ) (db : ℕ) (which : Which) (slot : ℕ) : Type 0 where
  pub is : slot ≡ info_block which (database_here image db)
  pub some : 0 < slot
  pub own : owner_under image slot ≡ data_owner

pub is_block : (image : List ℕ) (db : Db) (which : Which) (slot : ℕ) → Accepted image → HasNumber image db.0 → slot ≡ info_block_under (store_of image) db which → 0 < info_block_under (store_of image) db which → IsBlock image db.0 which slot
is_block image db which slot a has name there =
    let here = block_here image db which has in
    record { is = name ∙ here; some = omega arith; own = ap (owner_under image) (name ∙ here) ∙ block_owner image db.0 which a has (omega arith) }

-- it can be handed over once the database was written anew
pub block_movable : (old mid : List ℕ) (db : ℕ) (which : Which) (slot : ℕ) (d : Database ℕ) → Accepted old → HasNumber old db → IsBlock old db which slot → Respells old mid db d → IsMovable mid slot
block_movable old mid db which slot d a has block l =
    let movable = data_movable old slot a.heap (for_data old slot block.own) in
    record { live = movable.live; is_held = l.map slot ∙ rewritten_apart (held old) db slot (spelled d) (name_apart old db slot a has (λ some. block.own)) ∙ movable.is_held; movable = movable.movable }

pub block_no_directory : (old mid : List ℕ) (db : ℕ) (which : Which) (slot : ℕ) (d : Database ℕ) → Accepted old → IsBlock old db which slot → Respells old mid db d → slot ≢ directory_of mid
block_no_directory old mid db which slot d a block l e = data_no_directory old slot a.heap block.some block.own (e ∙ l.frame.directory)

-- the header that is read
pub block_read : (body : List ℕ) (which : Which) (slot : ℕ) → ((which ≡ App) × (slot ≡ u32_at body 52)) ⊎ ((which ≡ Sort) × (slot ≡ u32_at body 56)) → slot ≡ info_block which (database_in body)
unfolding database_in
block_read body which slot is = elim is [ inl app ↦ rw app.0 app.1 | inr sort ↦ rw sort.0 sort.1 ]

-- the steps
sound_with : (image : List ℕ) (db : ℕ) (which : Which) (slot : ℕ) → Accepted image → HasNumber image db → DatabaseFits (with_block which slot (database_here image db)) → IsSound (with_block which slot (database_here image db))
sound_with image db App slot a has fits = sound_like (database_here image db) (with_block App slot (database_here image db)) (accepted_sound image db a has) fits refl
sound_with image db Sort slot a has fits = sound_like (database_here image db) (with_block Sort slot (database_here image db)) (accepted_sound image db a has) fits refl

pub set_block_steps : (old new : List ℕ) (db : Db) (which : Which) (name : ℕ) → Accepted old → HasNumber old db.0 → IsGiven old name → info_block_under (store_of old) db which ≡ 0 → DatabaseFits (with_block which name (database_here old db.0))
    → Leaves old new (reowned (rewritten (held old) db.0 (spelled (with_block which name (database_here old db.0)))) name data_owner) → LeavesStore old new (raised (info_block_set (store_of old) db which name) db)
unfolding store_of
set_block_steps old new db which name a has g none fits l =
    let d : Database ℕ = database_here old db.0 in
    let was = sym (block_here old db which has) ∙ none in
    then_raised old new db (with_info_block which name) (record { map = reowned (callers_map old) name data_owner; databases = databases old })
    (given_steps old new db (with_block which name) name a has g l (sound_with old db.0 which name a has fits) (same_name which name d)
    (λ q some. (let names = names_block q which name d in let nothing = same-no (info_block which d) q (λ e. omega arith) in omega arith)))

pub take_block_steps : (old new : List ℕ) (db : Db) (which : Which) (slot owner : ℕ) → Accepted old → HasNumber old db.0 → slot ≡ info_block which (database_here old db.0) → 0 < slot → 0 < owner → owner < 15 → DatabaseFits (with_block which 0 (database_here old db.0))
    → Leaves old new (reowned (rewritten (held old) db.0 (spelled (with_block which 0 (database_here old db.0)))) slot owner) → LeavesStore old new (raised (info_block_taken (store_of old) db which owner) db)
unfolding store_of
take_block_steps old new db which slot owner a has is some low high fits l =
    let d : Database ℕ = database_here old db.0 in
    let own = ap (owner_under old) is ∙ block_owner old db.0 which a has (omega arith) in
    subst (λ (n : ℕ). LeavesStore old new (raised (record { map = reowned (callers_map old) n owner; databases = with_changed (databases old) db.0 (with_info_block which 0) }) db)) (is ∙ sym (block_here old db which has))
    (then_raised old new db (with_info_block which 0) (record { map = reowned (callers_map old) slot owner; databases = databases old })
    (handed_steps false old new db (with_block which 0) slot owner a has own low high l (sound_with old db.0 which 0 a has fits) (same_name which 0 d)
    (λ q positive. (let names = names_block q which 0 d in let nothing = same-no 0 q (λ e. omega arith) in let same_slot = ap (λ (n : ℕ). same n q) is in omega arith))))
