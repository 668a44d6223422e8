-- What a store, and the directory word, say of the chunks of an image.
use Rattle.laws_store.proofs.Words.{◌≡◌, ◌≢◌, ℕ, ◌<◌, List, Option, Some, None, length, refl, sym, ap, ◌∙◌, arith, inl, inr, cases_eq, ne_eqb, get_or-map, ◌==◌, flat_map, u32_bytes, AreBytes, directory_of, LiveChunk, held, not_owned, callers_map, same, times, StoredDatabase, owner_of, bytes_of, bytes_under, owner_under, directory_bytes, listed, database_under, databases, numbers_of, Accepted, store_of, SameStore, HasDatabases, cond-false}
use Rattle.laws_store.proofs.Times.{same-yes, same-no, contained-times}
use Rattle.laws_store.proofs.Bodies.{held_bytes}
use Rattle.laws_store.proofs.Directories.{u32s_back}
use Rattle.laws_store.proofs.Owners.{owned_some}
use Rattle.laws_store.proofs.Counts.{length-numbers, same-is, has_databases}
use Rattle.laws_store.proofs.NewDatabases.{managers_loose}

-- what isn't the manager's is shown
all_shown : (o : Option LiveChunk) → owner_of o ≢ 0 → not_owned 0 o ≡ o
all_shown None own = refl
all_shown (Some live) own = cond-false (live.owner == 0) None (Some live) (ne_eqb live.owner 0 own)

-- ---- the manager's chunks

-- which chunks are the manager's is said by the databases and the directory word
managers_alike : (one other : List ℕ) (stored : List StoredDatabase) (name : ℕ)
    → HasDatabases one stored → HasDatabases other stored → directory_of one ≡ directory_of other
    → owner_under one name ≡ 0 → owner_under other name ≡ 0
managers_alike one other stored name h g word own =
    let some = owned_some one name 0 h.heap own (omega arith) in
    let here = h.listed_once name some in
    let there = g.listed_once name some in
    let directory = ap (same name) word in
    let yes = same-yes (owner_under one name) 0 own in
    same-is (owner_under other name) 0 (omega arith)

directory_read : (image : List ℕ) (stored : List StoredDatabase) → AreBytes image
    → HasDatabases image stored
    → bytes_under image (directory_of image) ≡ flat_map u32_bytes (numbers_of stored)
unfolding directory_bytes listed
directory_read image stored b h =
    sym (u32s_back (directory_bytes image) (held_bytes image (directory_of image) h.heap b) h.whole)
    ∙ ap (flat_map u32_bytes) h.listed_are

header_alike : (one other : List ℕ) (stored : List StoredDatabase) (name : ℕ)
    → HasDatabases one stored → HasDatabases other stored → 0 < times name (numbers_of stored)
    → bytes_under one name ≡ bytes_under other name
header_alike one other stored name h g some =
    let there = contained-times name (numbers_of stored) some in
    let len = length-numbers stored in
    let below = there.1 in
    let inside : there.0 < length stored = omega arith in
    let d : StoredDatabase = database_under one name in
    let number = sym (get_or-map (λ s. s.db) stored there.0 d name inside) ∙ there.2 in
    ap (bytes_under one) (sym number) ∙ (h.each there.0 d inside).spelled.bytes_are
    ∙ sym (g.each there.0 d inside).spelled.bytes_are ∙ ap (bytes_under other) number

manager_alike : (one other : List ℕ) (stored : List StoredDatabase) (name : ℕ) → AreBytes one
    → AreBytes other → HasDatabases one stored → HasDatabases other stored
    → directory_of one ≡ directory_of other → owner_under one name ≡ 0
    → bytes_under one name ≡ bytes_under other name
manager_alike one other stored name b c h g word own = elim (cases_eq name (directory_of one)) [
  | inl directory ↦ ap (bytes_under one) directory ∙ directory_read one stored b h
      ∙ sym (ap (bytes_under other) (directory ∙ word) ∙ directory_read other stored c g)
  | inr no_directory ↦
      let some = owned_some one name 0 h.heap own (omega arith) in
      let once = h.listed_once name some in
      let yes = same-yes (owner_under one name) 0 own in
      let no = same-no name (directory_of one) no_directory in
      header_alike one other stored name h g (omega arith)
]

-- ---- all chunks

abbrev chunk_of : List ℕ → ℕ → ℕ → Option LiveChunk
chunk_of bytes lock owner = Some (record { bytes = bytes; lock = lock; owner = owner })

-- two chunks of the manager's, neither of which has a lock, are the same where their bytes are
chunks_alike : (x y : Option LiveChunk) → ((live : LiveChunk) → x ≡ Some live → live.lock ≡ 0)
    → ((live : LiveChunk) → y ≡ Some live → live.lock ≡ 0) → owner_of x ≡ 0 → owner_of y ≡ 0
    → bytes_of x ≡ bytes_of y → x ≡ y
chunks_alike None y loose other_loose own other_own alike = absurd (omega (arith, own))
chunks_alike (Some x) None loose other_loose own other_own alike = absurd (omega (arith, other_own))
chunks_alike (Some x) (Some y) loose other_loose own other_own alike =
    ap (λ (bytes : List ℕ). chunk_of bytes x.lock x.owner) alike
    ∙ ap (λ (lock : ℕ). chunk_of y.bytes lock x.owner) (loose x refl ∙ sym (other_loose y refl))
    ∙ ap (λ (owner : ℕ). chunk_of y.bytes y.lock owner) (own ∙ sym other_own)

with_databases : (one other : List ℕ) (stored : List StoredDatabase) → AreBytes one → AreBytes other
    → HasDatabases one stored → HasDatabases other stored → directory_of one ≡ directory_of other
    → ((name : ℕ) → callers_map one name ≡ callers_map other name) → (name : ℕ)
    → held one name ≡ held other name
unfolding owner_under bytes_under
with_databases one other stored b c h g word same name = elim (cases_eq (owner_under one name) 0) [
  | inl own ↦
      let there = managers_alike one other stored name h g word own in
      chunks_alike (held one name) (held other name)
      (λ live is. managers_loose one name live h.heap is (sym (ap owner_of is) ∙ own))
      (λ live is. managers_loose other name live g.heap is (sym (ap owner_of is) ∙ there))
      own there (manager_alike one other stored name b c h g word own)
  | inr callers ↦
      let there : owner_under other name ≢ 0 =
      λ own. callers (managers_alike other one stored name g h (sym word) own) in
      sym (all_shown (held one name) callers) ∙ same name ∙ all_shown (held other name) there
]

pub stores_tell : (one other : List ℕ) → AreBytes one → AreBytes other → Accepted one
    → Accepted other → directory_of one ≡ directory_of other
    → SameStore (store_of one) (store_of other) → (name : ℕ) → held one name ≡ held other name
unfolding store_of
stores_tell one other b c a p word same = with_databases one other (databases one) b c
    (has_databases one a) (rw (← same.databases) at (has_databases other p)) word same.map
