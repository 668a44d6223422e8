-- Calls that leave the manager's chunks alone leave the databases.
use Rattle.laws_store.proofs.Words.{◌≡◌, ℕ, ◌+◌, ◌%◌, ◌<◌, List, [], length, get_or, sym, ap, ◌∙◌, arith, inl, inr, cases_eq, get_or-map, managers_owner, data_owner, HeapAccepted, directory_of, held, same, times, u32s_in, StoredDatabase, bytes_of, bytes_under, owner_under, directory_bytes, listed, numbers_of, IsWhole, HasDatabases, held-zero, KeepsManagers}
use Rattle.laws_store.proofs.Owners.{directory_owner}
use Rattle.laws_store.proofs.Times.{same-yes, same-no}
use Rattle.laws_store.proofs.Counts.{length-numbers, header_slots}

-- ---- the directory

pub bytes_like : (old new : List ℕ) (name : ℕ) → held new name ≡ held old name
    → bytes_under new name ≡ bytes_under old name
unfolding bytes_under
bytes_like old new name e = ap bytes_of e

bytes-zero : (image : List ℕ) → HeapAccepted image → bytes_under image 0 ≡ []
unfolding bytes_under
bytes-zero image heap = ap bytes_of (held-zero image heap)

-- the directory's bytes stay where its word stays, and its chunk, if there is one
pub directory_like : (old new : List ℕ) → HeapAccepted old → HeapAccepted new
    → directory_of new ≡ directory_of old
    → (0 < directory_of old → held new (directory_of old) ≡ held old (directory_of old))
    → directory_bytes new ≡ directory_bytes old
unfolding directory_bytes
directory_like old new was is word chunk =
    ap (bytes_under new) word ∙ elim (cases_eq (directory_of old) 0) [
      | inl none ↦ ap (bytes_under new) none ∙ bytes-zero new is
          ∙ sym (ap (bytes_under old) none ∙ bytes-zero old was)
      | inr some ↦ bytes_like old new (directory_of old) (chunk (omega arith))
    ]

pub listed_like : (old new : List ℕ) → directory_bytes new ≡ directory_bytes old
    → listed new ≡ listed old
unfolding listed
listed_like old new e = ap u32s_in e

-- ---- the databases

pub whole_like : (old new : List ℕ) (one : StoredDatabase)
    → bytes_under new one.db ≡ bytes_under old one.db → IsWhole old one → IsWhole new one
whole_like old new one e whole =
    record { spelled = rw (← e) at whole.spelled; entries = whole.entries; ids = whole.ids }

-- where two owners are this one alike, they count alike
pub same-like : (a b c : ℕ) → (a ≡ c → b ≡ c) → (b ≡ c → a ≡ c) → same a c ≡ same b c
same-like a b c there back = elim (cases_eq a c) [
  | inl e ↦ same-yes a c e ∙ sym (same-yes b c (there e))
  | inr ne ↦ same-no a c ne ∙ sym (same-no b c (λ e. ne (back e)))
]

-- the number of a database is that of a chunk of the manager's, and not the directory's
pub number_owner : (image : List ℕ) (stored : List StoredDatabase) (k : ℕ) (d : StoredDatabase)
    → HasDatabases image stored → k < length stored
    → owner_under image (get_or stored k d).db ≡ managers_owner
number_owner image stored k d h below =
    let len = length-numbers stored in
    let header = header_slots image stored h k 0 (omega arith) in
    ap (owner_under image) (sym (get_or-map (λ one. one.db) stored k d 0 below)) ∙ header.owner

pub databases_kept : (old new : List ℕ) (stored : List StoredDatabase) → HasDatabases old stored
    → KeepsManagers old new → HasDatabases new stored
databases_kept old new stored h k =
    let directory = directory_like old new h.heap k.heap k.directory
    (λ some. k.managers (directory_of old) (directory_owner old h.heap some)) in
    record {
      heap = k.heap;
      whole = ap (λ (bytes : List ℕ). length bytes % 4) directory ∙ h.whole;
      listed_are = listed_like old new directory ∙ h.listed_are;
      few = h.few;
      each = λ i d below. whole_like old new (get_or stored i d)
          (bytes_like old new (get_or stored i d).db (k.managers (get_or stored i d).db
          (number_owner old stored i d h below))) (h.each i d below);
      own_names = h.own_names;
      named_once = λ name some. h.named_once name some ∙ same-like (owner_under old name)
          (owner_under new name) data_owner (k.«data» name).1 (k.«data» name).0;
      listed_once = λ name some.
          ap (λ slot. times name (numbers_of stored) + same name slot) k.directory
          ∙ h.listed_once name some ∙ same-like (owner_under old name)
          (owner_under new name) managers_owner (k.owners name).1 (k.owners name).0;
      none_listed = h.none_listed;
    }
