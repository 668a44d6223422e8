-- A deleted database: its header and what it named are gone, and its slot is listed no longer.
use Rattle.palm_store.proofs.Words.{◌≡◌, ◌≢◌, ℕ, ◌+◌, ◌*◌, ◌<◌, ◌≤◌, Bool, true, false, List, ◌∷◌, ◌++◌, length, take, drop, None, refl, sym, ap, ◌∙◌, arith, length-append, length-take, length-drop, inl, inr, cases_eq, ◌==◌, if◌then◌else◌, directory_of, held, same, times, u32s_in, Leaves, data_in, StoredDatabase, owner_under, directory_bytes, listed, databases, Accepted, all_gone, held-zero, Drops, Clears, same-yes, same-no, times-cons, named-remove, directory_owner, owned_some, has_databases, header_slots, length-numbers, number_at, directory_like, u32s_remove, Unlists}
use Rattle.std.proofs.lemmas.Bool.Decides.{nat_tests}
use Rattle.palm_store.proofs.Numbers.{Stands, length-listed, length-databases}
use Rattle.palm_store.proofs.Maps.{kept, is_gone, owner_none, owner_alike}

-- it names chunks for data alone, each once at most
pub named_most : (image : List ℕ) (index : ℕ) (one : StoredDatabase) → Accepted image → Stands image index one → (name : ℕ) → 0 < name → times name (data_in one.database) ≤ same (owner_under image name) 15
named_most image index one a s name some =
    let mine = ap (λ (x : StoredDatabase). times name (data_in x.database)) (s.is one) in
    omega (arith, (has_databases image a).named_once name some, named-remove name (databases image) index one s.inside)

pub header_owner : (image : List ℕ) (index : ℕ) (one : StoredDatabase) → Accepted image → Stands image index one → (owner_under image one.db ≡ 0) × (one.db ≢ directory_of image) × (0 < one.db)
header_owner image index one a s =
    let header = header_slots image (databases image) (has_databases image a) index 0 (omega (arith, length-numbers (databases image), s.inside)) in
    let number = number_at (databases image) index one s.inside ∙ ap (λ (x : StoredDatabase). x.db) (s.is one) in
    let own : owner_under image one.db ≡ 0 = ap (owner_under image) (sym number) ∙ header.owner in
    (own, λ e. header.other (number ∙ e), owned_some image one.db 0 a.heap own (omega arith))

-- all that went: the header and what it named
abbrev pub went : StoredDatabase → List ℕ
went one = one.db ∷ data_in one.database

went_times : (name : ℕ) (one : StoredDatabase) → times name (went one) ≡ same one.db name + times name (data_in one.database)
went_times name one = times-cons name one.db (data_in one.database)

-- a name of the manager's that is not the database's is left
managers_left : (image : List ℕ) (index : ℕ) (one : StoredDatabase) → Accepted image → Stands image index one → (name : ℕ) → name ≢ one.db → owner_under image name ≡ 0 → times name (went one) ≡ 0
managers_left image index one a s name other own =
    let some = owned_some image name 0 a.heap own (omega arith) in
    let none = same-no (owner_under image name) 15 (λ e. omega arith) in
    let no = same-no one.db name (λ e. other (sym e)) in
    omega (arith, named_most image index one a s name some, went_times name one)

-- how a name counts afterwards, by its owners: `o` before, and `n` afterwards
owners_after : (name db directory o n t : ℕ) → (name ≡ db → o ≡ 0) → db ≢ directory → (name ≡ directory → (o ≡ 0) × (n ≡ 0)) → t ≤ same o 15
    → (0 < same db name + t → name ≢ directory → n ≡ 16) → (same db name + t ≡ 0 → name ≢ directory → n ≡ o) → (same name db + same n 0 ≡ same o 0) × (t + same n 15 ≡ same o 15)
owners_after name db directory o n t header apart at_directory most goes stays = (grind (arith, nat_tests), grind (arith, nat_tests))

counts : (old mid new : List ℕ) (index : ℕ) (one : StoredDatabase) → Accepted old → Stands old index one → Leaves old mid (all_gone (held old) (went one)) → Unlists mid new index → (name : ℕ) → 0 < name
    → (same name one.db + same (owner_under new name) 0 ≡ same (owner_under old name) 0) × (times name (data_in one.database) + same (owner_under new name) 15 ≡ same (owner_under old name) 15)
counts old mid new index one a s l u name some =
    let h = header_owner old index one a s in
    let word : directory_of mid ≡ directory_of old = l.frame.directory in
    let all = went_times name one in
    owners_after name one.db (directory_of old) (owner_under old name) (owner_under new name) (times name (data_in one.database)) (λ e. ap (owner_under old) e ∙ h.0) h.1
    (λ d. (ap (owner_under old) d ∙ directory_owner old a.heap (omega arith), ap (owner_under new) (d ∙ sym (u.directory ∙ word)) ∙ directory_owner new u.accepted (omega (arith, u.directory ∙ word))))
    (named_most old index one a s name some)
    (λ more ne. owner_none new name (u.others name (λ e. ne (e ∙ word)) ∙ is_gone old mid (went one) name l (omega arith)))
    (λ none ne. owner_alike old new name (u.others name (λ e. ne (e ∙ word)) ∙ kept old mid (went one) name l (omega arith)))

-- the directory's bytes are as they were
pub directory_kept : (old mid : List ℕ) (index : ℕ) (one : StoredDatabase) → Accepted old → Stands old index one → Leaves old mid (all_gone (held old) (went one)) → directory_bytes mid ≡ directory_bytes old
directory_kept old mid index one a s l = directory_like old mid a.heap l.frame.accepted l.frame.directory
    (λ some. kept old mid (went one) (directory_of old) l (managers_left old index one a s (directory_of old) (λ e. (header_owner old index one a s).1 (sym e)) (directory_owner old a.heap some)))

-- the directory has the index
pub index_inside : (image : List ℕ) (index : ℕ) → index < length (databases image) → 4 * index + 4 ≤ length (directory_bytes image)
index_inside image index inside = let many = length-listed image in let all = length-databases image in omega arith

pub drops : (old mid new : List ℕ) (index : ℕ) (one : StoredDatabase) → Accepted old → Stands old index one → Leaves old mid (all_gone (held old) (went one)) → Unlists mid new index → Drops old new (databases old) index one
unfolding listed
drops old mid new index one a s l u =
    let word : directory_of mid ≡ directory_of old = l.frame.directory in
    let same_bytes = directory_kept old mid index one a s l in
    let within = index_inside old index s.inside in
    let left : directory_bytes new ≡ take (4 * index) (directory_bytes old) ++ drop (4 * index + 4) (directory_bytes old) = u.left ∙ ap (λ (xs : List ℕ). take (4 * index) xs ++ drop (4 * index + 4) xs) same_bytes in
    let long = ap length left ∙ length-append (take (4 * index) (directory_bytes old)) (drop (4 * index + 4) (directory_bytes old)) in
    record {
      heap = u.accepted;
      directory = u.directory ∙ word;
      whole = omega (arith, long, length-take (4 * index) (directory_bytes old), length-drop (4 * index + 4) (directory_bytes old), a.whole, within);
      listed_are = ap u32s_in left ∙ u32s_remove (directory_bytes old) index within;
      inside = s.inside;
      is = sym (s.is one);
      managers = λ name apart other own. u.others name (λ e. apart (e ∙ word)) ∙ kept old mid (went one) name l (managers_left old index one a s name other own);
      owners = λ name some. (counts old mid new index one a s l u name some).0;
      balance = λ name some. (counts old mid new index one a s l u name some).1;
    }

-- and all that it named is gone
pub clears : (old mid new : List ℕ) (index : ℕ) (one : StoredDatabase) → Accepted old → Stands old index one → Leaves old mid (all_gone (held old) (went one)) → Unlists mid new index → Clears old new one
clears old mid new index one a s l u =
    let h = header_owner old index one a s in
    let word : directory_of mid ≡ directory_of old = l.frame.directory in
    record {
      header = u.others one.db (λ e. h.1 (e ∙ word)) ∙ is_gone old mid (went one) one.db l (let all = went_times one.db one in let yes = same-yes one.db one.db refl in omega arith);
      others = λ name own. elim (cases_eq name 0) [
        | inl z ↦ ap (held new) z ∙ held-zero new u.accepted ∙ sym (ap (all_gone (held old) (data_in one.database)) z ∙ gone_zero (times 0 (data_in one.database) == 0))
        | inr some ↦
            let apart : name ≢ directory_of mid = λ e. own (ap (owner_under old) (e ∙ word) ∙ directory_owner old a.heap (let here : name ≡ directory_of old = e ∙ word in omega arith)) in
            let other : one.db ≢ name = λ e. own (ap (owner_under old) (sym e) ∙ h.0) in
            let no = same-no one.db name other in
            let all : times name (went one) ≡ times name (data_in one.database) = (let both = went_times name one in omega arith) in
            u.others name apart ∙ l.map name ∙ ap (λ (n : ℕ). if n == 0 then held old name else None) all
      ];
    } where
      gone_zero : (none : Bool) → (if none then held old 0 else None) ≡ None
      gone_zero true = held-zero old a.heap
      gone_zero false = refl
