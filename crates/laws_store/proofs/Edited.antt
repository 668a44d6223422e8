-- Images in which one database and some other chunks were edited: what names stand for, whose they
-- are, and how often they are those of chunks for data.
use Rattle.laws_store.proofs.Words.{◌≡◌, ◌≢◌, ℕ, ◌+◌, ◌<◌, List, [], ◌∷◌, Option, Some, None, refl, sym, ap, subst, ◌∙◌, arith, inl, inr, cases_eq, eq-eqb, ne_eqb, All-head, All-tail, ◌==◌, ◌↔◌, ◌⊎◌, IsSome, All, managers_owner, data_owner, overwritten, LiveChunk, ChunkMap, held, updated, changed, put, not_owned, callers_map, same, times, Leaves, rewritten, Respells, Database, data_in, spelled, bytes_of, owner_of, bytes_under, owner_under, KeepsLocks, cond-true, cond-false, same_some, Change, all_updated, IsCallersChange}
use Rattle.laws_store.proofs.Times.{same-yes, same-no}

-- ---- what names stand for

pub here : (map : ChunkMap) (name : ℕ) (now : Option LiveChunk) (other : ℕ) → other ≡ name
    → updated map name now other ≡ now
here map name now other e = cond-true (other == name) now (map other) (eq-eqb other name e)

pub apart : (map : ChunkMap) (name : ℕ) (now : Option LiveChunk) (other : ℕ) → other ≢ name
    → updated map name now other ≡ map other
apart map name now other ne = cond-false (other == name) now (map other) (ne_eqb other name ne)

-- the manager's chunks are hidden, and all others shown
pub hidden : (o : Option LiveChunk) → owner_of o ≡ 0 → not_owned 0 o ≡ None
hidden None own = refl
hidden (Some live) own = cond-true (live.owner == 0) None (Some live) (eq-eqb live.owner 0 own)

pub shown : (o : Option LiveChunk) → owner_of o ≢ 0 → not_owned 0 o ≡ o
shown None own = refl
shown (Some live) own = cond-false (live.owner == 0) None (Some live) (ne_eqb live.owner 0 own)

with_bytes : List ℕ → LiveChunk → LiveChunk
with_bytes bytes live = record live { bytes = bytes }

owner_with : (bytes : List ℕ) (o : Option LiveChunk)
    → owner_of (changed (with_bytes bytes) o) ≡ owner_of o
unfolding with_bytes
owner_with bytes None = refl
owner_with bytes (Some live) = refl

bytes_with : (bytes : List ℕ) (o : Option LiveChunk) → IsSome o
    → bytes_of (changed (with_bytes bytes) o) ≡ bytes
unfolding with_bytes
bytes_with bytes None some = absurd cc
bytes_with bytes (Some live) some = refl

lock_with : (bytes : List ℕ) (o : Option LiveChunk) (before after : LiveChunk) → o ≡ Some before
    → changed (with_bytes bytes) o ≡ Some after → after.lock ≡ before.lock
unfolding with_bytes
lock_with bytes None before after was is = absurd cc
lock_with bytes (Some live) before after was is =
    ap (λ l. l.lock) (sym (same_some (with_bytes bytes live) after is))
    ∙ ap (λ l. l.lock) (same_some live before was)

-- two facts of a chunk that is the same
pub lock_same : (o p : Option LiveChunk) (before after : LiveChunk) → p ≡ o → o ≡ Some before
    → p ≡ Some after → after.lock ≡ before.lock
lock_same o p before after e was is = ap (λ l. l.lock) (same_some after before (sym is ∙ e ∙ was))

-- ---- the names that were changed, and all others

-- One of some changes is of the name. It has what all of them have, and two maps with them say what
-- it says.
pub record IsChanged (P : Change → Type 0) (map other_map : ChunkMap) (changes : List Change) (name : ℕ) : Type 0 where
  pub one : Change
  pub holds : P one
  pub is : name ≡ one.name
  pub now : all_updated map changes name ≡ one.now
  pub other_now : all_updated other_map changes name ≡ one.now

-- or none is, and both say what they said
pub record IsKept (map other_map : ChunkMap) (changes : List Change) (name : ℕ) : Type 0 where
  pub same_chunk : all_updated map changes name ≡ map name
  pub other_same : all_updated other_map changes name ≡ other_map name

pub changed_or_kept : (P : Change → Type 0) (map other_map : ChunkMap) (changes : List Change)
    (name : ℕ) → All P changes
    → IsChanged P map other_map changes name ⊎ IsKept map other_map changes name
changed_or_kept P map others [] name all = inr (record { same_chunk = refl; other_same = refl })
changed_or_kept P map others (one ∷ more) name all = elim (cases_eq name one.name) [
  | inl e ↦ inl (record {
    one = one;
    holds = All-head P one more all;
    is = e;
    now = here (all_updated map more) one.name one.now name e;
    other_now = here (all_updated others more) one.name one.now name e;
  })
  | inr ne ↦
      let past = apart (all_updated map more) one.name one.now name ne in
      let other_past = apart (all_updated others more) one.name one.now name ne in
      elim (changed_or_kept P map others more name (All-tail P one more all)) [
        | inl c ↦ inl (record {
          one = c.one;
          holds = c.holds;
          is = c.is;
          now = past ∙ c.now;
          other_now = other_past ∙ c.other_now;
        })
        | inr k ↦ inr
            (record { same_chunk = past ∙ k.same_chunk; other_same = other_past ∙ k.other_same })
      ]
]

-- one change alone
abbrev pub one_change : ℕ → Option LiveChunk → List Change
one_change name now = record { name = name; now = now } ∷ []

-- a map with other bytes in one chunk, and others replaced
abbrev pub edited : ChunkMap → ℕ → List ℕ → List Change → ChunkMap
edited map db bytes changes = all_updated (rewritten map db bytes) changes

-- none of them is the database's
kept_header : (old : List ℕ) (map : ChunkMap) (db : ℕ) (changes : List Change)
    → owner_under old db ≡ managers_owner → All (IsCallersChange old) changes
    → all_updated map changes db ≡ map db
kept_header old map db changes own each =
    elim (changed_or_kept (IsCallersChange old) map map changes db each) [
      | inl c ↦ absurd (c.holds.callers (ap (owner_under old) (sym c.is) ∙ own))
      | inr k ↦ k.same_chunk
    ]

header_held : (old new : List ℕ) (db : ℕ) (bytes : List ℕ) (changes : List Change)
    → Leaves old new (edited (held old) db bytes changes) → owner_under old db ≡ managers_owner
    → All (IsCallersChange old) changes → held new db ≡ changed (with_bytes bytes) (held old db)
unfolding with_bytes
header_held old new db bytes changes l own each =
    l.map db
    ∙ kept_header old (rewritten (held old) db bytes) db changes own each
    ∙ here (held old) db (changed (λ live. record live { bytes = bytes }) (held old db)) db refl

-- what is neither the database nor changed
rewritten_apart : (map : ChunkMap) (db : ℕ) (bytes : List ℕ) (other : ℕ) → other ≢ db
    → rewritten map db bytes other ≡ map other
rewritten_apart map db bytes other away = apart map db _ other away

-- all that a change may be of is the callers'
pub managers_held : (old new : List ℕ) (db : ℕ) (bytes : List ℕ) (changes : List Change)
    → Leaves old new (edited (held old) db bytes changes) → All (IsCallersChange old) changes
    → (other : ℕ) → other ≢ db → owner_under old other ≡ managers_owner
    → held new other ≡ held old other
managers_held old new db bytes changes l each other away own =
    l.map other
    ∙ kept_header old (rewritten (held old) db bytes) other changes own each
    ∙ rewritten_apart (held old) db bytes other away

-- the bytes of the database
pub body_edited : (old new : List ℕ) (db : ℕ) (bytes : List ℕ) (changes : List Change)
    → Leaves old new (edited (held old) db bytes changes) → owner_under old db ≡ managers_owner
    → All (IsCallersChange old) changes → IsSome (held old db) → bytes_under new db ≡ bytes
unfolding bytes_under
body_edited old new db bytes changes l own each there =
    ap bytes_of (header_held old new db bytes changes l own each)
    ∙ bytes_with bytes (held old db) there

pub locks_edited : (old new : List ℕ) (db : ℕ) (bytes : List ℕ) (changes : List Change)
    → Leaves old new (edited (held old) db bytes changes) → owner_under old db ≡ managers_owner
    → All (IsCallersChange old) changes → KeepsLocks old new
locks_edited old new db bytes changes l own each other before after was is =
    elim (cases_eq other db) [
      | inl e ↦ lock_with bytes (held old db) before after (ap (held old) (sym e) ∙ was)
          (sym (header_held old new db bytes changes l own each) ∙ ap (held new) (sym e) ∙ is)
      | inr away ↦ elim (changed_or_kept (IsCallersChange old) (rewritten (held old) db bytes)
          (held old) changes other each) [
            | inl c ↦ c.holds.locks before after (ap (held old) (sym c.is) ∙ was)
                (sym (l.map other ∙ c.now) ∙ is)
            | inr k ↦ lock_same (held old other) (held new other) before after
                (l.map other ∙ k.same_chunk ∙ rewritten_apart (held old) db bytes other away) was is
          ]
    ]

-- ---- the owners afterwards

-- the manager's chunks are those of the same names, and what was changed is none of them
pub owners_edited : (old new : List ℕ) (db : ℕ) (bytes : List ℕ) (changes : List Change)
    → Leaves old new (edited (held old) db bytes changes) → owner_under old db ≡ managers_owner
    → All (IsCallersChange old) changes → (other : ℕ)
    → ((owner_under new other ≡ managers_owner) ↔ (owner_under old other ≡ managers_owner))
unfolding owner_under
owners_edited old new db bytes changes l own each other = elim (cases_eq other db) [
  | inl e ↦
      let was : owner_of (held old other) ≡ 0 = ap (λ (n : ℕ). owner_of (held old n)) e ∙ own in
      let is = ap (λ n. owner_of (held new n)) e
      ∙ ap owner_of (header_held old new db bytes changes l own each)
      ∙ owner_with bytes (held old db) ∙ own in
      (λ z. was, λ z. is)
  | inr away ↦ elim (changed_or_kept (IsCallersChange old) _ (held old) changes other each) [
    | inl c ↦ (
      λ z. absurd (c.holds.callers_now (sym (ap owner_of (l.map other ∙ c.now)) ∙ z)),
      λ z. absurd (c.holds.callers (ap (λ (n : ℕ). owner_of (held old n)) (sym c.is) ∙ z)),
    )
    | inr k ↦
        let same_owner =
        ap owner_of (l.map other ∙ k.same_chunk ∙ rewritten_apart (held old) db bytes other away) in
        (λ z. sym same_owner ∙ z, λ z. same_owner ∙ z)
  ]
]

pub callers_edited : (old new : List ℕ) (db : ℕ) (bytes : List ℕ) (changes : List Change)
    → Leaves old new (edited (held old) db bytes changes) → owner_under old db ≡ managers_owner
    → All (IsCallersChange old) changes → (other : ℕ)
    → callers_map new other ≡ all_updated (callers_map old) changes other
unfolding owner_under
callers_edited old new db bytes changes l own each other = elim (cases_eq other db) [
  | inl e ↦
      let was : owner_of (held old db) ≡ 0 = own in
      let is = ap owner_of (header_held old new db bytes _ l own each) ∙ owner_with bytes _ ∙ own in
      ap (callers_map new) e
      ∙ hidden (held new db) is
      ∙ sym (hidden (held old db) was)
      ∙ sym (kept_header old (callers_map old) db changes own each)
      ∙ ap (all_updated (callers_map old) changes) (sym e)
  | inr away ↦ elim (changed_or_kept (IsCallersChange old) _ (callers_map old) changes other each) [
    | inl c ↦ ap (not_owned 0) (l.map other ∙ c.now) ∙ shown _ c.holds.callers_now ∙ sym c.other_now
    | inr k ↦ ap (not_owned 0) (l.map other ∙ k.same_chunk
        ∙ rewritten_apart (held old) db bytes other away) ∙ sym k.other_same
  ]
]

-- the owners, where the database alone was edited, or one chunk, or two
pub owner_rewritten : (map : ChunkMap) (db : ℕ) (bytes : List ℕ) (other : ℕ)
    → owner_of (rewritten map db bytes other) ≡ owner_of (map other)
unfolding with_bytes
owner_rewritten map db bytes other = elim (cases_eq other db) [
  | inl e ↦
      ap owner_of (here map db (changed (λ live. record live { bytes = bytes }) (map db)) other e)
      ∙ owner_with bytes (map db) ∙ ap (λ n. owner_of (map n)) (sym e)
  | inr away ↦ ap owner_of (rewritten_apart map db bytes other away)
]

pub owner_now : (old new : List ℕ) (db : ℕ) (bytes : List ℕ) (name : ℕ) (now : Option LiveChunk)
    (more : List Change)
    → Leaves old new (edited (held old) db bytes (record { name = name; now = now } ∷ more))
    → owner_under new name ≡ owner_of now
unfolding owner_under
owner_now old new db bytes name now more l =
    ap owner_of (l.map name ∙ here (edited (held old) db bytes more) name now name refl)

pub owner_left : (old new : List ℕ) (db : ℕ) (bytes : List ℕ) (name : ℕ) (now : Option LiveChunk)
    → Leaves old new (edited (held old) db bytes (one_change name now)) → (other : ℕ) → other ≢ name
    → owner_under new other ≡ owner_under old other
unfolding owner_under
owner_left old new db bytes name now l other ne =
    ap owner_of (l.map other ∙ apart (rewritten (held old) db bytes) name now other ne)
    ∙ owner_rewritten (held old) db bytes other

-- ---- how often names are those of chunks for data

balances : (old new : List ℕ) (db : ℕ) (bytes : List ℕ) (name : ℕ) (now : Option LiveChunk)
    → Leaves old new (edited (held old) db bytes (one_change name now))
    → (before after : Database ℕ)
    → (0 < name → times name (data_in after) + same (owner_under old name) data_owner
    ≡ times name (data_in before) + same (owner_of now) data_owner)
    → ((q : ℕ) → 0 < q → q ≢ name → times q (data_in after) ≡ times q (data_in before)) → (q : ℕ)
    → 0 < q → times q (data_in after) + same (owner_under old q) data_owner
    ≡ times q (data_in before) + same (owner_under new q) data_owner
balances old new db bytes name now l before after at others q some = elim (cases_eq q name) [
  | inl e ↦
      let one = at (subst (λ (n : ℕ). 0 < n) e some) in
      let was = ap (λ (n : ℕ). same (owner_under old n) data_owner) e in
      let is = ap (λ (n : ℕ). same (owner_under new n) data_owner) e in
      let own = ap (λ (o : ℕ). same o data_owner) (owner_now old new db bytes name now [] l) in
      let a = ap (λ (n : ℕ). times n (data_in after)) e in
      let b = ap (λ (n : ℕ). times n (data_in before)) e in
      omega arith
  | inr ne ↦
      let own = ap (λ (o : ℕ). same o data_owner) (owner_left old new db bytes name now l q ne) in
      let kept = others q some ne in
      omega arith
]

-- the database names a new chunk for data
pub made_balance : (old new : List ℕ) (db : ℕ) (bytes : List ℕ) (name : ℕ) (now : Option LiveChunk)
    → Leaves old new (edited (held old) db bytes (one_change name now))
    → (before after : Database ℕ) → owner_under old name ≢ data_owner → owner_of now ≡ data_owner
    → ((q : ℕ) → 0 < q → times q (data_in after) ≡ times q (data_in before) + same name q) → (q : ℕ)
    → 0 < q → times q (data_in after) + same (owner_under old q) data_owner
    ≡ times q (data_in before) + same (owner_under new q) data_owner
made_balance old new db bytes name now l before after was is names =
    balances old new db bytes name now l before after
    (λ some.
    let one = names name some in
    let yes = same-yes name name refl in
    let a = same-no (owner_under old name) data_owner was in
    let b = same-yes (owner_of now) data_owner is in
    omega arith)
    (λ q some ne. let one = names q some in let no = same-no name q (λ e. ne (sym e)) in
    omega arith)

-- the database named a chunk for data that is none now
pub gone_balance : (old new : List ℕ) (db : ℕ) (bytes : List ℕ) (name : ℕ) (now : Option LiveChunk)
    → Leaves old new (edited (held old) db bytes (one_change name now))
    → (before after : Database ℕ) → (0 < name → owner_under old name ≡ data_owner)
    → owner_of now ≢ data_owner
    → ((q : ℕ) → 0 < q → times q (data_in after) + same name q ≡ times q (data_in before)) → (q : ℕ)
    → 0 < q → times q (data_in after) + same (owner_under old q) data_owner
    ≡ times q (data_in before) + same (owner_under new q) data_owner
gone_balance old new db bytes name now l before after was is names =
    balances old new db bytes name now l before after
    (λ some.
    let one = names name some in
    let yes = same-yes name name refl in
    let a = same-yes (owner_under old name) data_owner (was some) in
    let b = same-no (owner_of now) data_owner is in
    omega arith)
    (λ q some ne. let one = names q some in let no = same-no name q (λ e. ne (sym e)) in
    omega arith)

-- A chunk for data went to a caller, and a caller's became one. The database names the one now, and
-- the other no more.
pub exchanged_balance : (old new : List ℕ) (db : ℕ) (bytes : List ℕ) (name : ℕ)
    (now : Option LiveChunk) (slot : ℕ) (handed : Option LiveChunk) → Leaves old new
    (edited (held old) db bytes (record { name = name; now = now } ∷ one_change slot handed))
    → (before after : Database ℕ) → owner_under old name ≢ data_owner → owner_of now ≡ data_owner
    → owner_under old slot ≡ data_owner → owner_of handed ≢ data_owner
    → ((q : ℕ) → times q (data_in after) + same slot q ≡ times q (data_in before) + same name q)
    → (q : ℕ) → 0 < q → times q (data_in after) + same (owner_under old q) data_owner
    ≡ times q (data_in before) + same (owner_under new q) data_owner
unfolding owner_under
exchanged_balance old new db bytes name now slot handed l before after was is slot_was slot_is names
    q some =
    let count = names q in
    elim (cases_eq q name) [
      | inl e ↦
          let own = ap (owner_under new) e
          ∙ owner_now old new db bytes name now (one_change slot handed) l ∙ is in
          let a =
          same-no (owner_under old q) data_owner (λ z. was (ap (owner_under old) (sym e) ∙ z)) in
          let b = same-yes (owner_under new q) data_owner own in
          let yes = same-yes name q (sym e) in
          let no = same-no slot q (λ z. was (ap (owner_under old) (sym e ∙ sym z) ∙ slot_was)) in
          omega arith
      | inr ne ↦
          let no = same-no name q (λ e. ne (sym e)) in
          let now_is = l.map q
          ∙ apart (edited (held old) db bytes (one_change slot handed)) name now q ne in
          elim (cases_eq q slot) [
            | inl e ↦
                let a =
                same-yes (owner_under old q) data_owner (ap (owner_under old) e ∙ slot_was) in
                let b = same-no (owner_under new q) data_owner (λ z. slot_is (sym (ap owner_of
                (now_is ∙ here (rewritten (held old) db bytes) slot handed q e)) ∙ z)) in
                let yes = same-yes slot q (sym e) in
                omega arith
            | inr far ↦
                let own =
                ap owner_of (now_is ∙ apart (rewritten (held old) db bytes) slot handed q far)
                ∙ owner_rewritten (held old) db bytes q in
                let kept = ap (λ (o : ℕ). same o data_owner) own in
                let none = same-no slot q (λ e. far (sym e)) in
                omega arith
          ]
    ]

-- the database alone was edited, and names what it named
pub kept_balance : (old new : List ℕ) (db : ℕ) (bytes : List ℕ)
    → Leaves old new (rewritten (held old) db bytes) → (before after : Database ℕ)
    → ((q : ℕ) → 0 < q → times q (data_in after) ≡ times q (data_in before)) → (q : ℕ) → 0 < q
    → times q (data_in after) + same (owner_under old q) data_owner
    ≡ times q (data_in before) + same (owner_under new q) data_owner
unfolding owner_under
kept_balance old new db bytes l before after names q some =
    let own = ap owner_of (l.map q) ∙ owner_rewritten (held old) db bytes q in
    let kept = ap (λ (o : ℕ). same o data_owner) own in
    let names_same = names q some in
    omega arith

-- ---- bytes written over those of a database

put_is : (bytes after : List ℕ) (o : Option LiveChunk) → overwritten (bytes_of o) 0 bytes ≡ after
    → changed (λ live. record live { bytes = overwritten live.bytes 0 bytes }) o
    ≡ changed (with_bytes after) o
unfolding with_bytes
put_is bytes after None e = refl
put_is bytes after (Some live) e = ap (λ (b : List ℕ). Some (with_bytes b live)) e

-- bytes that are written over those of a database spell another
pub put_respells : (old new : List ℕ) (db : ℕ) (bytes : List ℕ) (d : Database ℕ)
    → Leaves old new (put (held old) db 0 bytes)
    → overwritten (bytes_under old db) 0 bytes ≡ spelled d → Respells old new db d
unfolding bytes_under with_bytes
put_respells old new db bytes d l e = record {
  map = λ other. l.map other ∙ ap (λ o. updated (held old) db o other) (put_is bytes _ _ e);
  frame = l.frame;
  still = l.still;
}
