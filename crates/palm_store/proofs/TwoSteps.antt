-- What calls leave in turn: one writes a database anew, others change what one name stands for.
use Rattle.palm_store.proofs.Words.{◌≡◌, ◌≢◌, ℕ, Bool, true, false, List, [], Option, Some, None, refl, sym, ap, ◌∙◌, arith, inl, inr, cases_eq, All-nil, All-cons, IsSome, All, is_some, ◌==◌, if◌then◌else◌, HeapAccepted, LiveChunk, ChunkMap, held, Still, updated, changed, changed_at, gone, Database, spelled, database_in, Leaves, Respells, rewritten, database_here, MakesNone, none_some, same_frame, frame_then, held-zero, bytes_like, Change, one_change, edited, changed_or_kept}
use Rattle.laws_store.proofs.Edited.{here as updated_here, apart as updated_apart}
use Rattle.palm_store.proofs.Maps.{name_now, others_now}

-- what names stand for
abbrev pub with_bytes : List ℕ → LiveChunk → LiveChunk
with_bytes bytes live = record live { bytes = bytes }

pub rewritten_here : (map : ChunkMap) (db : ℕ) (bytes : List ℕ) → rewritten map db bytes db ≡ changed (with_bytes bytes) (map db)
rewritten_here map db bytes = updated_here map db (changed (with_bytes bytes) (map db)) db refl

pub rewritten_apart : (map : ChunkMap) (db other : ℕ) (bytes : List ℕ) → other ≢ db → rewritten map db bytes other ≡ map other
rewritten_apart map db other bytes ne = updated_apart map db (changed (with_bytes bytes) (map db)) other ne

-- what stays
pub no_chunk : (o : Option LiveChunk) → o ≡ None → IsSome o → ⊥
no_chunk o none some = let no : IsSome {T = LiveChunk} None = rw none at some in absurd cc

-- each chunk is there afterwards, with as many locks
abbrev pub KeepsChunks : List ℕ → List ℕ → Type 0
KeepsChunks old new = (name : ℕ) (live : LiveChunk) → held old name ≡ Some live → (after : LiveChunk) × (held new name ≡ Some after) × (after.lock ≡ live.lock)

-- a chunk was changed, but for its locks
pub changed_keeps : (old new : List ℕ) (name : ℕ) (change : LiveChunk → LiveChunk) → ((live : LiveChunk) → (change live).lock ≡ live.lock) → Leaves old new (changed_at (held old) name change) → KeepsChunks old new
changed_keeps old new name change loose l other live e = elim (cases_eq other name) [
  | inl is ↦ (change live, ap (held new) is ∙ name_now _ _ l ∙ ap (changed change) (ap (held old) (sym is) ∙ e), loose live)
  | inr ne ↦ (live, others_now _ _ l other ne ∙ e, refl)
]

pub respelled_keeps : (old new : List ℕ) (db : ℕ) (d : Database ℕ) → Respells old new db d → KeepsChunks old new
respelled_keeps old new db d l = changed_keeps old new db (with_bytes (spelled d)) (λ live. refl) l

-- a name that stood for nothing got a chunk
pub made_keeps : {old new : List ℕ} (name : ℕ) (now : Option LiveChunk) → held old name ≡ None → Leaves old new (updated (held old) name now) → KeepsChunks old new
made_keeps {old} name now fresh l other live e = elim (cases_eq other name) [
  | inl is ↦ absurd (none_some (held old name) live fresh (ap (held old) (sym is) ∙ e))
  | inr ne ↦ (live, others_now _ _ l other ne ∙ e, refl)
]

pub keeps_then : (old mid new : List ℕ) → KeepsChunks old mid → KeepsChunks mid new → KeepsChunks old new
keeps_then old mid new first second name live e =
    let one = first name live e in
    let other = second name one.0 one.1 in
    (other.0, other.1, other.2 ∙ one.2)

pub still_after : (old mid new : List ℕ) → KeepsChunks old mid → Still old mid → Still mid new → Still old new
still_after old mid new keeps first second name live e locked there =
    let kept = keeps name live e in
    let same = kept.2 in
    second name kept.0 kept.1 (omega arith) there ∙ first name live e locked (ap is_some kept.1)

-- and then a chunk
pub then_changed : (old mid new : List ℕ) (map : ChunkMap) (name : ℕ) (now : Option LiveChunk) → KeepsChunks old mid → Leaves old mid map → Leaves mid new (updated (held mid) name now) → Leaves old new (updated map name now)
then_changed old mid new map name now keeps first second = record {
  map = λ other. second.map other ∙ ap (λ (o : Option LiveChunk). if other == name then now else o) (first.map other);
  frame = frame_then old mid new first.frame second.frame;
  still = still_after old mid new keeps first.still second.still;
}

-- the same chunk again
pub then_again : {old mid new : List ℕ} (name : ℕ) (one two : Option LiveChunk) → KeepsChunks old mid → Leaves old mid (updated (held old) name one) → Leaves mid new (updated (held mid) name two) → Leaves old new (updated (held old) name two)
then_again {old} {mid} {new} name one two keeps first second =
    let both = then_changed old mid new (updated (held old) name one) name two keeps first second in
    record { map = λ other. both.map other ∙ last (other == name) (held old other); frame = both.frame; still = both.still } where
      last : (b : Bool) (was : Option LiveChunk) → (if b then two else if b then one else was) ≡ (if b then two else was)
      last true was = refl
      last false was = refl

pub respelled_then : (old mid new : List ℕ) (db name : ℕ) (d : Database ℕ) (now : Option LiveChunk) → Respells old mid db d → Leaves mid new (updated (held mid) name now) → Leaves old new (edited (held old) db (spelled d) (one_change name now))
respelled_then old mid new db name d now first second = then_changed old mid new (rewritten (held old) db (spelled d)) name now (respelled_keeps old mid db d first) first second

-- a chunk made, and then a database written anew: two names that changed
swapped : (map : ChunkMap) (a b : ℕ) (x y : Option LiveChunk) → a ≢ b → (name : ℕ) → updated (updated map a x) b y name ≡ updated (updated map b y) a x name
swapped map a b x y ne name = elim (cases_eq name a) [
  | inl e ↦ updated_apart (updated map a x) b y name (λ f. ne (sym e ∙ f)) ∙ updated_here map a x name e ∙ sym (updated_here (updated map b y) a x name e)
  | inr apart ↦ ap (λ (o : Option LiveChunk). if name == b then y else o) (updated_apart map a x name apart) ∙ sym (updated_apart (updated map b y) a x name apart)
]

pub then_respelled : (old mid new : List ℕ) (db name : ℕ) (d : Database ℕ) (now : Option LiveChunk) → name ≢ db → held old name ≡ None → Leaves old mid (updated (held old) name now) → Respells mid new db d → Leaves old new (edited (held old) db (spelled d) (one_change name now))
then_respelled old mid new db name d now ne fresh first second =
    let same : held mid db ≡ held old db = others_now _ _ first db (λ is. ne (sym is)) in
    let both = then_changed old mid new (updated (held old) name now) db (changed (with_bytes (spelled d)) (held mid db)) (made_keeps _ _ fresh first) first second in
    record {
      map = λ other. both.map other ∙ swapped (held old) name db now (changed (with_bytes (spelled d)) (held mid db)) ne other
          ∙ ap (λ (o : Option LiveChunk). updated (updated (held old) db (changed (with_bytes (spelled d)) o)) name now other) same;
      frame = both.frame;
      still = both.still;
    }

-- no name is new
pub none_made : (old new : List ℕ) (db : ℕ) (bytes : List ℕ) (changes : List Change) → Leaves old new (edited (held old) db bytes changes) → IsSome (held old db) → All (λ one. IsSome one.now → IsSome (held old one.name)) changes → MakesNone old new
none_made old new db bytes changes l there each other some = elim (changed_or_kept (λ one. IsSome one.now → IsSome (held old one.name)) (rewritten (held old) db bytes) (held old) changes other each) [
  | inl c ↦ rw c.is (c.holds (rw (l.map other ∙ c.now) at some))
  | inr k ↦ elim (cases_eq other db) [
    | inl e ↦ rw e there
    | inr away ↦ rw (l.map other ∙ k.same_chunk ∙ rewritten_apart (held old) db other bytes away) at some
  ]
]

-- where one chunk was changed
pub none_made_by : (old new : List ℕ) (db name : ℕ) (bytes : List ℕ) (now : Option LiveChunk) → Leaves old new (edited (held old) db bytes (one_change name now)) → IsSome (held old db) → (IsSome now → IsSome (held old name)) → MakesNone old new
none_made_by old new db name bytes now l there was =
    none_made old new db bytes (one_change name now) l there (All-cons (λ (one : Change). IsSome one.now → IsSome (held old one.name)) (record { name = name; now = now }) [] was (All-nil (λ (one : Change). IsSome one.now → IsSome (held old one.name))))

pub database_kept : (old new : List ℕ) (db : ℕ) → held new db ≡ held old db → database_here new db ≡ database_here old db
database_kept old new db e = ap database_in (bytes_like old new db e)

-- nothing is freed under the name 0
pub none_freed : (image : List ℕ) (name : ℕ) → HeapAccepted image → name ≡ 0 → Leaves image image (gone (held image) name)
none_freed image name h zero_is = record {
  map = λ other. elim (cases_eq other name) [
    | inl e ↦ ap (held image) (e ∙ zero_is) ∙ held-zero image h ∙ sym (updated_here (held image) name None other e)
    | inr ne ↦ sym (updated_apart (held image) name None other ne)
  ];
  frame = same_frame image h;
  still = λ other live e locked there. refl;
}
