-- Chunks of zeros are filled one after the other, and nothing else changes.
use Rattle.pdb_files.proofs.Words.{◌≡◌, ◌≢◌, ℕ, zero, suc, ◌+◌, ◌<◌, ◌≤◌, Option, Some, None, List, [], ◌∷◌, length, get_or, map, refl, sym, ap, subst, ◌∙◌, arith, inl, inr, IsSome, is_some, cases_eq, cases_lt, length-replicate, data_owner, Memory, times, LiveChunk, ChunkMap, MovesNothing, Of, owner_under, listed, databases, numbers_of, Accepted, store_of, rewritten, MakesNone, LeavesStore, same-yes, times-cons, times-some, times-contained, listed_number, number_held, owned_there, OnlyWrites, HasDataOf, data_filled, writes_then, HasBlock, zeros_for, AreFilled, AreOnce, Refills}
use Rattle.heap_model.specs.Heap.{HeapAccepted, directory_of}
use Rattle.heap_model.specs.Reading.{held}
use Rattle.heap_model.specs.Maps.{changed, not_owned, callers_map}
use Rattle.laws_heap.proofs.KeptLoans.{keeps_itself}
use Rattle.laws_heap.proofs.Meanings.{held-zero}
use Rattle.laws_store.proofs.Owners.{directory_owner}
use Rattle.laws_store.proofs.Counts.{listed_numbers}
use Rattle.laws_store.proofs.Edited.{shown}
use Rattle.palm_store.proofs.TwoSteps.{with_bytes, rewritten_here, rewritten_apart}

-- ---- names that are in the list once

-- a number at two indexes is in the list twice
twice : (xs : List ℕ) (i j : ℕ) → i < j → j < length xs → get_or xs i 0 ≡ get_or xs j 0
    → 2 ≤ times (get_or xs j 0) xs
twice [] i j less inside e = absurd (omega arith)
twice (x ∷ xs) i zero less inside e = absurd (omega arith)
twice (x ∷ xs) zero (suc j) less inside e =
    let cons = times-cons (get_or xs j 0) x xs in
    let one = same-yes x (get_or xs j 0) e in
    let other = times-some (get_or xs j 0) xs j 0 (omega arith) refl in
    omega arith
twice (x ∷ xs) (suc i) (suc j) less inside e =
    let cons = times-cons (get_or xs j 0) x xs in
    let more = twice xs i j (omega arith) (omega arith) e in
    omega arith

-- the names at two indexes are different, if one isn't 0
pub names_apart : (names : List ℕ) (i j : ℕ) → AreOnce names → i < length names → j < length names
    → i ≢ j → 0 < get_or names i 0 → get_or names j 0 ≢ get_or names i 0
names_apart names i j once inside other ne some e = elim (cases_lt i j) [
  | inl less ↦
      let two = twice names i j less other (sym e) in
      let one = once (get_or names j 0) (omega arith) in
      omega arith
  | inr more ↦
      let two = twice names j i (omega arith) inside e in
      let one = once (get_or names i 0) some in
      omega arith
]

-- ---- one more is filled

abbrev named_at : List ℕ → ℕ → ℕ
named_at names index = get_or names index 0

block_kept : (map new : ChunkMap) (name : ℕ) (bytes : List ℕ) (block : Option (List ℕ)) (other : ℕ)
    → ((one : ℕ) → new one ≡ rewritten map name bytes one) → (0 < other → other ≢ name)
    → HasBlock map block other → HasBlock new block other
block_kept map new name bytes None other now apart has = has
block_kept map new name bytes (Some block) other now apart has =
    (has.0, now other ∙ rewritten_apart map name other bytes (apart has.0) ∙ has.1)

pub one_filled : (map new : ChunkMap) (blocks : List (Option (List ℕ))) (names : List ℕ) (index : ℕ)
    (bytes : List ℕ) → AreOnce names → index < length names → get_or blocks index None ≡ Some bytes
    → ((name : ℕ) → new name ≡ rewritten map (get_or names index 0) bytes name)
    → AreFilled map blocks names index → AreFilled new blocks names (index + 1)
one_filled map new blocks names index bytes once inside is now are =
    let name : ℕ = named_at names index in
    let here : HasBlock map (zeros_for (Some bytes)) name =
    subst (λ (block : Option (List ℕ)). HasBlock map (zeros_for block) name) is
    (are.zeros index (omega arith) inside) in
    let filled : HasBlock new (Some bytes) name =
    (here.0, now name ∙ rewritten_here map name bytes ∙ ap (changed (with_bytes bytes)) here.1) in
    record {
      filled = λ other below. elim (cases_lt other index) [
        | inl before ↦ block_kept map new name bytes (get_or blocks other None)
            (named_at names other) now (λ some e. names_apart names other index once
            (omega arith) inside (λ same. omega arith) some (sym e)) (are.filled other before)
        | inr last ↦
            let same : index ≡ other = omega arith in
            subst (λ (k : ℕ). HasBlock new (get_or blocks k None) (named_at names k)) same
            (subst (λ (block : Option (List ℕ)). HasBlock new block name) (sym is) filled)
      ];
      zeros =
          λ other behind below. block_kept map new name bytes (zeros_for (get_or blocks other None))
          (named_at names other) now (λ some e. names_apart names other index once below inside
          (λ same. omega arith) some (sym e)) (are.zeros other (omega arith) below);
    }

pub none_filled : (map : ChunkMap) (blocks : List (Option (List ℕ))) (names : List ℕ) (index : ℕ)
    → index < length names → get_or blocks index None ≡ None → AreFilled map blocks names index
    → AreFilled map blocks names (index + 1)
none_filled map blocks names index inside is are = record {
  filled = λ other below. elim (cases_lt other index) [
    | inl before ↦ are.filled other before
    | inr last ↦
        let same : index ≡ other = omega arith in
        let here : HasBlock map None (named_at names index) =
        subst (λ (block : Option (List ℕ)). HasBlock map (zeros_for block) (named_at names index))
        is (are.zeros index (omega arith) inside) in
        subst (λ (k : ℕ). HasBlock map (get_or blocks k None) (named_at names k)) same
        (subst (λ (block : Option (List ℕ)). HasBlock map block (named_at names index))
        (sym is) here)
  ];
  zeros = λ other behind below. are.zeros other (omega arith) below;
}

-- the chunk of the next block is one for as much data
pub next_data : (image : List ℕ) (blocks : List (Option (List ℕ))) (names : List ℕ) (index : ℕ)
    (bytes : List ℕ) → index < length names → get_or blocks index None ≡ Some bytes
    → AreFilled (store_of image).map blocks names index
    → HasDataOf image (get_or names index 0) (length bytes)
next_data image blocks names index bytes inside is are =
    let here : HasBlock (store_of image).map (zeros_for (Some bytes)) (named_at names index) =
    subst (λ (block : Option (List ℕ)). HasBlock (store_of image).map (zeros_for block)
    (named_at names index)) is (are.zeros index (omega arith) inside) in
    let P : Option LiveChunk → Type 0 = λ o. Of o
    (λ live. (live.owner ≡ data_owner) × (live.lock ≡ 0) × (length live.bytes ≡ length bytes)) in
    subst P (sym here.1) (refl, refl, length-replicate {A = ℕ} (length bytes) 0)

-- ---- nothing else changes

pub itself : (image names : List ℕ) → Accepted image → Refills image image names
itself image names a = record {
  accepted = a;
  databases = refl;
  others = λ name none. refl;
  len = refl;
  tables = refl;
  directory = refl;
  unmoved = λ name before after. refl;
  none_made = λ name there. there;
}

some_changed : (change : LiveChunk → LiveChunk) (o : Option LiveChunk)
    → is_some (changed change o) ≡ is_some o
some_changed change None = refl
some_changed change (Some live) = refl

some_rewritten : (map : ChunkMap) (name : ℕ) (bytes : List ℕ) (other : ℕ)
    → is_some (rewritten map name bytes other) ≡ is_some (map other)
some_rewritten map name bytes other = elim (cases_eq other name) [
  | inl is ↦ ap (λ (n : ℕ). is_some (rewritten map name bytes n)) is
      ∙ ap is_some (rewritten_here map name bytes) ∙ some_changed (with_bytes bytes) (map name)
      ∙ ap (λ (n : ℕ). is_some (map n)) (sym is)
  | inr ne ↦ ap is_some (rewritten_apart map name other bytes ne)
]

some_shown : (o : Option LiveChunk) → IsSome (not_owned 0 o) → IsSome o
some_shown None some = some
some_shown (Some live) some = refl

-- if callers have no new name and the databases are the same, no name is new
none_new : (old new : List ℕ) → Accepted old → Accepted new → directory_of new ≡ directory_of old
    → databases new ≡ databases old
    → ((name : ℕ) → IsSome (callers_map new name) → IsSome (callers_map old name))
    → MakesNone old new
unfolding owner_under
none_new old new before after directory same callers name there =
    elim (cases_eq (owner_under new name) 0) [
      | inl own ↦ elim (after.all_listed name own) [
        | inl is ↦
            let some : 0 < name = held_some new name after.heap there in
            let at : name ≡ directory_of old = is ∙ directory in
            owned_there old name
            (ap (owner_under old) at ∙ directory_owner old before.heap (omega arith))
        | inr contained ↦
            let slots : listed new ≡ listed old =
            listed_numbers new ∙ ap numbers_of same ∙ sym (listed_numbers old) in
            let more = times-contained name (listed new) contained in
            number_held old name before
            (listed_number old name (subst (λ (xs : List ℕ). 0 < times name xs) slots more))
      ]
      | inr other ↦ some_shown (held old name)
          (callers name (ap is_some (shown (held new name) other) ∙ there))
    ] where
      held_some : (image : List ℕ) (name : ℕ) → HeapAccepted image → IsSome (held image name)
          → 0 < name
      held_some image name h there = elim (cases_eq name 0) [
        | inl none ↦ let gone = ap (λ (n : ℕ). is_some (held image n)) (sym none) ∙ there in
            let no = ap is_some (held-zero image h) in absurd cc
        | inr some ↦ omega arith
      ]

pub one_refilled : (old mid new : List ℕ) (names : List ℕ) (index : ℕ) (bytes : List ℕ)
    → index < length names → 0 < get_or names index 0 → Refills old mid names
    → LeavesStore mid new (data_filled (store_of mid) (get_or names index 0) bytes)
    → MovesNothing mid new → Refills old new names
unfolding store_of
one_refilled old mid new names index bytes inside some before leaves unmoved =
    let name : ℕ = named_at names index in
    let none : MakesNone mid new = none_new mid new before.accepted leaves.accepted leaves.directory
    leaves.same.databases (λ other there. sym (some_rewritten (callers_map mid) name bytes other)
    ∙ sym (ap is_some (leaves.same.map other)) ∙ there) in
    record {
      accepted = leaves.accepted;
      databases = leaves.same.databases ∙ before.databases;
      others = λ other gone.
          let apart : other ≢ name = λ e. (let at = times-some other names index 0 inside (sym e) in
          let zero_times = gone (omega arith) in omega arith) in
          leaves.same.map other ∙ rewritten_apart (callers_map mid) name other bytes apart
          ∙ before.others other gone;
      len = leaves.len ∙ before.len;
      tables = leaves.tables ∙ before.tables;
      directory = leaves.directory ∙ before.directory;
      unmoved = λ other first last. unmoved other (none other last) last
          ∙ before.unmoved other first (none other last);
      none_made = λ other there. before.none_made other (none other there);
    }

-- ---- what the loop keeps

-- from a region on, in which the chunks were zeros, the first blocks are filled
pub record IsFilling (start store : Memory) (blocks : List (Option (List ℕ))) (names : List ℕ)
    (index : ℕ) : Type 0 where
  pub filled : AreFilled (store_of store.bytes).map blocks names index
  pub refills : Refills start.bytes store.bytes names
  pub kept : OnlyWrites start store

pub none_yet : (start : Memory) (blocks : List (Option (List ℕ))) (names : List ℕ)
    → Accepted start.bytes → AreFilled (store_of start.bytes).map blocks names 0
    → IsFilling start start blocks names 0
none_yet start blocks names a zeros = record {
  filled = zeros;
  refills = itself start.bytes names a;
  kept = record { loan = keeps_itself start; rest = refl };
}

pub one_more : (start old new : Memory) (blocks : List (Option (List ℕ))) (names : List ℕ)
    (index : ℕ) (bytes : List ℕ) → AreOnce names → index < length names
    → get_or blocks index None ≡ Some bytes
    → LeavesStore old.bytes new.bytes (data_filled (store_of old.bytes)
    (get_or names index 0) bytes) → MovesNothing old.bytes new.bytes → OnlyWrites old new
    → IsFilling start old blocks names index → IsFilling start new blocks names (index + 1)
one_more start old new blocks names index bytes once inside is leaves unmoved kept before =
    let here : HasBlock (store_of old.bytes).map (zeros_for (Some bytes)) (named_at names index) =
    subst (λ (block : Option (List ℕ)). HasBlock (store_of old.bytes).map (zeros_for block)
    (named_at names index)) is (before.filled.zeros index (omega arith) inside) in
    record {
      filled = one_filled (store_of old.bytes).map (store_of new.bytes).map blocks names index bytes
          once inside is leaves.same.map before.filled;
      refills = one_refilled start.bytes old.bytes new.bytes names index bytes inside here.0
          before.refills leaves unmoved;
      kept = writes_then start old new before.kept kept;
    }

pub none_more : (start store : Memory) (blocks : List (Option (List ℕ))) (names : List ℕ)
    (index : ℕ) → index < length names → get_or blocks index None ≡ None
    → IsFilling start store blocks names index → IsFilling start store blocks names (index + 1)
none_more start store blocks names index inside is before = record {
  filled = none_filled (store_of store.bytes).map blocks names index inside is before.filled;
  refills = before.refills;
  kept = before.kept;
}
