-- Chunks in the middle of an accepted heap are replaced by others of the same size.
use Rattle.laws_heap.proofs.Words.{◌≡◌, ◌≢◌, ℕ, ◌+◌, ◌<◌, ◌≤◌, Bool, List, [], ◌∷◌, ◌++◌, length, sym, ap, subst, ◌∙◌, arith, inl, inr, ◌⊎◌, ◌↔◌, ◌==◌, u32_at, Chunk, free, movable, fixed, total, SpelledAll, Table, Tables, IsSlot, is_chained, slot_count, slots_of, table_end, head_end, area_start, first_next, further_tables, tables_of, IsHead, TableHere, IsChain, Tiles, BodyHere, IsBody, IsCallersIfFixed, IsKnownIfFixed, ManagersHere, directory_of, IsHeap, EveryPlaced, AnyPlaced}
use Rattle.laws_heap.proofs.Frames.{SameBetween, u16_at-same, u32_at-same}
use Rattle.laws_heap.proofs.Slots.{same_slots, slot_alike, start_listed, ends_listed, HoldNoSlots, no_table_here}
use Rattle.laws_heap.proofs.Tables.{behind_case, chained_behind, SameChain, spelled_table, chain_stays, next_same}
use Rattle.laws_heap.proofs.Chunks.{SpelledAll-append, SpelledAll-split, SpelledAll-end, SpellsAgain}
use Rattle.laws_heap.proofs.Placed.{EveryPlaced-append, EveryPlaced-split, AnyPlaced-left, AnyPlaced-right, AnyPlaced-split}

-- ---- the head

-- two images have the same words before their chunks, slots aside, and the same further tables
pub record SameHead (old new : List ℕ) : Type 0 where
  pub len : length new ≡ length old
  pub words : SameBetween 0 16 old new
  pub padding : SameBetween (table_end old) (area_start old) old new
  pub further : further_tables new ≡ further_tables old

pub same_magic : (old new : List ℕ) → SameBetween 0 16 old new → u32_at new 0 ≡ u32_at old 0
same_magic old new words = sym (u32_at-same 0 old new 0 16 words (omega arith) (omega arith))

pub same_count : (old new : List ℕ) → SameBetween 0 16 old new → slot_count new ≡ slot_count old
same_count old new words = sym (u16_at-same 8 old new 0 16 words (omega arith) (omega arith))

abbrev tables_with : Bool → ℕ → List Table → Tables
tables_with chained count further = record { chained = chained; count = count; further = further }

one_tables : (c d : Bool) (m n : ℕ) (ts us : List Table) → c ≡ d → m ≡ n → ts ≡ us
    → tables_with c m ts ≡ tables_with d n us
one_tables c d m n ts us e f g =
    ap (λ b. tables_with b m ts) e ∙ ap (λ k. tables_with d k ts) f ∙ ap (tables_with d n) g

-- where the magic and the count are the same, and the further tables
pub tables_alike : (old new : List ℕ) → u32_at new 0 ≡ u32_at old 0
    → slot_count new ≡ slot_count old → further_tables new ≡ further_tables old
    → tables_of new ≡ tables_of old
tables_alike old new magic count further =
    one_tables (is_chained new) (is_chained old) (slot_count new) (slot_count old)
    (further_tables new) (further_tables old) (ap (λ m. m == 0x50484932) magic) count further

pub head_tables : (old new : List ℕ) → SameHead old new → tables_of new ≡ tables_of old
head_tables old new same = tables_alike old new (same_magic old new same.words)
    (same_count old new same.words) same.further

pub head_slots : (old new : List ℕ) → SameHead old new → slots_of new ≡ slots_of old
head_slots old new same = same_slots old new (head_tables old new same)

pub same_start : (old new : List ℕ) → SameHead old new → area_start new ≡ area_start old
same_start old new same = start_listed old new (head_tables old new same)

pub same_directory : (old new : List ℕ) → SameHead old new → directory_of new ≡ directory_of old
same_directory old new same =
    sym (u32_at-same 12 old new 0 16 same.words (omega arith) (omega arith))

pub slot_there : (old new : List ℕ) (slot : ℕ) → SameHead old new → IsSlot old slot
    → IsSlot new slot
slot_there old new slot same s = slot_alike old new slot (head_slots old new same) s

pub slot_back : (old new : List ℕ) (slot : ℕ) → SameHead old new → IsSlot new slot → IsSlot old slot
slot_back old new slot same s = slot_alike new old slot (sym (head_slots old new same)) s

-- where there is padding, it is a word at least
pub padded : (image : List ℕ) → head_end image ≢ area_start image
    → head_end image + 4 ≤ area_start image
padded image ne = elim (behind_case image) [ inl none ↦ omega arith | inr four ↦ omega arith ]

pub head_same : (old new : List ℕ) → SameHead old new → IsHead old → IsHead new
head_same old new same h =
    let len = same.len in
    let count = same_count old new same.words in
    let start = same_start old new same in
    let magic = same_magic old new same.words in
    let some = h.some_slot in
    let fits = h.a_chunk_fits in
    let ends : head_end new ≡ head_end old = ends_listed old new (head_tables old new same) in
    record {
      magic_is =
          elim h.magic_is [ inl one ↦ inl (magic ∙ one) | inr chained ↦ inr (magic ∙ chained) ];
      size_is = sym (u32_at-same 4 old new 0 16 same.words (omega arith) (omega arith)) ∙ h.size_is
          ∙ sym len;
      least = rw len h.least;
      most = rw len h.most;
      whole = rw len h.whole;
      some_slot = omega (arith, count, some);
      a_chunk_fits = omega (arith, start, len, fits);
      reserved =
          sym (u16_at-same 10 old new 0 16 same.words (omega arith) (omega arith)) ∙ h.reserved;
      padding = λ ne.
          let there : head_end old ≢ area_start old = λ e. ne (ends ∙ e ∙ sym start) in
          ap (u32_at new) ends ∙ sym (u32_at-same (head_end old) old new (table_end old)
          (area_start old) same.padding (omega arith) (padded old there)) ∙ h.padding there;
    }

-- the first word `next` too
pub head_next : (old new : List ℕ) → SameBetween 0 16 old new
    → SameBetween (table_end old) (area_start old) old new → first_next new ≡ first_next old
head_next old new words padding =
    next_same old new (same_magic old new words) (same_count old new words)
    (λ is. let four = chained_behind old is in sym (u32_at-same (table_end old) old new
    (table_end old) (area_start old) padding (omega arith) (omega (arith, four))))

-- ---- what holds of some chunk, where the middle ones are replaced

pub any_replaced : (P : ℕ → Chunk → Type 0) (start : ℕ) (before mid others after : List Chunk)
    → total others ≡ total mid
    → (AnyPlaced P (start + total before) mid → AnyPlaced P (start + total before) others)
    → AnyPlaced P start (before ++ (mid ++ after)) → AnyPlaced P start (before ++ (others ++ after))
any_replaced P start before mid others after sizes same h = elim (AnyPlaced-split P start _ _ h) [
  | inl front ↦ AnyPlaced-left P start before (others ++ after) front
  | inr rest ↦ AnyPlaced-right P start before _ (elim (AnyPlaced-split P _ mid after rest) [
    | inl here ↦ AnyPlaced-left P (start + total before) others after (same here)
    | inr back ↦ AnyPlaced-right P (start + total before) others after (rw (← sizes) at back)
  ])
]

-- ---- the chunks

-- What is the same, and what is spelled in the place of the middle chunks, which begin at an offset
-- and are no tables. The chunks before and after are spelled where they were.
pub record Replaces (old new : List ℕ) (before mid others after : List Chunk) (at : ℕ) : Type 0 where
  pub there : at ≡ area_start old + total before
  pub head : SameHead old new
  pub front : SpellsAgain old new (area_start old) before
  pub back : SpellsAgain old new (at + total mid) after
  pub none : HoldNoSlots mid
  pub spelled : SpelledAll new at others (at + total mid)

pub replaced_total : (old new : List ℕ) (before mid others after : List Chunk) (at : ℕ)
    → Replaces old new before mid others after at → total others ≡ total mid
replaced_total old new before mid others after at r =
    let e = SpelledAll-end new at others (at + total mid) r.spelled in
    omega arith

replaced_area : (old new : List ℕ) (before mid others after : List Chunk) (at : ℕ)
    → Replaces old new before mid others after at
    → SpelledAll old (area_start old) (before ++ (mid ++ after)) (length old)
    → SpelledAll new (area_start old) (before ++ (others ++ after)) (length new)
replaced_area old new before mid others after at r s =
    let start : ℕ = area_start old in
    let len = r.head.len in
    let first = SpelledAll-split old start before (mid ++ after) (length old) s in
    let second = SpelledAll-split old (start + total before) mid after (length old) first.1 in
    let there : start + total before ≡ at = sym r.there in
    let end = SpelledAll-end old (start + total before + total mid) after (length old) second.1 in
    let ends : at + total mid + total after ≡ length old = omega arith in
    subst (λ (n : ℕ). SpelledAll new start (before ++ (others ++ after)) n) (sym len)
    (SpelledAll-append new start before _ at (length old) (rw there at r.front.spelled)
    (SpelledAll-append new at others after _ (length old) r.spelled (rw ends at r.back.spelled)))

-- a table of the old image is as it was
pub beside_chain : (old new : List ℕ) (before mid after : List Chunk) (at : ℕ)
    → at ≡ area_start old + total before
    → SpelledAll old (area_start old) (before ++ (mid ++ after)) (length old) → HoldNoSlots mid
    → SpellsAgain old new (area_start old) before → SpellsAgain old new (at + total mid) after
    → SameChain old new (before ++ (mid ++ after))
beside_chain old new before mid after at there s none front back table t =
    let start : ℕ = area_start old in
    let first = SpelledAll-split old start before (mid ++ after) (length old) s in
    let second = SpelledAll-split old (start + total before) mid after (length old) first.1 in
    elim (AnyPlaced-split (TableHere table) start before (mid ++ after) t) [
      | inl in_front ↦ spelled_table old new table start before _ _ in_front first.0 front.spelled
      | inr rest ↦ elim (AnyPlaced-split (TableHere table) (start + total before) mid after rest) [
        | inl here ↦ absurd (no_table_here table (start + total before) mid none here)
        | inr behind ↦ spelled_table old new table (start + total before + total mid) after
            (length old) (at + total mid + total after) behind second.1 (subst (λ n. SpelledAll new
            (n + total mid) after (at + total mid + total after)) there back.spelled)
      ]
    ]

-- and stands among the new chunks
beside_stands : (old new : List ℕ) (before mid others after : List Chunk) (at : ℕ)
    → Replaces old new before mid others after at → (table : Table)
    → AnyPlaced (TableHere table) (area_start old) (before ++ (mid ++ after))
    → AnyPlaced (TableHere table) (area_start new) (before ++ (others ++ after))
beside_stands old new before mid others after at r table t = subst (λ n. AnyPlaced
    (TableHere table) n (before ++ (others ++ after))) (sym (same_start old new r.head))
    (any_replaced (TableHere table) (area_start old) before mid others after
    (replaced_total old new before mid others after at r)
    (λ m. absurd (no_table_here table (area_start old + total before) mid r.none m)) t)

replaced_chain : (old new : List ℕ) (before mid others after : List Chunk) (at : ℕ)
    → Tiles old (before ++ (mid ++ after)) → Replaces old new before mid others after at
    → IsChain new (before ++ (others ++ after)) (first_next new) (further_tables new)
replaced_chain old new before mid others after at t r =
    let cs : List Chunk = before ++ (mid ++ after) in
    let ds : List Chunk = before ++ (others ++ after) in
    let same = beside_chain old new before mid after at r.there t.area r.none r.front r.back in
    subst (λ n. IsChain new ds n (further_tables new))
    (sym (head_next old new r.head.words r.head.padding))
    (subst (λ (ts : List Table). IsChain new ds (first_next old) ts) (sym r.head.further)
    (chain_stays old new cs ds (first_next old) (further_tables old) same
    (beside_stands old new before mid others after at r) t.chain))

pub replaced_tiles : (old new : List ℕ) (before mid others after : List Chunk) (at : ℕ)
    → Tiles old (before ++ (mid ++ after)) → Replaces old new before mid others after at
    → Tiles new (before ++ (others ++ after))
replaced_tiles old new before mid others after at t r = record {
  head = head_same old new r.head t.head;
  area = rw (← (same_start old new r.head)) at (replaced_area old new _ mid _ after at r t.area);
  chain = replaced_chain old new before mid others after at t r;
}

-- ---- the heap

-- the slots and bodies of the new image are tied, its fixed chunks are callers', and its directory
-- is there
pub record Retied (old new : List ℕ) (before others after : List Chunk) (at : ℕ) : Type 0 where
  pub ties : (slot place : ℕ) → 0 < place → ((IsSlot old slot × (u32_at new slot ≡ place))
      ↔ IsBody (area_start old) (before ++ (others ++ after)) slot place)
  pub callers : EveryPlaced IsCallersIfFixed at others
  pub directory : AnyPlaced (ManagersHere (directory_of old)) (area_start old)
      (before ++ (others ++ after)) ⊎ (directory_of old ≡ 0)

-- callers' chunks are known
pub callers_known : (tables : List Table) (at : ℕ) (cs : List Chunk)
    → EveryPlaced IsCallersIfFixed at cs → EveryPlaced (IsKnownIfFixed tables) at cs
callers_known tables at [] h = tt
callers_known tables at (free size ∷ cs) h = (tt, callers_known tables (at + size) cs h.1)
callers_known tables at (movable bytes lock owner slot ∷ cs) h = (tt, callers_known tables _ cs h.1)
callers_known tables at (fixed bytes owner ∷ cs) h = ((h.0.1, inl h.0.0), callers_known _ _ cs h.1)

pub replaced_heap : (old new : List ℕ) (before mid others after : List Chunk) (at : ℕ)
    → IsHeap old (before ++ (mid ++ after)) → Replaces old new before mid others after at
    → Retied old new before others after at → IsHeap new (before ++ (others ++ after))
replaced_heap old new before mid others after at h r t =
    let start : ℕ = area_start old in
    let cs : List Chunk = before ++ (others ++ after) in
    let starts : area_start new ≡ start = same_start old new r.head in
    let sizes = replaced_total old new before mid others after at r in
    let place : at ≡ start + total before = r.there in
    let known : ℕ → Chunk → Type 0 = IsKnownIfFixed (further_tables old) in
    let owners = EveryPlaced-split known start before (mid ++ after) h.fixed_are_known in
    let rest = EveryPlaced-split known (start + total before) mid after owners.1 in
    let behind : start + total before + total mid ≡ start + total before + total others =
    omega arith in
    record {
      tiles = replaced_tiles old new before mid others after at h.tiles r;
      tied = λ slot place positive. (
        λ s.
            rw (← starts) at ((t.ties slot place positive).0
            (slot_back old new slot r.head s.0, s.1)),
        λ b. let s = (t.ties slot place positive).1 (rw starts at b) in
            (slot_there old new slot r.head s.0, s.1),
      );
      fixed_are_known = subst (λ n. EveryPlaced (IsKnownIfFixed (further_tables new)) n cs)
          (sym starts) (subst (λ ts. EveryPlaced (IsKnownIfFixed ts) start cs) (sym r.head.further)
          (EveryPlaced-append known start before (others ++ after) owners.0
          (EveryPlaced-append known (start + total before) others after (rw place at (callers_known
          (further_tables old) at others t.callers)) (rw behind at rest.1))));
      directory = elim t.directory [
        | inl m ↦ inr (rw (← starts) at (rw (← (same_directory old new r.head)) at m))
        | inr none ↦ inl (same_directory old new r.head ∙ none)
      ];
    }

-- ---- slots are as they were, and the bodies too

pub record SameSlots (old new : List ℕ) : Type 0 where
  pub same : (slot : ℕ) → IsSlot old slot → u32_at new slot ≡ u32_at old slot

pub kept_ties : (old new : List ℕ) (before mid others after : List Chunk) (at : ℕ)
    → IsHeap old (before ++ (mid ++ after)) → Replaces old new before mid others after at
    → SameSlots old new → ((slot place : ℕ) → AnyPlaced (BodyHere slot place) at mid
    ↔ AnyPlaced (BodyHere slot place) at others) → (slot place : ℕ) → 0 < place → ((IsSlot old slot
    × (u32_at new slot ≡ place)) ↔ IsBody (area_start old) (before ++ (others ++ after)) slot place)
kept_ties old new before mid others after at h r slots bodies slot place positive =
    let start : ℕ = area_start old in
    let sizes = replaced_total old new before mid others after at r in
    let there : AnyPlaced (BodyHere slot place) (start + total before) mid
    → AnyPlaced (BodyHere slot place) (start + total before) others =
    λ b. rw r.there at ((bodies slot place).0 (rw (← r.there) at b)) in
    let back : AnyPlaced (BodyHere slot place) (start + total before) others
    → AnyPlaced (BodyHere slot place) (start + total before) mid =
    λ b. rw r.there at ((bodies slot place).1 (rw (← r.there) at b)) in (
      λ s. any_replaced (BodyHere slot place) start before mid others after sizes there
          ((h.tied slot place positive).0 (s.0, sym (slots.same slot s.0) ∙ s.1)),
      λ b. let s = (h.tied slot place positive).1
          (any_replaced (BodyHere slot place) start before others mid after (sym sizes) back b) in
          (s.0, slots.same slot s.0 ∙ s.1),
    )

-- the directory, where the manager's chunks are as they were
pub kept_directory : (old new : List ℕ) (before mid others after : List Chunk) (at : ℕ)
    → IsHeap old (before ++ (mid ++ after)) → Replaces old new before mid others after at
    → (AnyPlaced (ManagersHere (directory_of old)) at mid
    → AnyPlaced (ManagersHere (directory_of old)) at others) → AnyPlaced (ManagersHere
    (directory_of old)) (area_start old) (before ++ (others ++ after)) ⊎ (directory_of old ≡ 0)
kept_directory old new before mid others after at h r managers = elim h.directory [
  | inl none ↦ inr none
  | inr m ↦ inl (any_replaced _ _ _ mid _ after (replaced_total old new _ mid others after at r)
      (λ b. rw r.there at (managers (rw (← r.there) at b))) m)
]
