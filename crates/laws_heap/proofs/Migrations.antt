-- The way from one layout to the other: what the bytes say, the image holds.
use Rattle.laws_heap.proofs.Words.{true, false, cond, ◌≡◌, ◌≢◌, ℕ, zero, suc, ◌+◌, ◌-◌, ◌*◌, ◌/◌, ◌%◌, ◌^◌, ◌<◌, ◌≤◌, List, [], ◌∷◌, ◌++◌, length, take, drop, replicate, Some, None, refl, sym, ap, subst, ◌∙◌, arith, inl, inr, cases_eq, cases_lt, eq-eqb, nat_tests, ◌==◌, if◌then◌else◌, u32_at, Chunk, free, movable, fixed, need, size_of, slot_named, seen, Spelled, SpelledAll, most_size, EveryPlaced, AnyPlaced, Table, slot_count, table_end, head_end, area_start, is_chained, first_next, further_tables, tables_within, slots_in_row, slots_further, slots_of, IsSlot, IsHead, IsChain, Tiles, BodyHere, IsBody, Tied, IsKnownIfFixed, ManagersHere, directory_of, IsHeap, HeapAccepted, NamesItsSlot, chunks_of, live_under, is_fixed_name}
use Rattle.heap_model.specs.Migration.{StandFurther, StandsFurther, lowered_word, Migrates, MigratesBytes}
use Rattle.laws_heap.proofs.Frames.{SameBetween, u16_at-same, u32_at-same, u32_at-zeros, slice_index-zeros}
use Rattle.laws_heap.proofs.CarriedBytes.{Carries, u32_at-carried, slice-carried, IsFree-carried, IsLive-carried}
use Rattle.laws_heap.proofs.Tests.{cond-true, cond-false}
use Rattle.laws_heap.proofs.Tables.{chained_behind, none_behind, no_further}
use Rattle.laws_heap.proofs.FixedNames.{fixed_live}
use Rattle.laws_heap.proofs.OneTable.{none_outside}
use Rattle.laws_heap.proofs.Replacements.{padded}
use Rattle.laws_heap.proofs.Slots.{slot_alike}
use Rattle.laws_heap.proofs.Bodies.{IsBody-low, tied_halves}
use Rattle.laws_heap.proofs.FoundChunks.{read_heap}
use Rattle.laws_heap.proofs.Meanings.{held-is}

-- ---- chunks that stand further on

carries : (old new : List ℕ) (by start end : ℕ) → StandFurther old new by start end
    → Carries by start end old new
carries old new by start end f = record { same = f }

-- the hOffset that leads to the same slot
lower_way : ℕ → ℕ → ℕ
lower_way by way = (way + 2 ^ 24 - by / 2) % 2 ^ 24

same_way : (at by way : ℕ) → by % 8 ≡ 0 → by ≤ 8 → way < 2 ^ 24
    → slot_named (at + by) (lower_way by way) ≡ slot_named at way
unfolding lower_way
same_way at by way whole few small = omega arith

way_fits : (by way : ℕ) → lower_way by way < 2 ^ 24
unfolding lower_way
way_fits by way = omega arith

-- in the second word
lowered_is : (by lock owner way : ℕ) → way < 2 ^ 24 → lowered_word by
    (lock * 2 ^ 28 + owner * 2 ^ 24 + way) ≡ lock * 2 ^ 28 + owner * 2 ^ 24 + lower_way by way
unfolding lower_way
lowered_is by lock owner way small =
    let low : (lock * 2 ^ 28 + owner * 2 ^ 24 + way) % 2 ^ 24 ≡ way = omega arith in
    let e : lock * 2 ^ 28 + owner * 2 ^ 24 + way - way + (way + 2 ^ 24 - by / 2) % 2 ^ 24
    ≡ lock * 2 ^ 28 + owner * 2 ^ 24 + (way + 2 ^ 24 - by / 2) % 2 ^ 24 = omega arith in
    ap (λ w. lock * 2 ^ 28 + owner * 2 ^ 24 + way - w + (w + 2 ^ 24 - by / 2) % 2 ^ 24) low ∙ e

spelled_further : (old new : List ℕ) (by at : ℕ) (c : Chunk) → by % 8 ≡ 0 → by ≤ 8
    → length new ≡ length old + by → StandsFurther old new by at c → Spelled old at c
    → Spelled new (at + by) c
spelled_further old new by at (free size) whole few len f s =
    let inside = s.inside in
    IsFree-carried old new at by size (carries old new by at (at + size) f) (omega arith) s
spelled_further old new by at (fixed bytes owner) whole few len f s =
    let inside = s.inside in
    IsLive-carried old new at by bytes 15 owner 0
    (carries old new by at (at + need (length bytes)) f) (omega arith) s
spelled_further old new by at (movable bytes lock owner slot) whole few len f s =
    let way : ℕ = s.0 in
    let live = s.1 in
    let inside = live.inside in
    let small = live.h_offset_fits in
    let first = u32_at-carried at by old new at (at + 4) (carries old new by at (at + 4) f.0)
    (omega arith) (omega arith) in
    let body = slice-carried (at + 8) (length bytes) by old new (at + 8) (at + need (length bytes))
    (carries old new by (at + 8) (at + need (length bytes)) f.2) (omega arith) (omega arith)
    (omega arith) (omega arith) in
    let e : at + by + 8 ≡ at + 8 + by = omega arith in (
      lower_way by way,
      record {
        first_word = first ∙ live.first_word;
        size_fits = live.size_fits;
        second_word = f.1 ∙ ap (lowered_word by) live.second_word ∙ lowered_is by lock _ way small;
        lock_fits = live.lock_fits;
        owner_fits = live.owner_fits;
        h_offset_fits = way_fits by way;
        body = ap (seen lock owner) (ap (λ n. take (n + length bytes - n) (drop n new)) e ∙ body)
            ∙ live.body;
        inside = omega arith;
      },
      s.2,
      s.3,
      s.4 ∙ sym (same_way at by way whole few small),
    )

all_further : (old new : List ℕ) (by at : ℕ) (cs : List Chunk) (end : ℕ) → by % 8 ≡ 0 → by ≤ 8
    → length new ≡ length old + by → EveryPlaced (StandsFurther old new by) at cs
    → SpelledAll old at cs end → SpelledAll new (at + by) cs (end + by)
all_further old new by at [] end whole few len f s = ap (λ (n : ℕ). n + by) s
all_further old new by at (c ∷ cs) end whole few len f s =
    let e : at + size_of c + by ≡ at + by + size_of c = omega arith in (
      spelled_further old new by at c whole few len f.0 s.0,
      rw e at (all_further old new by (at + size_of c) cs end whole few len f.1 s.1),
    )

-- ---- what holds of some chunk, or of each

any_further : (P Q : ℕ → Chunk → Type 0) (by : ℕ) → ((at : ℕ) (c : Chunk) → P at c → Q (at + by) c)
    → (at : ℕ) (cs : List Chunk) → AnyPlaced P at cs → AnyPlaced Q (at + by) cs
any_further P Q by each at [] h = absurd h
any_further P Q by each at (c ∷ cs) h = elim h [
  | inl here ↦ inl (each at c here)
  | inr later ↦
      let e : at + size_of c + by ≡ at + by + size_of c = omega arith in
      inr (rw e at (any_further P Q by each (at + size_of c) cs later))
]

any_back : (P Q : ℕ → Chunk → Type 0) (by : ℕ) → ((at : ℕ) (c : Chunk) → Q (at + by) c → P at c)
    → (at : ℕ) (cs : List Chunk) → AnyPlaced Q (at + by) cs → AnyPlaced P at cs
any_back P Q by each at [] h = absurd h
any_back P Q by each at (c ∷ cs) h = elim h [
  | inl here ↦ inl (each at c here)
  | inr later ↦
      let e : at + by + size_of c ≡ at + size_of c + by = omega arith in
      inr (any_back P Q by each (at + size_of c) cs (rw e at later))
]

body_further : (by slot place at : ℕ) (c : Chunk) → BodyHere slot place at c
    → BodyHere slot (place + by) (at + by) c
body_further by slot place at (free size) b = absurd b
body_further by slot place at (movable bytes lock owner named) b =
    let is = b.1 in
    (b.0, omega arith)
body_further by slot place at (fixed bytes owner) b = absurd b

body_back : (by slot place at : ℕ) (c : Chunk) → BodyHere slot place (at + by) c
    → BodyHere slot (place - by) at c
body_back by slot place at (free size) b = absurd b
body_back by slot place at (movable bytes lock owner named) b = let is = b.1 in (b.0, omega arith)
body_back by slot place at (fixed bytes owner) b = absurd b

managers_further : (by slot at : ℕ) (c : Chunk) → ManagersHere slot at c
    → ManagersHere slot (at + by) c
managers_further by slot at (free size) m = m
managers_further by slot at (movable bytes lock owner named) m = m
managers_further by slot at (fixed bytes owner) m = m

known_further : (by at : ℕ) (cs : List Chunk) → EveryPlaced (IsKnownIfFixed []) at cs
    → EveryPlaced (IsKnownIfFixed []) (at + by) cs
known_further by at [] h = tt
known_further by at (free size ∷ cs) h = (
  tt,
  rw (let e : at + size + by ≡ at + by + size = omega arith in
      e) at (known_further by (at + size) cs h.1),
)
known_further by at (movable bytes lock owner slot ∷ cs) h = (
  tt,
  rw (let e : at + need (length bytes) + by ≡ at + by + need (length bytes) = omega arith in
      e) at (known_further by (at + need (length bytes)) cs h.1),
)
known_further by at (fixed bytes owner ∷ cs) h = (
  h.0,
  rw (let e : at + need (length bytes) + by ≡ at + by + need (length bytes) = omega arith in
      e) at (known_further by (at + need (length bytes)) cs h.1),
)

-- ---- names

-- each movable one of some chunks names a slot before an offset
abbrev NamesBelow : ℕ → ℕ → Chunk → Type 0
NamesBelow low at (free size) = Unit {0}
NamesBelow low at (movable bytes lock owner slot) = slot < low
NamesBelow low at (fixed bytes owner) = Unit {0}

not_equal : (m n : ℕ) → m ≢ n → (m == n) ≡ false
not_equal m n ne = grind (arith, nat_tests)

not_fixed : (at owner name : ℕ) → at + 8 ≢ name → is_fixed_name at owner name ≡ false
not_fixed at owner name ne = let no = not_equal (at + 8) name ne in rw no refl

further_test : (at by owner name : ℕ)
    → is_fixed_name (at + by) owner (name + by) ≡ is_fixed_name at owner name
further_test at by owner name = elim (cases_eq (at + 8) name) [
  | inl e ↦
      let a : ((at + 8) == name) ≡ true = eq-eqb (at + 8) name e in
      let b = eq-eqb (at + by + 8) (name + by) (omega arith) in
      rw (a, b) refl
  | inr ne ↦
      let a : ((at + 8) == name) ≡ false = not_equal (at + 8) name ne in
      let b = not_equal (at + by + 8) (name + by) (λ e. ne (omega arith)) in
      rw (a, b) refl
]

live_at : (m n : ℕ) (cs : List Chunk) (name : ℕ) → m ≡ n
    → live_under m cs name ≡ live_under n cs name
live_at m n cs name e = ap (λ (k : ℕ). live_under k cs name) e

-- a name before the chunks
live_low : (at by name : ℕ) (cs : List Chunk) → name < at
    → live_under (at + by) cs name ≡ live_under at cs name
live_low at by name [] low = refl
live_low at by name (free size ∷ cs) low =
    live_at (at + by + size) (at + size + by) cs name (omega arith)
    ∙ live_low (at + size) by name cs (omega arith)
live_low at by name (movable bytes lock owner slot ∷ cs) low = ap
    (λ o. if slot == name then Some (record { bytes = bytes; lock = lock; owner = owner }) else o)
    (live_at (at + by + need (length bytes)) (at + need (length bytes) + by) cs name (omega arith)
    ∙ live_low (at + need (length bytes)) by name cs (omega arith))
live_low at by name (fixed bytes owner ∷ cs) low = cond-false (is_fixed_name (at + by) owner name) _
    _ (not_fixed (at + by) owner name (λ e. omega arith))
    ∙ live_at (at + by + need (length bytes)) (at + need (length bytes) + by) cs name (omega arith)
    ∙ live_low (at + need (length bytes)) by name cs (omega arith)
    ∙ sym (cond-false (is_fixed_name at owner name) _ _
    (not_fixed at owner name (λ e. omega arith)))

-- and one after all slots
live_high : (at by low name : ℕ) (cs : List Chunk) → EveryPlaced (NamesBelow low) at cs → low ≤ name
    → live_under (at + by) cs (name + by) ≡ live_under at cs name
live_high at by low name [] below high = refl
live_high at by low name (free size ∷ cs) below high =
    live_at (at + by + size) (at + size + by) cs (name + by) (omega arith)
    ∙ live_high (at + size) by low name cs below.1 high
live_high at by low name (movable bytes lock owner slot ∷ cs) below high =
    let under = below.0 in
    cond-false (slot == (name + by)) _ _ (not_equal slot (name + by) (λ e. omega arith))
    ∙ live_at _ (at + need (length bytes) + by) cs (name + by) (omega arith)
    ∙ live_high (at + need (length bytes)) by low name cs below.1 high
    ∙ sym (cond-false (slot == name) _ _ (not_equal slot name (λ e. omega arith)))
live_high at by low name (fixed bytes owner ∷ cs) below high =
    ap (λ b. cond b (Some (fixed_live bytes owner))
    (live_under (at + by + need (length bytes)) cs (name + by))) (further_test at by owner name)
    ∙ ap (λ o. cond (is_fixed_name at owner name) (Some (fixed_live bytes owner)) o)
    (live_at (at + by + need (length bytes)) (at + need (length bytes) + by) cs (name + by)
    (omega arith) ∙ live_high (at + need (length bytes)) by low name cs below.1 high)

-- one before the chunks that is no slot's names nothing
live_none : (image : List ℕ) (at here name : ℕ) (cs : List Chunk)
    → EveryPlaced (NamesItsSlot image) here cs → (IsSlot image name → ⊥) → name < at
    → live_under at cs name ≡ None
live_none image at here name [] names none low = refl
live_none image at here name (free size ∷ cs) names none low =
    live_none image (at + size) (here + size) name cs names.1 none (omega arith)
live_none image at here name (movable bytes lock owner slot ∷ cs) names none low =
    cond-false (slot == name) _ _ (not_equal slot name (λ e. none (rw e at names.0.0)))
    ∙ live_none image (at + need (length bytes)) _ name cs names.1 none (omega arith)
live_none image at here name (fixed bytes owner ∷ cs) names none low =
    cond-false (is_fixed_name at owner name) _ _ (not_fixed at owner name (λ e. omega arith))
    ∙ live_none image (at + need (length bytes)) _ name cs names.1 none (omega arith)

names_below : (image : List ℕ) (low at : ℕ) (cs : List Chunk)
    → ((slot : ℕ) → IsSlot image slot → slot < low) → EveryPlaced (NamesItsSlot image) at cs
    → EveryPlaced (NamesBelow low) at cs
names_below image low at [] each names = tt
names_below image low at (free size ∷ cs) each names =
    (tt, names_below image low (at + size) cs each names.1)
names_below image low at (movable bytes lock owner slot ∷ cs) each names =
    (each slot names.0.0, names_below image low (at + need (length bytes)) cs each names.1)
names_below image low at (fixed bytes owner ∷ cs) each names =
    (tt, names_below image low (at + need (length bytes)) cs each names.1)

-- ---- the image

no_tables : (n : ℕ) (image : List ℕ) (next : ℕ) → next ≡ 0 → tables_within n image next ≡ []
no_tables zero image next none = refl
no_tables (suc n) image next none = ap (λ (w : ℕ). tables_within (suc n) image w) none

none_further : (image : List ℕ) → first_next image ≡ 0 → further_tables image ≡ []
unfolding further_tables
none_further image none = no_tables (length image) image (first_next image) none

one_list : (old new : List ℕ) → slot_count new ≡ slot_count old → further_tables old ≡ []
    → further_tables new ≡ [] → slots_of new ≡ slots_of old
unfolding slots_of
one_list old new count was is =
    ap (λ (n : ℕ). slots_in_row 16 n ++ slots_further (further_tables new)) count
    ∙ ap (λ (ts : List Table). slots_in_row 16 (slot_count old) ++ slots_further ts) (is ∙ sym was)

-- what the bytes say of the image
pub migrated : (old new : List ℕ) (by : ℕ) → HeapAccepted old → is_chained old ≡ false
    → length new ≤ most_size → MigratesBytes old new by → Migrates old new by
migrated old new by h plain most m = record {
  accepted = (cs, heap);
  plain = plain;
  chained = chained;
  shift = m.shift;
  len = m.len;
  directory = directory;
  count = count;
  further = further;
  slots = λ slot s. held-is new cs slot heap ∙ ap (λ n. live_under n cs slot) m.shift
      ∙ live_low start by slot cs (below slot s) ∙ sym (held-is old cs slot was);
  fixed = λ name high. held-is new cs (name + by) heap
      ∙ ap (λ n. live_under n cs (name + by)) m.shift
      ∙ live_high start by start name cs (names_below old start start cs below names) high
      ∙ sym (held-is old cs name was);
  no_others = λ name none low. held-is new cs name heap ∙ live_none old _ _ name cs names none low;
} where
  start : ℕ
  start = area_start old

  cs : List Chunk
  cs = chunks_of old

  was : IsHeap old cs
  was = read_heap old h

  names : EveryPlaced (NamesItsSlot old) start cs
  names = (tied_halves old cs was.tied).1

  frame : SameBetween 8 16 old new
  frame = record { same = λ k low high. sym (m.frame k low high) }

  count : slot_count new ≡ slot_count old
  count = sym (u16_at-same 8 old new 8 16 frame (omega arith) (omega arith))

  directory : directory_of new ≡ directory_of old
  directory = sym (u32_at-same 12 old new 8 16 frame (omega arith) (omega arith))

  chained : is_chained new ≡ true
  chained = ap (λ (w : ℕ). w == 0x50484932) m.magic

  four : head_end new ≡ table_end old + 4
  four = let more = chained_behind new chained in omega (arith, more, count)

  before : head_end old ≡ table_end old
  before = let none = none_behind old plain in omega (arith, none)

  whole : by % 8 ≡ 0
  whole = let shift = m.shift in omega arith

  few : by ≤ 8
  few = let shift = m.shift in omega (arith, shift, four, before)

  -- bytes after the slots are zeros
  zero_word : (at : ℕ) → table_end old ≤ at → at + 4 ≤ start + by → u32_at new at ≡ 0
  zero_word at low high = u32_at-same at new (replicate 0 0) at (at + 4) (record {
    same = λ k l e. m.zeros k (omega arith) (omega arith) ∙ sym (slice_index-zeros 0 k);
  }) (omega arith) (omega arith) ∙ u32_at-zeros at 0

  next : first_next new ≡ 0
  next =
      let end : table_end new ≡ table_end old = ap (λ (n : ℕ). 16 + 4 * n) count in
      let shift = m.shift in
      ap (λ b. cond b (u32_at new (table_end new)) 0) chained ∙ ap (u32_at new) end
      ∙ zero_word (table_end old) (omega arith) (omega (arith, shift, four))

  further : further_tables new ≡ []
  further = none_further new next

  slots : slots_of new ≡ slots_of old
  slots = one_list old new count (no_further old plain) further

  below : (slot : ℕ) → IsSlot old slot → slot < start
  below slot s = elim (cases_lt slot (16 + 4 * slot_count old)) [
    | inl low ↦ omega arith
    | inr high ↦ absurd (none_outside old slot plain (inr high) s)
  ]

  head : IsHead new
  head =
      let was_head = was.tiles.head in
      let len = m.len in
      let shift = m.shift in
      let fits = was_head.a_chunk_fits in
      let least = was_head.least in
      let eights = was_head.whole in
      let some = was_head.some_slot in
      record {
        magic_is = inr m.magic;
        size_is = m.size;
        least = omega arith;
        most = most;
        whole = omega (arith, whole, len, eights);
        some_slot = omega (arith, count, some);
        a_chunk_fits = omega arith;
        reserved =
            sym (u16_at-same 10 old new 8 16 frame (omega arith) (omega arith)) ∙ was_head.reserved;
        padding = λ ne. let fits = padded new ne in
            zero_word (head_end new) (omega (arith, four)) (omega (arith, fits, shift));
      }

  tiles : Tiles new cs
  tiles = record {
    head = head;
    area = rw (← m.shift) at (rw (← m.len) at (all_further old new by start cs
        (length old) whole few m.len m.chunks was.tiles.area));
    chain = subst (λ (ts : List Table). IsChain new cs (first_next new) ts) (sym further) next;
  }

  used : (slot place : ℕ) → IsSlot old slot → u32_at new slot ≡ place → 0 < place
      → (u32_at old slot ≡ place - by) × (by < place)
  used slot place s is some = elim (cases_eq (u32_at old slot) 0) [
    | inl empty ↦
        let none = m.slots slot s ∙ cond-true _ 0 _ (eq-eqb (u32_at old slot) 0 empty) in
        absurd (omega arith)
    | inr there ↦
        let more = m.slots slot s ∙ cond-false _ 0 _ (not_equal (u32_at old slot) 0 there) in
        (omega arith, omega arith)
  ]

  holds : (slot place : ℕ) → IsSlot old slot → u32_at old slot ≡ place → 0 < place
      → u32_at new slot ≡ place + by
  holds slot place s is some = m.slots slot s ∙ cond-false (u32_at old slot == 0) 0 (u32_at old slot
      + by) (not_equal (u32_at old slot) 0 (λ none. omega arith)) ∙ ap (λ n. n + by) is

  tied : Tied new cs
  tied slot place positive = (
    λ s.
        let o : IsSlot old slot = slot_alike new old slot (sym slots) s.0 in
        let u = used slot place o s.1 positive in
        let more = u.1 in
        let body = (was.tied slot (place - by) (omega arith)).0 (o, u.0) in
        let e : place - by + by ≡ place = omega arith in
        subst (λ n. IsBody n cs slot place) (sym m.shift)
        (rw e at (any_further (BodyHere slot (place - by)) (BodyHere slot (place - by + by)) by
        (body_further by slot (place - by)) start cs body)),
    λ b.
        let low = IsBody-low (area_start new) cs slot place b in
        let shift = m.shift in
        let body = any_back (BodyHere slot (place - by)) (BodyHere slot place) by
        (body_back by slot place) start cs (rw m.shift at b) in
        let t = (was.tied slot (place - by) (omega arith)).1 body in (
          slot_alike old new slot slots t.0,
          holds slot (place - by) t.0 t.1 (omega arith)
              ∙ (let e : place - by + by ≡ place = omega arith in e),
        ),
  )

  heap : IsHeap new cs
  heap = record {
    tiles = tiles;
    tied = tied;
    fixed_are_known = subst (λ n. EveryPlaced (IsKnownIfFixed (further_tables new)) n cs)
        (sym m.shift) (subst (λ ts. EveryPlaced (IsKnownIfFixed ts) (start + by) cs) (sym further)
        (known_further by start cs (rw (no_further old plain) at was.fixed_are_known)));
    directory = elim was.directory [
      | inl none ↦ inl (directory ∙ none)
      | inr d ↦ inr (subst (λ n. AnyPlaced (ManagersHere (directory_of new)) n cs) (sym m.shift)
          (subst (λ w. AnyPlaced (ManagersHere w) (start + by) cs) (sym directory)
          (any_further (ManagersHere (directory_of old)) (ManagersHere (directory_of old)) by
          (managers_further by (directory_of old)) start cs d)))
    ];
  }
