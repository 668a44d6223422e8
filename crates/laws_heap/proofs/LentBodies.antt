-- Headers, slots, bodies of others and chunks that don't stay miss what is lent of a heap; and it
-- stays a body.
use Rattle.laws_heap.proofs.Words.{◌≡◌, ◌≢◌, ℕ, zero, suc, ◌+◌, ◌-◌, ◌≤◌, ◌<◌, List, [], ◌∷◌, ◌++◌, length, refl, sym, ap, subst, ◌∙◌, arith, inl, inr, IsTrue, ◌⊎◌, Memory, Lent, EachLent, SomeLent, IsAmong, Misses, MissesOne, IsWithin, Chunk, free, movable, fixed, fixed_lock, need, size_of, total, SpelledAll, AnyPlaced, EveryOne, Table, area_start, head_end, slots_of, tables_of, TablesLie, HasTable, IsSlot, HasFrame, LiveChunk, NamedHere, TableHere, Tiles, HeapAccepted, chunks_of, Finds, stays_put, NoneStays, AllFree, Becomes, Exchanges, Alters, IsSpot, with_lock, with_owner, LentHere, IsLentBody, LendsBodies, LendsOther}
use Rattle.laws_heap.proofs.Chunks.{Spelled-size, SpelledAll-split, SpelledAll-end, total-append}
use Rattle.laws_heap.proofs.Runs.{chunks_after, chunks_of-tiled}
use Rattle.laws_heap.proofs.Placed.{AnyPlaced-parts}
use Rattle.laws_heap.proofs.Replacements.{any_replaced}
use Rattle.laws_heap.proofs.Layouts.{any-merged, IsNotFree}
use Rattle.laws_heap.proofs.SameLayouts.{becomes_start}
use Rattle.laws_heap.proofs.Exchanges.{exchanges_parts}
use Rattle.laws_heap.proofs.FoundChunks.{read_heap, finds_body, named_size}
use Rattle.laws_heap.proofs.Slots.{HoldsSlot, slot_lies, held_within, every_slot, each_slot, same_slots, ends_listed, tiled_table}
use Rattle.laws_heap.proofs.ChainReads.{table_lies}
use Rattle.laws_heap.proofs.Lending.{part_misses, part_within}
use Rattle.laws_heap.proofs.Stretches.{heads}

-- ---- each lent part

-- a property of each lent part is one of any of them
pub each_of : (P : Lent → Type 0) (lent : Lent) (lents : List Lent) → EachLent P lents
    → IsAmong lent lents → P lent
each_of P lent [] each is = absurd is
each_of P lent (other ∷ lents) each (inl same) = subst P same each.0
each_of P lent (other ∷ lents) each (inr rest) = each_of P lent lents each.1 rest

-- and gives another, if it does at each
pub each_to : (P Q : Lent → Type 0) (lents : List Lent) → EachLent P lents
    → ((lent : Lent) → IsAmong lent lents → P lent → Q lent) → EachLent Q lents
each_to P Q [] each gives = tt
each_to P Q (lent ∷ lents) each gives =
    (gives lent (inl refl) each.0, each_to P Q lents each.1 (λ other is. gives other (inr is)))

-- what follows of each of some lent parts follows of them
pub some_gives : {Q : Type 0} (P R : Lent → Type 0) (lents : List Lent) → EachLent R lents
    → SomeLent P lents → ((lent : Lent) → R lent → P lent → Q) → Q
some_gives P R [] each some gives = absurd some
some_gives P R (l ∷ ls) each (inl is) gives = gives l each.0 is
some_gives P R (l ∷ ls) each (inr rest) gives = some_gives P R ls each.1 rest gives

pub some_to : (P R : Lent → Type 0) (lents : List Lent) → SomeLent P lents
    → ((lent : Lent) → P lent → R lent) → SomeLent R lents
some_to P R [] some gives = absurd some
some_to P R (l ∷ ls) (inl is) gives = inl (gives l is)
some_to P R (l ∷ ls) (inr rest) gives = inr (some_to P R ls rest gives)

pub some_none : (P : Lent → Type 0) (lents : List Lent) → SomeLent P lents
    → ((lent : Lent) → P lent → ⊥) → ⊥
some_none P [] some gives = some
some_none P (l ∷ ls) (inl is) gives = gives l is
some_none P (l ∷ ls) (inr rest) gives = some_none P ls rest gives

-- where nothing is lent
pub none_lends : (memory : Memory) → memory.lents ≡ [] → LendsBodies memory
none_lends memory none = subst (λ lents. EachLent (IsLentBody memory.bytes) lents) (sym none) tt

-- ---- the chunk whose body it is

pub record Stays (lent : Lent) (at : ℕ) (c : Chunk) : Type 0 where
  pub there : lent.at ≡ at + 8
  pub fits : 8 + lent.count ≤ size_of c
  pub one : IsTrue (stays_put c)

pub stays_here : (lent : Lent) (at : ℕ) (c : Chunk) → LentHere lent at c → Stays lent at c
stays_here lent at (free size) h = absurd h
stays_here lent at (movable bytes zero owner slot) h = absurd h
stays_here lent at (movable bytes (suc lock) owner slot) h =
    let n = h.1 in
    record { there = h.0; fits = omega (arith, n); one = refl }
stays_here lent at (fixed bytes owner) h =
    let n = h.1 in
    record { there = h.0; fits = omega (arith, n); one = refl }

pub record LentChunk (image : List ℕ) (lent : Lent) : Type 0 where
  pub before : List Chunk
  pub chunk : Chunk
  pub after : List Chunk
  pub chunks : chunks_of image ≡ before ++ chunk ∷ after
  pub here : LentHere lent (area_start image + total before) chunk
  pub is : Stays lent (area_start image + total before) chunk

pub lent_chunk : (image : List ℕ) (lent : Lent) → IsLentBody image lent → LentChunk image lent
lent_chunk image lent l =
    let p = AnyPlaced-parts (LentHere lent) (area_start image) (chunks_of image) l in
    record {
      before = p.before;
      chunk = p.chunk;
      after = p.after;
      chunks = p.parts;
      here = p.holds;
      is = stays_here lent (area_start image + total p.before) p.chunk p.holds;
    }

-- ---- two chunks of a list stand one after the other, or are one

pub data Apart (b : List Chunk) (c : Chunk) (b' : List Chunk) (c' : Chunk) : Type 0 where
  in_front : total b + size_of c ≤ total b' → Apart b c b' c'
  one : total b ≡ total b' → c ≡ c' → Apart b c b' c'
  behind : total b' + size_of c' ≤ total b → Apart b c b' c'

pub apart : (b : List Chunk) (c : Chunk) (a b' : List Chunk) (c' : Chunk) (a' : List Chunk)
    → b ++ c ∷ a ≡ b' ++ c' ∷ a' → Apart b c b' c'
apart [] c a [] c' a' e = one refl (heads e).0
apart [] c a (x ∷ b') c' a' e = in_front (let same = ap size_of (heads e).0 in omega (arith, same))
apart (x ∷ b) c a [] c' a' e = behind (let same = ap size_of (heads e).0 in omega (arith, same))
apart (x ∷ b) c a (y ∷ b') c' a' e =
    let same : size_of x ≡ size_of y = ap size_of (heads e).0 in
    elim (apart b c a b' c' a' (heads e).1) [
      | in_front k ↦ in_front (omega (arith, same, k))
      | one t s ↦ one (omega (arith, same, t)) s
      | behind k ↦ behind (omega (arith, same, k))
    ]

-- and a run of chunks of which none stays is next to one that stays
loose_heads : (m : Chunk) (mid : List Chunk) → NoneStays (m ∷ mid)
    → (IsTrue (stays_put m) → ⊥) × NoneStays mid
loose_heads (free size) mid n = (λ s. absurd cc, n)
loose_heads (movable bytes zero owner slot) mid n = (λ s. absurd cc, n)
loose_heads (movable bytes (suc lock) owner slot) mid n = absurd n
loose_heads (fixed bytes owner) mid n = absurd n

stays_size : (c : Chunk) → IsTrue (stays_put c) → 8 ≤ size_of c
stays_size (free size) s = absurd cc
stays_size (movable bytes lock owner slot) s = omega arith
stays_size (fixed bytes owner) s = omega arith

pub run_apart : (b mid a b' : List Chunk) (c' : Chunk) (a' : List Chunk)
    → b ++ (mid ++ a) ≡ b' ++ c' ∷ a' → NoneStays mid → IsTrue (stays_put c')
    → (total b' + size_of c' ≤ total b) ⊎ (total b + total mid ≤ total b')
run_apart [] [] a b' c' a' e n s = inr (omega arith)
run_apart [] (m ∷ mid) a [] c' a' e n s = absurd ((loose_heads m mid n).0 (rw (← (heads e).0) at s))
run_apart [] (m ∷ mid) a (x ∷ b') c' a' e n s =
    let same : size_of m ≡ size_of x = ap size_of (heads e).0 in
    let size = stays_size c' s in
    elim (run_apart [] mid a b' c' a' (heads e).1 (loose_heads m mid n).1 s) [
      | inl k ↦ absurd (omega (arith, k, size))
      | inr k ↦ inr (omega (arith, k, same))
    ]
run_apart (x ∷ b) mid a [] c' a' e n s =
    inl (let same = ap size_of (heads e).0 in omega (arith, same))
run_apart (x ∷ b) mid a (y ∷ b') c' a' e n s =
    let same : size_of x ≡ size_of y = ap size_of (heads e).0 in
    elim (run_apart b mid a b' c' a' (heads e).1 n s) [
      | inl k ↦ inl (omega (arith, k, same))
      | inr k ↦ inr (omega (arith, k, same))
    ]

-- ---- what misses it

-- a chunk takes a header at least
chunk_size : (image : List ℕ) (before : List Chunk) (c : Chunk) (after : List Chunk)
    → HeapAccepted image → chunks_of image ≡ before ++ c ∷ after → 8 ≤ size_of c
chunk_size image before c after h e =
    let area : SpelledAll image (area_start image) (before ++ c ∷ after) (length image) =
    rw e at (read_heap image h).tiles.area in
    (Spelled-size image _ c (SpelledAll-split image _ before (c ∷ after) (length image) area).1.0).0

-- what misses each body that may be lent misses what is
by_lent : (memory : Memory) (at n : ℕ) → LendsBodies memory → ((lent : Lent)
    → IsAmong lent memory.lents → LentChunk memory.bytes lent → MissesOne at n lent)
    → Misses memory.lents at n
by_lent memory at n l each = each_to _ _ _ l (λ lent is x. each lent is (lent_chunk _ lent x))

-- some bytes of a chunk whose body isn't lent
pub kept_misses : (memory : Memory) (before : List Chunk) (c : Chunk) (after : List Chunk)
    (at n : ℕ) → LendsBodies memory → chunks_of memory.bytes ≡ before ++ c ∷ after
    → area_start memory.bytes + total before ≤ at
    → at + n ≤ area_start memory.bytes + total before + size_of c → ((lent : Lent)
    → IsAmong lent memory.lents → LentHere lent (area_start memory.bytes + total before) c → ⊥)
    → Misses memory.lents at n
kept_misses memory before c after at n l e from to kept = by_lent memory at n l (λ lent is p.
    let at_is = p.is.there in
    let fits = p.is.fits in
    elim (apart before c after p.before p.chunk p.after (sym e ∙ p.chunks)) [
      | in_front k ↦ inl (omega (arith, k, to, at_is))
      | one t s ↦ absurd (kept lent is (rw (← s) at (rw (← t) at p.here)))
      | behind k ↦ inr (omega (arith, k, from, at_is, fits))
    ])

-- the header of each chunk
pub header_misses : (memory : Memory) (before : List Chunk) (c : Chunk) (after : List Chunk)
    (at : ℕ) → HeapAccepted memory.bytes → LendsBodies memory
    → chunks_of memory.bytes ≡ before ++ c ∷ after → at ≡ area_start memory.bytes + total before
    → Misses memory.lents at 8
header_misses memory before c after at h l e there =
    let size = chunk_size memory.bytes before c after h e in
    by_lent memory at 8 l (λ lent is p.
    let at_is = p.is.there in
    let fits = p.is.fits in
    elim (apart before c after p.before p.chunk p.after (sym e ∙ p.chunks)) [
      | in_front k ↦ inl (omega (arith, k, size, there, at_is))
      | one t s ↦ inl (omega (arith, t, there, at_is))
      | behind k ↦ inr (omega (arith, k, there, at_is, fits))
    ])

-- all of some chunks of which none stays
pub loose_misses : (memory : Memory) (before mid after : List Chunk) (at : ℕ) → LendsBodies memory
    → chunks_of memory.bytes ≡ before ++ (mid ++ after)
    → at ≡ area_start memory.bytes + total before → NoneStays mid
    → Misses memory.lents at (total mid)
loose_misses memory before mid after at l e there loose =
    by_lent memory at (total mid) l (λ lent is p.
    let at_is = p.is.there in
    let fits = p.is.fits in
    elim (run_apart before mid after p.before p.chunk p.after (sym e ∙ p.chunks) loose p.is.one) [
      | inl k ↦ inr (omega (arith, k, there, at_is, fits))
      | inr k ↦ inl (omega (arith, k, there, at_is))
    ])

-- what stands before the chunks
pub front_misses : (memory : Memory) (at n : ℕ) → LendsBodies memory
    → at + n ≤ area_start memory.bytes → Misses memory.lents at n
front_misses memory at n l within = by_lent memory at n l
    (λ lent is p. let at_is = p.is.there in inl (omega (arith, at_is, within)))

-- the header at which a walk over the chunks has come
pub walked_misses : (memory : Memory) (front : List Chunk) (at : ℕ) → HeapAccepted memory.bytes
    → LendsBodies memory → SpelledAll memory.bytes (area_start memory.bytes) front at
    → at < length memory.bytes → Misses memory.lents at 8
walked_misses memory front at h l spelled inside =
    let rest = chunks_after memory.bytes h.0 front at h.1.tiles spelled (omega (arith, inside)) in
    by_rest rest.0 rest.1 rest.2 where
      by_rest : (after : List Chunk) → chunks_of memory.bytes ≡ front ++ after
          → SpelledAll memory.bytes at after (length memory.bytes) → Misses memory.lents at 8
      by_rest [] e s = absurd (omega (arith, s, inside))
      by_rest (c ∷ after) e s = header_misses memory front c after at h l e
          (SpelledAll-end memory.bytes (area_start memory.bytes) front at spelled)

-- ---- the frame and the tables

-- no table is lent
no_lent_table : (table : Table) (lent : Lent) (at : ℕ) (c : Chunk) → TableHere table at c
    → LentHere lent at c → ⊥
no_lent_table table lent at (free size) t h = t
no_lent_table table lent at (movable bytes lock owner slot) t h = t
no_lent_table table lent at (fixed bytes owner) t h =
    let none = t.0 in let some = h.2 in
    omega (arith, none, some)

no_lent_holder : (slot : ℕ) (lent : Lent) (at : ℕ) (c : Chunk) → HoldsSlot slot at c
    → LentHere lent at c → ⊥
no_lent_holder slot lent at (free size) s h = s
no_lent_holder slot lent at (movable bytes lock owner named) s h = s
no_lent_holder slot lent at (fixed bytes owner) s h =
    let none = s.0 in let some = h.2 in
    omega (arith, none, some)

-- the slots of all tables miss it
pub slot_misses : (memory : Memory) (cs : List Chunk) (slot : ℕ) → Tiles memory.bytes cs
    → LendsBodies memory → IsSlot memory.bytes slot → Misses memory.lents slot 4
slot_misses memory cs slot t l s = elim (slot_lies memory.bytes cs slot t s) [
  | inl first ↦ let high = first.high in front_misses memory slot 4 l (omega (arith, high))
  | inr further ↦
      let p = AnyPlaced-parts (HoldsSlot slot) (area_start memory.bytes) cs further in
      let within = held_within slot (area_start memory.bytes + total p.before) p.chunk p.holds in
      let low = within.0 in
      let high = within.1 in
      kept_misses memory _ _ _ slot 4 l (chunks_of-tiled _ cs t ∙ p.parts) (omega (arith, low)) high
      (λ lent is here. no_lent_holder slot lent _ p.chunk p.holds here)
]

-- the frame and the tables of an image that chunks tile
pub tiled_frame : (memory : Memory) (cs : List Chunk) → Tiles memory.bytes cs → LendsBodies memory
    → HasFrame memory
tiled_frame memory cs t l =
    let least = t.head.least in
    record { inside = omega (arith, least); misses = front_misses memory 0 16 l (omega arith) }

pub tiled_tables : (memory : Memory) (cs : List Chunk) → Tiles memory.bytes cs → LendsBodies memory
    → HasTable memory
tiled_tables memory cs t l = record {
  lie = tiled_table memory.bytes cs t;
  first_misses = front_misses memory 0 (head_end memory.bytes) l (omega arith);
  slots_miss = every_slot (λ slot. Misses memory.lents slot 4) memory.bytes
      (λ slot s. slot_misses memory cs slot t l s);
}

-- and of a heap
pub frame_within : (memory : Memory) → HeapAccepted memory.bytes → LendsBodies memory
    → HasFrame memory
frame_within memory h l = tiled_frame memory h.0 h.1.tiles l

pub table_within : (memory : Memory) → HeapAccepted memory.bytes → LendsBodies memory
    → HasTable memory
table_within memory h l = tiled_tables memory h.0 h.1.tiles l

-- the first table and what follows it before the chunks
pub head_within : (memory : Memory) → HasTable memory → IsWithin memory 0 (head_end memory.bytes)
head_within memory has =
    let first = has.lie.first in
    record { inside = omega (arith, first); misses = has.first_misses }

-- the header of a further table and its word `next`
pub record ReadsTable (memory : Memory) (place : ℕ) : Type 0 where
  pub low : 8 ≤ place
  pub header : IsWithin memory (place - 8) 8
  pub next : IsWithin memory place 4

pub reads_table : (memory : Memory) (cs : List Chunk) (table : Table) → Tiles memory.bytes cs
    → LendsBodies memory → AnyPlaced (TableHere table) (area_start memory.bytes) cs
    → ReadsTable memory table.place
reads_table memory cs table t l there =
    let lies = table_lies memory.bytes _ _ table cs t.area (omega arith) there in
    let low = lies.low in
    let high = lies.high in
    let misses : Misses memory.lents (table.place - 8) 12 = all_of in
    record {
      low = omega (arith, low);
      header = record {
        inside = omega (arith, low, high);
        misses = part_misses memory.lents (table.place - 8) 12 (table.place - 8) 8 misses
            (omega arith) (omega arith);
      };
      next = record {
        inside = omega (arith, high);
        misses = part_misses memory.lents (table.place - 8) 12 table.place 4 misses (omega arith)
            (omega (arith, low));
      };
    } where
      takes : (at : ℕ) (c : Chunk) → TableHere table at c
          → (at + 8 ≡ table.place) × (12 ≤ size_of c)
      takes at (free size) h = absurd h
      takes at (movable bytes lock owner slot) h = absurd h
      takes at (fixed bytes owner) h = let long = h.2 in (h.1, omega (arith, long))

      all_of : Misses memory.lents (table.place - 8) 12
      all_of =
          let p = AnyPlaced-parts (TableHere table) (area_start memory.bytes) cs there in
          let size = takes (area_start memory.bytes + total p.before) p.chunk p.holds in
          let place = size.0 in
          let most = size.1 in
          kept_misses memory p.before p.chunk p.after (table.place - 8) 12 l
          (chunks_of-tiled memory.bytes cs t ∙ p.parts) (omega (arith, place))
          (omega (arith, place, most))
          (λ lent is here. no_lent_table table lent _ p.chunk p.holds here)

-- ---- chunks that are found

-- the header of a chunk that is found
pub found_within : (memory : Memory) (name : ℕ) (live : LiveChunk) (chunk : Chunk) (at : ℕ)
    → HeapAccepted memory.bytes → LendsBodies memory → Finds memory.bytes name live chunk at
    → IsWithin memory at 8
found_within memory name live chunk at h l f =
    let inside = (finds_body memory.bytes name live chunk at h f).inside in
    record {
      inside = omega (arith, inside);
      misses = header_misses memory f.before chunk f.after at h l f.chunks f.there;
    }

-- the body of one that is found, where another one is lent, and what it takes
pub other_within : (memory : Memory) (name : ℕ) (live : LiveChunk) (chunk : Chunk) (at : ℕ)
    → HeapAccepted memory.bytes → LendsBodies memory → Finds memory.bytes name live chunk at
    → LendsOther memory (at + 8) → IsWithin memory at (need (length live.bytes))
other_within memory name live chunk at h l f other =
    let inside = (finds_body memory.bytes name live chunk at h f).inside in
    let size = named_size name live at chunk f.named in
    let there = f.there in
    record {
      inside = omega (arith, inside);
      misses = kept_misses memory f.before chunk f.after at (need (length live.bytes)) l f.chunks
          (omega (arith, there)) (omega (arith, there, size)) (λ lent is here.
          let o : lent.at ≢ at + 8 = each_of (λ y. y.at ≢ at + 8) lent memory.lents other is in
          let at_is = (stays_here lent _ chunk here).there in
          o (omega (arith, at_is, there)));
    }

pub body_within : (memory : Memory) (name : ℕ) (live : LiveChunk) (chunk : Chunk) (at k n : ℕ)
    → HeapAccepted memory.bytes → LendsBodies memory → Finds memory.bytes name live chunk at
    → LendsOther memory (at + 8) → k + n ≤ length live.bytes → IsWithin memory (at + 8 + k) n
body_within memory name live chunk at k n h l f other fits =
    part_within memory at (need (length live.bytes)) (at + 8 + k) n
    (other_within memory name live chunk at h l f other) (omega arith) (omega (arith, fits))

-- room for a chunk
pub all_free_loose : (run : List Chunk) → AllFree run → NoneStays run
all_free_loose [] f = tt
all_free_loose (free size ∷ run) f = all_free_loose run f
all_free_loose (movable bytes lock owner slot ∷ run) f = absurd f
all_free_loose (fixed bytes owner ∷ run) f = absurd f

pub run_within : (memory : Memory) (before mid after : List Chunk) (at : ℕ)
    → HeapAccepted memory.bytes → LendsBodies memory
    → chunks_of memory.bytes ≡ before ++ (mid ++ after)
    → at ≡ area_start memory.bytes + total before → NoneStays mid → IsWithin memory at (total mid)
run_within memory before mid after at h l e there loose =
    let area : SpelledAll memory.bytes (area_start memory.bytes) (before ++ (mid ++ after))
    (length memory.bytes) = rw e at (read_heap memory.bytes h).tiles.area in
    let end = SpelledAll-end memory.bytes (area_start memory.bytes) _ (length memory.bytes) area in
    let t = total-append before (mid ++ after) in
    let u = total-append mid after in
    record {
      inside = omega (arith, end, t, u, there);
      misses = loose_misses memory before mid after at l e there loose;
    }

pub spot_within : (memory : Memory) (at room n : ℕ) → HeapAccepted memory.bytes → LendsBodies memory
    → IsSpot memory.bytes at room → n ≤ room → IsWithin memory at n
spot_within memory at room n h l s few =
    let sums = s.sums in
    part_within memory at (total s.run) at n (run_within memory s.before s.run s.after at h l
    s.chunks s.there (all_free_loose s.run s.all_free)) (omega arith) (omega (arith, sums, few))

-- ---- once bytes are written that aren't lent

-- a slot
pub slot_still_within : (old new : Memory) (slot : ℕ) → HeapAccepted old.bytes → LendsBodies old
    → IsSlot old.bytes slot → new.lents ≡ old.lents → TablesLie new.bytes → IsSlot new.bytes slot
    → IsWithin new slot 4
slot_still_within old new slot h l s same lie now = record {
  inside = each_slot (λ slot. slot + 4 ≤ length new.bytes) new.bytes lie.slots slot now;
  misses = rw (← same) at (slot_misses old h.0 slot h.1.tiles l s);
}

-- all tables, where they are the same
pub table_still_within : (old new : Memory) → HeapAccepted old.bytes → LendsBodies old
    → new.lents ≡ old.lents → TablesLie new.bytes → tables_of new.bytes ≡ tables_of old.bytes
    → HasTable new
table_still_within old new h l same lie tables =
    let ends = ends_listed old.bytes new.bytes tables in
    record {
      lie = lie;
      first_misses =
          rw (← same) at (front_misses old 0 (head_end new.bytes) l (omega (arith, ends)));
      slots_miss =
          subst (λ x. EveryOne (λ slot. Misses x slot 4) (slots_of new.bytes)) (sym same)
          (rw (← (same_slots old.bytes new.bytes tables)) at (table_within old h l).slots_miss);
    }

-- what was within is, where as many bytes are and the same is lent
pub still_within : (old new : Memory) (at n : ℕ) → IsWithin old at n → new.lents ≡ old.lents
    → length new.bytes ≡ length old.bytes → IsWithin new at n
still_within old new at n w same len =
    let inside = w.inside in
    record { inside = omega (arith, inside, len); misses = rw (← same) at w.misses }

-- ---- it stays a body

pub becomes_lent : (old new : List ℕ) (cs : List Chunk) (lent : Lent) → Becomes old new cs
    → AnyPlaced (LentHere lent) (area_start old) cs → IsLentBody new lent
becomes_lent old new cs lent b h =
    let of_new = any-merged (LentHere lent) (λ at size x. x) (area_start old) (chunks_of new) in
    let of_cs = any-merged (LentHere lent) (λ at size x. x) (area_start old) cs in
    subst (λ n. AnyPlaced (LentHere lent) n (chunks_of new)) (sym (becomes_start old new cs b))
    (of_new.0 (rw (← b.layout) at (of_cs.1 h)))

pub still_lends : (old new : Memory) → new.lents ≡ old.lents → LendsBodies old → ((lent : Lent)
    → IsAmong lent old.lents → IsLentBody old.bytes lent → IsLentBody new.bytes lent)
    → LendsBodies new
still_lends old new same l each = rw (← same) at (each_to _ (IsLentBody new.bytes) old.lents l each)

-- where other chunks stand in the place of some
pub replaced_lends : (old new : Memory) (before mid others after : List Chunk) → LendsBodies old
    → new.lents ≡ old.lents → chunks_of old.bytes ≡ before ++ (mid ++ after)
    → Becomes old.bytes new.bytes (before ++ (others ++ after)) → total others ≡ total mid
    → ((lent : Lent) → IsAmong lent old.lents → AnyPlaced (LentHere lent) (area_start old.bytes
    + total before) mid → AnyPlaced (LentHere lent) (area_start old.bytes + total before) others)
    → LendsBodies new
replaced_lends old new before mid others after l same e b sizes keeps =
    still_lends old new same l (λ lent is x.
    becomes_lent old.bytes new.bytes (before ++ (others ++ after)) lent b
    (any_replaced (LentHere lent) _ before mid others after sizes (keeps lent is) (rw e at x)))

pub none_lent : (lent : Lent) (at : ℕ) (mid : List Chunk) → NoneStays mid
    → AnyPlaced (LentHere lent) at mid → ⊥
none_lent lent at [] n x = x
none_lent lent at (c ∷ mid) n x = elim x [
  | inl here ↦ (loose_heads c mid n).0 (stays_here lent at c here).one
  | inr rest ↦ none_lent lent (at + size_of c) mid (loose_heads c mid n).1 rest
]

-- in the place of some of which none stays
pub loose_lends : (old new : Memory) (before mid others after : List Chunk) → LendsBodies old
    → new.lents ≡ old.lents → chunks_of old.bytes ≡ before ++ (mid ++ after)
    → Becomes old.bytes new.bytes (before ++ (others ++ after)) → total others ≡ total mid
    → NoneStays mid → LendsBodies new
loose_lends old new before mid others after l same e b sizes loose =
    replaced_lends old new before mid others after l same e b sizes
    (λ lent is x. absurd (none_lent lent (area_start old.bytes + total before) mid loose x))

-- where the chunks are the same ones, or are split otherwise
pub same_lends : (old new : Memory) → LendsBodies old → new.lents ≡ old.lents
    → Becomes old.bytes new.bytes (chunks_of old.bytes) → LendsBodies new
same_lends old new l same b = still_lends old new same l (λ lent is x. becomes_lent _ _ _ lent b x)

-- where one chunk is changed
pub named_not_free : (name at : ℕ) (live : LiveChunk) (c : Chunk) → NamedHere name live at c
    → IsNotFree c
named_not_free name at live (free size) n = absurd n
named_not_free name at live (movable bytes lock owner slot) n = tt
named_not_free name at live (fixed bytes owner) n = tt

pub altered_lends : (old new : Memory) (name : ℕ) (live : LiveChunk) (chunk : Chunk) (at : ℕ)
    (change : Chunk → List Chunk) → HeapAccepted old.bytes → LendsBodies old → new.lents ≡ old.lents
    → (f : Finds old.bytes name live chunk at) → Exchanges old.bytes new.bytes at change
    → total (change chunk) ≡ size_of chunk → ((lent : Lent) → IsAmong lent old.lents
    → LentHere lent at chunk → AnyPlaced (LentHere lent) at (change chunk)) → LendsBodies new
altered_lends old new name live chunk at change h l same f x sizes keeps =
    let b : Becomes old.bytes new.bytes (f.before ++ (change chunk ++ f.after)) =
    (exchanges_parts old.bytes new.bytes at change f.before chunk f.after h
    (named_not_free name at live chunk f.named) f.chunks f.there).0 x in
    replaced_lends old new f.before (chunk ∷ []) (change chunk) f.after l same f.chunks b
    (omega (arith, sizes)) each where
      each : (lent : Lent) → IsAmong lent old.lents
          → AnyPlaced (LentHere lent) (area_start old.bytes + total f.before) (chunk ∷ [])
          → AnyPlaced (LentHere lent) (area_start old.bytes + total f.before) (change chunk)
      each lent is y = elim y [
        | inl here ↦ rw f.there at (keeps lent is (rw (← f.there) at here))
        | inr none ↦ absurd none
      ]

-- one that isn't lent
pub other_lends : (old new : Memory) (name : ℕ) (live : LiveChunk) (chunk : Chunk) (at : ℕ)
    (change : Chunk → List Chunk) → HeapAccepted old.bytes → LendsBodies old → new.lents ≡ old.lents
    → (f : Finds old.bytes name live chunk at) → Exchanges old.bytes new.bytes at change
    → total (change chunk) ≡ size_of chunk → LendsOther old (at + 8) → LendsBodies new
other_lends old new name live chunk at change h l same f x sizes other =
    altered_lends old new name live chunk at change h l same f x sizes (λ lent is here.
    let o : lent.at ≢ at + 8 = each_of (λ y. y.at ≢ at + 8) lent old.lents other is in
    absurd (o (stays_here lent at chunk here).there))

-- one that gets another lock
pub relocked_lends : (old new : Memory) (name : ℕ) (live : LiveChunk) (chunk : Chunk) (at lock : ℕ)
    → HeapAccepted old.bytes → LendsBodies old → new.lents ≡ old.lents
    → (f : Finds old.bytes name live chunk at) → Alters old.bytes new.bytes at (with_lock lock)
    → (0 < lock) ⊎ LendsOther old (at + 8) → LendsBodies new
relocked_lends old new name live chunk at lock h l same f x stays_put = altered_lends old new name
    live chunk at (λ c. with_lock lock c ∷ []) h l same f x (same_size chunk) (each chunk) where
      same_size : (c : Chunk) → size_of (with_lock lock c) + 0 ≡ size_of c
      same_size (free size) = omega arith
      same_size (movable bytes count owner slot) = omega arith
      same_size (fixed bytes owner) = omega arith

      locked : (lent : Lent) (bytes : List ℕ) (count owner slot : ℕ) → 0 < count
          → LentHere lent at (movable bytes (suc 0) owner slot)
          → LentHere lent at (movable bytes count owner slot)
      locked lent bytes zero owner slot some here = absurd (omega (arith, some))
      locked lent bytes (suc count) owner slot some here = here

      each : (c : Chunk) (lent : Lent) → IsAmong lent old.lents → LentHere lent at c
          → AnyPlaced (LentHere lent) at (with_lock lock c ∷ [])
      each (free size) lent is here = absurd here
      each (movable bytes zero owner slot) lent is here = absurd here
      each (movable bytes (suc count) owner slot) lent is here = elim stays_put [
        | inl some ↦ inl (locked lent bytes lock owner slot some here)
        | inr other ↦ let o = each_of (λ y. y.at ≢ at + 8) lent _ other is in absurd (o here.0)
      ]
      each (fixed bytes owner) lent is here = inl here

-- one that gets another owner, not the manager if it is locked or fixed
pub reowned_lends : (old new : Memory) (name : ℕ) (live : LiveChunk) (chunk : Chunk) (at owner : ℕ)
    → HeapAccepted old.bytes → LendsBodies old → new.lents ≡ old.lents
    → (f : Finds old.bytes name live chunk at) → Alters old.bytes new.bytes at (with_owner owner)
    → (0 < live.lock → 0 < owner) → LendsBodies new
reowned_lends old new name live chunk at owner h l same f x owned =
    altered_lends old new name live chunk at (λ c. with_owner owner c ∷ []) h l same f x
    (same_size chunk) (each chunk f.named) where
      same_size : (c : Chunk) → size_of (with_owner owner c) + 0 ≡ size_of c
      same_size (free size) = omega arith
      same_size (movable bytes count own slot) = omega arith
      same_size (fixed bytes own) = omega arith

      each : (c : Chunk) → NamedHere name live at c → (lent : Lent) → IsAmong lent old.lents
          → LentHere lent at c → AnyPlaced (LentHere lent) at (with_owner owner c ∷ [])
      each (free size) n lent is here = absurd here
      each (movable bytes zero own slot) n lent is here = absurd here
      each (movable bytes (suc count) own slot) n lent is here = inl here
      each (fixed bytes own) n lent is here =
          let lock : fixed_lock ≡ live.lock = ap (λ (x : LiveChunk). x.lock) n.1 in
          inl (here.0, here.1, owned (omega (arith, lock)))
