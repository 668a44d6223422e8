-- A further table is put into a free chunk, at the end of the chain. Two writes make it: the table
-- itself, and its place in the last word `next`. Between the two the image is tiled, but no
-- accepted heap.
use Rattle.laws_heap.proofs.Words.{Bool, true, cond, ◌≡◌, ℕ, ◌+◌, ◌%◌, ◌≤◌, List, [], ◌∷◌, ◌++◌, length, replicate, refl, sym, ap, subst, ◌∙◌, arith, inl, inr, sum_by-cons, sum_by-append, is_none, slice_range, count_by, u32_at, u32_bytes, overwritten, Chunk, free, movable, fixed, need, total, Spelled, SpelledAll, EveryPlaced, AnyPlaced, EveryOne, Table, Tables, area_start, first_next, is_chained, further_tables, slots_of, IsSlot, TableHere, Tiles, BodyHere, Tied, IsTablePlace, IsKnownIfFixed, ManagersHere, directory_of, IsHeap, HeapAccepted, SameFrame, Becomes, chunks_of, held, live_under, free_slots, place_of, gained, gained_slots, last_next, HasNewTable, GainsTable, PutsTable}
use Rattle.laws_heap.proofs.Tests.{cond-true}
use Rattle.laws_heap.proofs.Placed.{EveryPlaced-append, EveryPlaced-split, AnyPlaced-right, AnyPlaced-split}
use Rattle.laws_heap.proofs.Chunks.{SpelledAll-split, SpelledAll-end}
use Rattle.laws_heap.proofs.Slots.{stands_left, stands_right, every_standing, standing, stands_split, every_slot, length-slots_in_row}
use Rattle.laws_heap.proofs.Lives.{live_replaced, place_replaced}
use Rattle.laws_heap.proofs.Replacements.{Replaces, replaced_tiles, any_replaced, head_tables, same_start, slot_there, slot_back, same_directory}
use Rattle.laws_heap.proofs.Meanings.{held-is}
use Rattle.laws_heap.proofs.FreeChunks.{reads_place}
use Rattle.laws_heap.proofs.Writes.{WroteWithin, wrote_none, WroteArea, area_replaces, wrote_slot}
use Rattle.laws_heap.proofs.SameLayouts.{becomes_held, becomes_place, same_slots, count_alike}
use Rattle.laws_heap.proofs.SlidImages.{slot_unheld, free_slots_held}
use Rattle.laws_heap.proofs.AlikeTables.{TellsNoTables, alike_back, any_alike, every_alike, body_tells, managers_tells, known_tells, live_table, live_alike, place_table, place_alike}
use Rattle.laws_heap.proofs.ChainReads.{spelled_whole, table_lies, chain_table}
use Rattle.laws_heap.proofs.AddedTables.{AddsTable, Added, added, slots_more, stays_count, stays_start, stays_chained, stays_directory}

-- the chunk of a table of 15 empty slots
abbrev pub table_chunk : Chunk
table_chunk = fixed (replicate 64 0) 0

-- ---- the first write

-- a table was written in place of a free chunk that it fills
pub record WritesTable (old mid : List ℕ) (before after : List Chunk) (at : ℕ) : Type 0 where
  pub chained : is_chained old ≡ true
  pub heap : IsHeap old (before ++ free 72 ∷ after)
  pub there : at ≡ area_start old + total before
  pub wrote : WroteWithin old mid at (at + 72)
  pub spelled : Spelled mid at table_chunk
  pub zeros : slice_range mid (at + 8) (at + 8 + 64) ≡ replicate 64 0

-- the chunks before the free one and those after
record Halves (old : List ℕ) (before after : List Chunk) (at : ℕ) : Type 0 where
  front : SpelledAll old (area_start old) before at
  back : SpelledAll old (at + 72) after (length old)
  inside : at + 72 ≤ length old
  whole : at % 8 ≡ 0

halves : (old mid : List ℕ) (before after : List Chunk) (at : ℕ)
    → WritesTable old mid before after at → Halves old before after at
halves old mid before after at w =
    let start : ℕ = area_start old in
    let s = SpelledAll-split old start before (free 72 ∷ after) (length old) w.heap.tiles.area in
    let is : start + total before ≡ at = sym w.there in
    let front : SpelledAll old start before at = rw is at s.0 in
    let back : SpelledAll old (at + 72) after (length old) = rw is at s.1.1 in
    let ends = SpelledAll-end old (at + 72) after (length old) back in
    record {
      front = front;
      back = back;
      inside = omega arith;
      whole = spelled_whole old start before at front (omega arith);
    }

pub written_replaces : (old mid : List ℕ) (before after : List Chunk) (at : ℕ)
    → WritesTable old mid before after at
    → Replaces old mid before (free 72 ∷ []) (table_chunk ∷ []) after at
written_replaces old mid before after at w =
    let there = w.there in
    let inside = (halves old mid before after at w).inside in
    let size : at + 72 ≡ at + (72 + 0) = omega arith in
    let area = subst (λ n. WroteArea old mid at n) size record {
      mid = mid;
      slot = at;
      area = w.wrote;
      word = wrote_none mid at (at + 4);
      is_slot = inl refl;
      there = omega arith;
      fits = omega arith;
    } in
    area_replaces old mid _ _ _ after at w.heap.tiles tt there (omega arith) area (w.spelled, size)

-- where a free chunk is there is no table of the chain
free_no_table : (old mid : List ℕ) (before after : List Chunk) (at : ℕ)
    → WritesTable old mid before after at → IsTablePlace (further_tables old) (at + 8) → ⊥
free_no_table old mid before after at w t =
    let h = halves old mid before after at w in
    let whole = h.whole in
    let c = chain_table old _ (first_next old) (further_tables old) (at + 8) w.heap.tiles.chain t in
    let place = c.place in
    elim (AnyPlaced-split (TableHere c.table) (area_start old) before (free 72 ∷ after) c.there) [
      | inl front ↦
          let high =
          (table_lies old (area_start old) at c.table before h.front (omega arith) front).high in
          omega arith
      | inr rest ↦ elim rest [
        | inl none ↦ none
        | inr back ↦
            let there = w.there in
            let behind : AnyPlaced (TableHere c.table) (at + 72) after = rw (← there) at back in
            let low = (table_lies old (at + 72) _ c.table after h.back (omega arith) behind).low in
            omega arith
      ]
    ]

-- so the new one can be added
pub written_new : (old mid : List ℕ) (before after : List Chunk) (at : ℕ)
    → WritesTable old mid before after at → HasNewTable mid (at + 8)
written_new old mid before after at w =
    let r = written_replaces old mid before after at w in
    let there = w.there in
    let start = same_start old mid r.head in
    record {
      chunks = before ++ table_chunk ∷ after;
      tiles = replaced_tiles old mid before (free 72 ∷ []) _ after at w.heap.tiles r;
      there = AnyPlaced-right _ _ before _ (inl (refl, omega arith, refl, omega arith));
      zeros = w.zeros;
      apart = λ t. free_no_table old mid before after at w (rw r.head.further at t);
    }

pub written_chained : (old mid : List ℕ) (before after : List Chunk) (at : ℕ)
    → WritesTable old mid before after at → is_chained mid ≡ true
written_chained old mid before after at w =
    ap (λ t. t.chained) (head_tables old mid (written_replaces old mid before after at w).head)
    ∙ w.chained

-- ---- the second write

-- and its place in the last word `next`
pub record LaysTable (old mid new : List ℕ) (before after : List Chunk) (at : ℕ) : Type 0 where
  pub first : WritesTable old mid before after at
  pub word : new ≡ overwritten mid (last_next mid) (u32_bytes (at + 8))

pub second_adds : (old mid new : List ℕ) (before after : List Chunk) (at : ℕ)
    → LaysTable old mid new before after at → AddsTable mid new (at + 8)
second_adds old mid new before after at l = record {
  chained = written_chained old mid before after at l.first;
  fresh = written_new old mid before after at l.first;
  word = l.word;
}

-- ---- what is known of fixed chunks

-- each chunk is known by more tables
more_known : (tables : List Table) (g : Table) (place : ℕ) → IsTablePlace tables place
    → IsTablePlace (tables ++ g ∷ []) place
more_known [] g place h = absurd h
more_known (t ∷ tables) g place h =
    elim h [ inl is ↦ inl is | inr later ↦ inr (more_known tables g place later) ]

last_known : (tables : List Table) (g : Table) → IsTablePlace (tables ++ g ∷ []) g.place
last_known [] g = inl refl
last_known (t ∷ tables) g = inr (last_known tables g)

known_more : (tables : List Table) (g : Table) (at : ℕ) (cs : List Chunk)
    → EveryPlaced (IsKnownIfFixed tables) at cs
    → EveryPlaced (IsKnownIfFixed (tables ++ g ∷ [])) at cs
known_more tables g at [] h = tt
known_more tables g at (free size ∷ cs) h = (tt, known_more tables g (at + size) cs h.1)
known_more tables g at (movable bytes lock owner slot ∷ cs) h = (tt, known_more tables g _ cs h.1)
known_more tables g at (fixed bytes owner ∷ cs) h = (
  (
    h.0.0,
    elim h.0.1 [ inl some ↦ inl some | inr table ↦ inr (more_known tables g (at + 8) table) ],
  ),
  known_more tables g (at + need (length bytes)) cs h.1,
)

-- ---- the heap

-- What the two writes leave.
pub record LaidTable (old mid new : List ℕ) (before after : List Chunk) (at : ℕ) : Type 0 where
  pub replaces : Replaces old mid before (free 72 ∷ []) (table_chunk ∷ []) after at
  pub tiles : Tiles mid (before ++ table_chunk ∷ after)
  pub added : Added mid new (at + 8) (before ++ table_chunk ∷ after)
  pub puts : PutsTable old new (at + 8)

pub lays_table : (old mid new : List ℕ) (before after : List Chunk) (at : ℕ)
    → LaysTable old mid new before after at → LaidTable old mid new before after at
unfolding second_adds written_new
lays_table old mid new before after at l = record {
  replaces = r;
  tiles = written.tiles;
  added = d;
  puts = record { gains = gains; map = map; places = places };
} where
  start : ℕ
  start = area_start old

  cs : List Chunk
  cs = before ++ free 72 ∷ after

  ms : List Chunk
  ms = before ++ table_chunk ∷ after

  old_heap : IsHeap old cs
  old_heap = l.first.heap

  r : Replaces old mid before (free 72 ∷ []) (table_chunk ∷ []) after at
  r = written_replaces old mid before after at l.first

  written : HasNewTable mid (at + 8)
  written = written_new old mid before after at l.first

  d : Added mid new (at + 8) ms
  d = added mid new (at + 8) (second_adds old mid new before after at l)

  ds : List Chunk
  ds = d.chunks

  g : Table
  g = gained (at + 8)

  mid_start : area_start mid ≡ start
  mid_start = same_start old mid r.head

  starts : area_start new ≡ start
  starts = stays_start mid new d.head ∙ mid_start

  further : further_tables new ≡ further_tables old ++ g ∷ []
  further = d.further ∙ ap (λ (ts : List Table). ts ++ g ∷ []) r.head.further

  sizes : 72 + 0 ≡ 72 + 0
  sizes = refl

  -- what holds of some chunk, and of no free one nor a table of zeros
  there : (P : ℕ → Chunk → Type 0) → TellsNoTables P → ((n : ℕ) → P n (free 72) → ⊥)
      → AnyPlaced P start cs → AnyPlaced P (area_start new) ds
  there P kept none h =
      subst (λ (n : ℕ). AnyPlaced P n ds) (sym starts) (any_alike P kept start ms ds d.alike.alike
      (any_replaced P start before (free 72 ∷ []) (table_chunk ∷ []) after sizes (λ m.
      elim m [ inl own ↦ absurd (none (start + total before) own) | inr nothing ↦ absurd nothing ])
      h))

  back : (P : ℕ → Chunk → Type 0) → TellsNoTables P → ((n : ℕ) → P n table_chunk → ⊥)
      → AnyPlaced P (area_start new) ds → AnyPlaced P start cs
  back P kept none h =
      any_replaced P start before (table_chunk ∷ []) (free 72 ∷ []) after sizes (λ m.
      elim m [ inl own ↦ absurd (none (start + total before) own) | inr nothing ↦ absurd nothing ])
      (any_alike P kept start ds ms (alike_back ms ds d.alike.alike) (rw starts at h))

  slot_same : (slot : ℕ) → IsSlot old slot → u32_at new slot ≡ u32_at old slot
  slot_same slot s =
      let e : at + 72 ≡ at + (72 + 0) = omega arith in
      let wide : WroteWithin old mid at (at + (72 + 0)) = rw e at l.first.wrote in
      d.adds.same slot (slot_there old mid slot r.head s) ∙ wrote_slot old mid before
      (free 72 ∷ []) after at slot old_heap.tiles tt l.first.there wide s

  tied : Tied new ds
  tied slot place positive = (
    λ s. elim (stands_split (slots_of mid) _ slot (rw d.adds.slots at s.0.listed)) [
      | inl was ↦
          let o : IsSlot old slot = slot_back old mid slot r.head record { listed = was } in
          there (BodyHere slot place) (body_tells slot place) (λ n f. f)
          ((old_heap.tied slot place positive).0 (o, sym (slot_same slot o) ∙ s.1))
      | inr row ↦
          let none =
          standing (λ n. u32_at new n ≡ 0) (gained_slots (at + 8)) slot d.adds.empty row in
          let is = s.1 in
          absurd (omega arith)
    ],
    λ b.
        let t = (old_heap.tied slot place positive).1
        (back (BodyHere slot place) (body_tells slot place) (λ n f. f) b) in (
          record {
            listed = rw (← d.adds.slots) at (stands_left (slots_of mid) (gained_slots (at + 8)) slot
                (slot_there old mid slot r.head t.0).listed);
          },
          slot_same slot t.0 ∙ t.1,
        ),
  )

  more : ℕ → Chunk → Type 0
  more = IsKnownIfFixed (further_tables old ++ g ∷ [])

  known : EveryPlaced more start ms
  known =
      let is = l.first.there in
      let owners = EveryPlaced-split _ start before (free 72 ∷ after) old_heap.fixed_are_known in
      EveryPlaced-append more start before _ (known_more _ g start before owners.0) (
        (
          omega arith,
          inr (subst (λ n. IsTablePlace (further_tables old ++ g ∷ []) n) (let e : at + 8
              ≡ start + total before + 8 = omega arith in e) (last_known (further_tables old) g)),
        ),
        known_more (further_tables old) g (start + total before + 72) after owners.1.1,
      )

  directory : directory_of new ≡ directory_of old
  directory = stays_directory mid new d.head ∙ same_directory old mid r.head

  heap : IsHeap new ds
  heap = record {
    tiles = d.tiles;
    tied = tied;
    fixed_are_known = subst (λ n. EveryPlaced (IsKnownIfFixed (further_tables new)) n ds)
        (sym starts) (subst (λ ts. EveryPlaced (IsKnownIfFixed ts) start ds) (sym further)
        (every_alike more (known_tells _) start ms ds d.alike.alike known));
    directory = elim old_heap.directory [
      | inl none ↦ inl (directory ∙ none)
      | inr m ↦ inr (rw (← directory) at (there (ManagersHere (directory_of old))
          (managers_tells (directory_of old)) (λ n f. f) m))
    ];
  }

  gains : GainsTable old new (at + 8)
  gains = record {
    accepted = (ds, heap);
    len = d.head.len ∙ r.head.len;
    directory = directory;
    chained = stays_chained mid new d.head ∙ ap (λ t. t.chained) (head_tables old mid r.head);
    count = stays_count mid new d.head ∙ ap (λ (t : Tables). t.count) (head_tables old mid r.head);
    further = further;
    empty = d.adds.empty;
  }

  map : (name : ℕ) → held new name ≡ held old name
  map name =
      held-is new ds name heap
      ∙ ap (λ (n : ℕ). live_under n ds name) starts
      ∙ live_alike start ms ds name d.alike.alike
      ∙ live_replaced start before (free 72 ∷ []) (table_chunk ∷ []) after name sizes (live_table
      (start + total before) (replicate 64 0) [] name)
      ∙ sym (held-is old cs name old_heap)

  places : (name : ℕ) → place_of new name ≡ place_of old name
  places name =
      reads_place new ds start name heap starts
      ∙ place_alike start ms ds name d.alike.alike
      ∙ place_replaced start before (free 72 ∷ []) (table_chunk ∷ []) after name sizes (place_table
      (start + total before) (replicate 64 0) [] name)
      ∙ sym (reads_place old cs start name old_heap refl)

-- ---- how many slots are free then

count_row : (f : ℕ → Bool) (xs : List ℕ) → EveryOne (λ x. f x ≡ true) xs → count_by f xs ≡ length xs
count_row f [] e = refl
count_row f (x ∷ xs) e =
    let all = sum_by-cons (λ (y : ℕ). cond {A = ℕ} (f y) 1 0) x xs in
    let here : cond {A = ℕ} (f x) 1 0 ≡ 1 = cond-true (f x) 1 0 e.0 in
    let rest = count_row f xs e.1 in
    omega arith

-- a table that came, where each name stands for what it stood for, has 15
pub gains_free : (old new : List ℕ) (place : ℕ) → HeapAccepted old → GainsTable old new place
    → ((name : ℕ) → held new name ≡ held old name) → free_slots new ≡ free_slots old + 15
gains_free old new place h g same =
    let row : List ℕ = gained_slots place in
    let slots : slots_of new ≡ slots_of old ++ row = slots_more old new place g.count g.further in
    let nothing : ℕ → Bool = λ slot. is_none (held new slot) in
    let parts = sum_by-append (λ slot. cond (nothing slot) 1 0) (slots_of old) row in
    let first : count_by nothing (slots_of old)
    ≡ count_by (λ slot. is_none (held old slot)) (slots_of old) =
    count_alike nothing (λ slot. is_none (held old slot)) (slots_of old) (every_slot (λ slot.
    is_none (held new slot) ≡ is_none (held old slot)) old (λ slot s. ap is_none (same slot))) in
    let second = count_row nothing row (every_standing (λ slot. is_none (held new slot) ≡ true) row
    (λ slot s. ap is_none ((slot_unheld new slot g.accepted
    record { listed = rw (← slots) at (stands_right (slots_of old) row slot s) }).0
    (standing (λ n. u32_at new n ≡ 0) row slot g.empty s)))) in
    let long = length-slots_in_row (place + 4) 15 in
    let all = ap (count_by nothing) slots in
    let now = free_slots_held new g.accepted in
    let was = free_slots_held old h in
    omega (arith, now, all, parts, first, second, long, was)

-- each slot of the old image is one of the new
pub gains_slot : (old new : List ℕ) (place slot : ℕ) → GainsTable old new place → IsSlot old slot
    → IsSlot new slot
gains_slot old new place slot g s = record {
  listed = rw (← (slots_more old new place g.count g.further)) at (stands_left (slots_of old)
      (gained_slots place) slot s.listed);
}

-- ---- with steps that keep the layout

same_held : (old new : List ℕ) (name : ℕ) → Becomes old new (chunks_of old)
    → held new name ≡ held old name
unfolding held
same_held old new name b = becomes_held old new (chunks_of old) name b

same_placed : (old new : List ℕ) (name : ℕ) → Becomes old new (chunks_of old)
    → place_of new name ≡ place_of old name
same_placed old new name b = becomes_place old new (chunks_of old) name b

-- where the frame was the same before
pub gains_after : (old mid new : List ℕ) (place : ℕ) → SameFrame old mid → GainsTable mid new place
    → GainsTable old new place
gains_after old mid new place f g = record {
  accepted = g.accepted;
  len = g.len ∙ f.len;
  directory = g.directory ∙ f.directory;
  chained = g.chained ∙ ap (λ (t : Tables). t.chained) f.tables;
  count = g.count ∙ ap (λ (t : Tables). t.count) f.tables;
  further = g.further ∙ ap (λ (t : Tables). t.further ++ gained place ∷ []) f.tables;
  empty = g.empty;
}

-- and the layout
pub puts_after : (old mid new : List ℕ) (place : ℕ) → Becomes old mid (chunks_of old)
    → PutsTable mid new place → PutsTable old new place
puts_after old mid new place b p =
    record {
      gains = gains_after old mid new place b.frame p.gains;
      map = λ name. p.map name ∙ same_held old mid name b;
      places = λ name. p.places name ∙ same_placed old mid name b;
    }

-- and where it is the same afterwards
pub puts_before : (old mid new : List ℕ) (place : ℕ) → PutsTable old mid place
    → Becomes mid new (chunks_of mid) → PutsTable old new place
puts_before old mid new place p b =
    let g = p.gains in
    let f = b.frame in
    let slots = slots_more old mid place g.count g.further in
    record {
      gains = record {
        accepted = f.accepted;
        len = f.len ∙ g.len;
        directory = f.directory ∙ g.directory;
        chained = ap (λ (t : Tables). t.chained) f.tables ∙ g.chained;
        count = ap (λ (t : Tables). t.count) f.tables ∙ g.count;
        further = ap (λ (t : Tables). t.further) f.tables ∙ g.further;
        empty = every_standing (λ slot. u32_at new slot ≡ 0) (gained_slots place) (λ slot s.
            same_slots mid new slot g.accepted b record {
              listed = rw (← slots) at (stands_right (slots_of old) (gained_slots place) slot s);
            }
            ∙ standing (λ n. u32_at mid n ≡ 0) (gained_slots place) slot g.empty s);
      };
      map = λ name. same_held mid new name b ∙ p.map name;
      places = λ name. same_placed mid new name b ∙ p.places name;
    }
