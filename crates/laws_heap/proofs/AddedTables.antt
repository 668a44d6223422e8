-- A table of empty slots that stands apart from the chain is added to it: its place is written into
-- the last word `next`.
use Rattle.laws_heap.proofs.Words.{true, cond, ◌≡◌, ◌≢◌, ℕ, ◌+◌, ◌-◌, ◌*◌, ◌%◌, ◌<◌, ◌≤◌, List, [], ◌∷◌, ◌++◌, length, slice_index, take, drop, replicate, refl, sym, ap, subst, ◌∙◌, arith, inl, inr, append_assoc, length-append, cases_lt, append-nil, get_or-take, get_or-drop, ◌⊎◌, ◌==◌, u32_at, u32_bytes, overwritten, Chunk, free, movable, fixed, size_of, total, SpelledAll, AnyPlaced, Table, slot_count, table_end, head_end, area_start, aligned, is_chained, behind_table, first_next, further_tables, tables_within, slots_in_row, slots_further, slots_of, StandsIn, IsSlot, IsHead, TableHere, IsChain, IsTablePlace, Tiles, directory_of, gained, gained_slots, last_in, last_next, HasNewTable, AddsSlots}
use Rattle.std.specs.Prelude.{Bool}
use Rattle.laws_heap.proofs.Frames.{SameBetween, u16_at-same, u32_at-same, u32_at-zeros, u32_at-written, slice_index-zeros}
use Rattle.laws_heap.proofs.Chunks.{SpelledAll-end, spells_same}
use Rattle.laws_heap.proofs.Placed.{AnyPlaced-map}
use Rattle.laws_heap.proofs.Slots.{every_standing, row_slot, HoldsSlot, table_holds, held_within, holder_low, holder_high, slot_lies, slot_facts}
use Rattle.laws_heap.proofs.Tables.{chained_behind}
use Rattle.laws_heap.proofs.Replacements.{padded}
use Rattle.laws_heap.proofs.Writes.{WroteWithin, wrote_word, wrote_apart, wrote_word_apart}
use Rattle.laws_heap.proofs.SlotNumbers.{some_place}
use Rattle.laws_heap.proofs.FreeCounts.{table_low}
use Rattle.laws_heap.proofs.AlikeTables.{any_alike, table_tells}
use Rattle.laws_heap.proofs.ChainReads.{TableLies, table_lies, chain_read, tables_few, last_none, ChainTable, last_there}
use Rattle.laws_heap.proofs.Relinked.{SpellsAlike, spells_alike, Relinks, relinked}

-- its place was written there
pub record AddsTable (old new : List ℕ) (place : ℕ) : Type 0 where
  pub chained : is_chained old ≡ true
  pub fresh : HasNewTable old place
  pub word : new ≡ overwritten old (last_next old) (u32_bytes place)

-- ---- words that are zero

zero_byte : (image : List ℕ) (a n j : ℕ) → take n (drop a image) ≡ replicate n 0 → a ≤ j → j < a + n
    → slice_index image j ≡ 0
zero_byte image a n j e low high =
    let k : ℕ = j - a in
    let there : a + k ≡ j = omega arith in
    ap (slice_index image) (sym there) ∙ sym (get_or-drop a image k 0)
    ∙ sym (get_or-take n (drop a image) k 0 (omega arith)) ∙ ap (λ xs. slice_index xs k) e
    ∙ slice_index-zeros n k

zero_word : (image : List ℕ) (a n at : ℕ) → take n (drop a image) ≡ replicate n 0 → a ≤ at
    → at + 4 ≤ a + n → u32_at image at ≡ 0
zero_word image a n at e low high = u32_at-same at image (replicate 0 0) a (a + n)
    (record { same = λ j l h. zero_byte image a n j e l h ∙ sym (slice_index-zeros 0 j) }) low high
    ∙ u32_at-zeros at 0

-- ---- where the last word `next` is

-- after the first table, or before the slots of a further one, which isn't the new one
pub record LastLies (image : List ℕ) (cs : List Chunk) (word : ℕ) : Type 0 where
  pub low : 20 ≤ word
  pub inside : word + 4 ≤ length image
  pub whole : word % 4 ≡ 0
  pub head : (word ≡ table_end image) ⊎ ChainTable image cs (further_tables image) word
  pub where_it : (word ≡ table_end image) ⊎ (area_start image + 8 ≤ word)

pub last_lies : (image : List ℕ) (cs : List Chunk) → is_chained image ≡ true → Tiles image cs
    → LastLies image cs (last_next image)
last_lies image cs chained t = by _ (last_there image cs (table_end image) _ _ t.chain) where
  by : (word : ℕ) → (word ≡ table_end image) ⊎ ChainTable image cs (further_tables image) word
      → LastLies image cs word
  by word is =
      let four = chained_behind image chained in
      let fits = t.head.a_chunk_fits in
      let some = t.head.some_slot in
      elim is [
        | inl here ↦ record {
          low = omega arith;
          inside = omega (arith, four, here, fits);
          whole = omega arith;
          head = inl here;
          where_it = inl here;
        }
        | inr l ↦
            let r = table_lies image _ (length image) l.table cs t.area (omega arith) l.there in
            let place = l.place in
            let low = r.low in let high = r.high in let whole = r.whole in
            record {
              low = omega arith;
              inside = omega arith;
              whole = omega arith;
              head = inr l;
              where_it = inr (omega arith);
            }
      ]

pub wrote_last : (old new : List ℕ) (place : ℕ) → AddsTable old new place
    → WroteWithin old new (last_next old) (last_next old + 4)
wrote_last old new place a = wrote_word old new (last_next old) place a.word
    (last_lies old a.fresh.chunks a.chained a.fresh.tiles).inside

-- ---- words next to it

-- a slot of a table among chunks lies within the image
holder_inside : (image : List ℕ) (slot at end : ℕ) (cs : List Chunk) → SpelledAll image at cs end
    → AnyPlaced (HoldsSlot slot) at cs → slot + 4 ≤ end
holder_inside image slot at end cs s h =
    let high = holder_high slot at cs h in
    let ends = SpelledAll-end image at cs end s in
    omega arith

-- a slot and the word `next` of a table have no byte in common
holders_apart : (table : Table) (slot at : ℕ) (cs : List Chunk) → AnyPlaced (TableHere table) at cs
    → AnyPlaced (HoldsSlot slot) at cs → (slot + 4 ≤ table.place) ⊎ (table.place + 4 ≤ slot)
holders_apart table slot at [] t s = absurd t
holders_apart table slot at (c ∷ cs) t s =
    by_table t s (holders_apart table slot (at + size_of c) cs) where
      here : (d : Chunk) → TableHere table at d → table.place ≡ at + 8
      here (free size) own = absurd own
      here (movable bytes lock owner named) own = absurd own
      here (fixed bytes owner) own = sym own.1

      by_table : AnyPlaced (TableHere table) at (c ∷ cs) → AnyPlaced (HoldsSlot slot) at (c ∷ cs)
          → (AnyPlaced (TableHere table) (at + size_of c) cs → AnyPlaced (HoldsSlot slot)
          (at + size_of c) cs → (slot + 4 ≤ table.place) ⊎ (table.place + 4 ≤ slot))
          → (slot + 4 ≤ table.place) ⊎ (table.place + 4 ≤ slot)
      by_table (inl own) (inl mine) rest =
          let low = (held_within slot at c mine).0 in let place = here c own in
          inr (omega arith)
      by_table (inl own) (inr later) rest =
          let low = holder_low slot (at + size_of c) cs later in let place = here c own in
          inr (omega arith)
      by_table (inr behind) (inl mine) rest =
          let high = (held_within slot at c mine).1 in
          let low = table_low table (at + size_of c) cs behind in
          inl (omega arith)
      by_table (inr behind) (inr later) rest = rest behind later

-- nor have a slot that a table among the chunks has and the last word
held_beside : (old new : List ℕ) (place slot : ℕ) → (a : AddsTable old new place)
    → AnyPlaced (HoldsSlot slot) (area_start old) a.fresh.chunks
    → (slot + 4 ≤ last_next old) ⊎ (last_next old + 4 ≤ slot)
held_beside old new place slot a h =
    let cs : List Chunk = a.fresh.chunks in
    let four = chained_behind old a.chained in
    elim (last_lies old cs a.chained a.fresh.tiles).head [
      | inl is ↦ let low = holder_low slot _ cs h in inr (omega (arith, is, four, low))
      | inr l ↦
          let place = l.place in
          elim (holders_apart l.table slot (area_start old) cs l.there h) [
            | inl below ↦ inl (omega arith)
            | inr above ↦ inr (omega arith)
          ]
    ]

beside_same : (old new : List ℕ) (place slot : ℕ) → AddsTable old new place
    → (slot + 4 ≤ last_next old) ⊎ (last_next old + 4 ≤ slot) → slot + 4 ≤ length old
    → u32_at new slot ≡ u32_at old slot
beside_same old new place slot a beside inside =
    wrote_word_apart old new (last_next old) (last_next old + 4) slot (wrote_last old new place a)
    (elim beside [ inl below ↦ inl below | inr above ↦ inr (above, inside) ])

-- each slot has the word that it had
pub added_same : (old new : List ℕ) (place slot : ℕ) → AddsTable old new place → IsSlot old slot
    → u32_at new slot ≡ u32_at old slot
added_same old new place slot a s =
    let cs : List Chunk = a.fresh.chunks in
    let facts = slot_facts old cs slot a.fresh.tiles s in
    let beside : (slot + 4 ≤ last_next old) ⊎ (last_next old + 4 ≤ slot) =
    elim (slot_lies old cs slot a.fresh.tiles s) [
      | inl first ↦
          let high = first.high in
          elim (last_lies old cs a.chained a.fresh.tiles).where_it [
            | inl is ↦ inl (omega (arith, is, high))
            | inr far ↦ inl (omega arith)
          ]
      | inr further ↦ held_beside old new place slot a further
    ] in
    beside_same old new place slot a beside facts.inside

-- and each slot of the new table is empty
pub added_empty : (old new : List ℕ) (place slot : ℕ) → AddsTable old new place
    → StandsIn (gained_slots place) slot → u32_at new slot ≡ 0
added_empty old new place slot a s =
    let cs : List Chunk = a.fresh.chunks in
    let r = row_slot (place + 4) 15 slot s in
    let few = r.1 in
    let is = r.2 in
    let lies = table_lies old (area_start old) (length old) (gained place) cs a.fresh.tiles.area
    (omega arith) a.fresh.there in
    let h = AnyPlaced-map (TableHere (gained place)) (HoldsSlot slot)
    (table_holds (gained place) slot r.0 few is) (area_start old) cs a.fresh.there in
    let high = holder_inside old slot (area_start old) (length old) cs a.fresh.tiles.area h in
    let size : place + 64 - place ≡ 64 = omega arith in
    beside_same old new place slot a (held_beside old new place slot a h) high
    ∙ zero_word old place 64 slot (rw size at a.fresh.zeros) (omega arith) (omega arith)

-- ---- the chunks

-- they are spelled again, but for the bytes of a table
pub relaid : (old new : List ℕ) (place : ℕ) → (a : AddsTable old new place)
    → Relinks old new (area_start old) a.fresh.chunks
relaid old new place a = by (last_lies old cs a.chained a.fresh.tiles).head where
  cs : List Chunk
  cs = a.fresh.chunks

  w : WroteWithin old new (last_next old) (last_next old + 4)
  w = wrote_last old new place a

  ends : length old ≡ area_start old + total cs
  ends = SpelledAll-end old (area_start old) cs (length old) a.fresh.tiles.area

  spelled : SpelledAll old (area_start old) cs (area_start old + total cs)
  spelled = subst (λ (n : ℕ). SpelledAll old (area_start old) cs n) ends a.fresh.tiles.area

  by : (last_next old ≡ table_end old) ⊎ ChainTable old cs (further_tables old) (last_next old)
      → Relinks old new (area_start old) cs
  by (inl is) =
      let four = chained_behind old a.chained in
      let same = wrote_apart old new (last_next old) (last_next old + 4) (area_start old)
      (area_start old + total cs) w (inr (omega (arith, is, four), omega (arith, ends))) in
      record {
        chunks = cs;
        alike = spells_alike old new (area_start old) cs
            (spells_same old new (area_start old) cs same w.len spelled);
      }
  by (inr l) = relinked old new _ (last_next old) l.table cs l.place w spelled l.there

-- ---- the head

-- the words before the chunks are as they were, slots and the first word `next` aside
pub record HeadStays (old new : List ℕ) : Type 0 where
  pub len : length new ≡ length old
  pub words : SameBetween 0 16 old new
  pub padding : SameBetween (head_end old) (area_start old) old new

pub added_head : (old new : List ℕ) (place : ℕ) → AddsTable old new place → HeadStays old new
added_head old new place a =
    let w = wrote_last old new place a in
    let q = last_lies old a.fresh.chunks a.chained a.fresh.tiles in
    let low = q.low in
    let four = chained_behind old a.chained in
    let fits = a.fresh.tiles.head.a_chunk_fits in
    record {
      len = w.len;
      words = wrote_apart old new (last_next old) (last_next old + 4) 0 16 w (inl (omega arith));
      padding = wrote_apart old new (last_next old) (last_next old + 4) (head_end old)
          (area_start old) w (elim q.where_it [
            | inl is ↦ inr (omega (arith, is, four), omega arith)
            | inr high ↦ inl (omega arith)
          ]);
    }

pub stays_magic : (old new : List ℕ) → HeadStays old new → u32_at new 0 ≡ u32_at old 0
stays_magic old new h = sym (u32_at-same 0 old new 0 16 h.words (omega arith) (omega arith))

pub stays_count : (old new : List ℕ) → HeadStays old new → slot_count new ≡ slot_count old
stays_count old new h = sym (u16_at-same 8 old new 0 16 h.words (omega arith) (omega arith))

stays_end : (old new : List ℕ) → HeadStays old new → head_end new ≡ head_end old
stays_end old new h =
    ap (λ m. 16 + 4 * slot_count new + cond (m == 0x50484932) 4 0) (stays_magic old new h)
    ∙ ap (λ (n : ℕ). 16 + 4 * n + behind_table old) (stays_count old new h)

pub stays_start : (old new : List ℕ) → HeadStays old new → area_start new ≡ area_start old
stays_start old new h = ap aligned (stays_end old new h)

pub stays_chained : (old new : List ℕ) → HeadStays old new → is_chained new ≡ is_chained old
stays_chained old new h = ap (λ (m : ℕ). m == 0x50484932) (stays_magic old new h)

pub stays_directory : (old new : List ℕ) → HeadStays old new → directory_of new ≡ directory_of old
stays_directory old new h = sym (u32_at-same 12 old new 0 16 h.words (omega arith) (omega arith))

head_as : (old new : List ℕ) → HeadStays old new → IsHead old → IsHead new
head_as old new same h =
    let len = same.len in
    let count = stays_count old new same in
    let magic = stays_magic old new same in
    let ends = stays_end old new same in
    let start = stays_start old new same in
    let some = h.some_slot in
    let fits = h.a_chunk_fits in
    record {
      magic_is =
          elim h.magic_is [ inl one ↦ inl (magic ∙ one) | inr chained ↦ inr (magic ∙ chained) ];
      size_is = sym (u32_at-same 4 old new 0 16 same.words (omega arith) (omega arith)) ∙ h.size_is
          ∙ sym len;
      least = rw len h.least;
      most = rw len h.most;
      whole = rw len h.whole;
      some_slot = omega (arith, count, some);
      a_chunk_fits = omega (arith, start, len, fits);
      reserved =
          sym (u16_at-same 10 old new 0 16 same.words (omega arith) (omega arith)) ∙ h.reserved;
      padding = λ ne.
          let there : head_end old ≢ area_start old = λ e. ne (ends ∙ e ∙ sym start) in
          ap (u32_at new) ends ∙ sym (u32_at-same (head_end old) old new (head_end old)
          (area_start old) same.padding (omega arith) (padded old there)) ∙ h.padding there;
    }

-- ---- the chain

-- where a table's word `next` is
abbrev NextLies : List ℕ → List Chunk → Type 0
NextLies image cs = (table : Table) → AnyPlaced (TableHere table) (area_start image) cs
    → (table.place % 4 ≡ 0) × (table.place + 4 ≤ length image)

gains_chain : (old new : List ℕ) (cs ds : List Chunk) (g : Table) (last word : ℕ)
    (tables : List Table) → IsChain old cs (u32_at old word) tables → last ≡ last_in word tables
    → last % 4 ≡ 0 → WroteWithin old new last (last + 4) → u32_at new last ≡ g.place → word % 4 ≡ 0
    → word + 4 ≤ length old → NextLies old cs
    → ((table : Table) → AnyPlaced (TableHere table) (area_start old) cs
    → AnyPlaced (TableHere table) (area_start new) ds) → AnyPlaced (TableHere g) (area_start new) ds
    → u32_at new g.place ≡ 0 → IsChain new ds (u32_at new word) (tables ++ g ∷ [])
gains_chain old new cs ds g last word [] chain is four w now whole inside lies stand here none =
    (rw is at now, here, none)
gains_chain old new cs ds g last word
    (t ∷ tables) chain is four w now whole inside lies stand here none =
    let low = some_place old t (area_start old) cs chain.1 in
    let empty = ap (u32_at old) is ∙ last_none old cs word (t ∷ tables) chain in
    let apart : word ≢ last =
    λ e. (let used : u32_at old last ≡ t.place = rw e at chain.0 in omega arith) in
    let beside : (word + 4 ≤ last) ⊎ ((last + 4 ≤ word) × (word + 4 ≤ length old)) =
    elim (cases_lt word last) [
      | inl below ↦ inl (omega arith)
      | inr above ↦ inr (omega arith, inside)
    ] in
    let k = lies t chain.1 in (
      wrote_word_apart old new last (last + 4) word w beside ∙ chain.0,
      stand t chain.1,
      gains_chain old new cs ds g last t.place tables chain.2 is four w now k.0 k.1 lies stand here
          none,
    )

table_at_end : (image : List ℕ) → is_chained image ≡ true
    → first_next image ≡ u32_at image (table_end image)
table_at_end image is = ap (λ (b : Bool). cond b (u32_at image (table_end image)) 0) is

further_with : (image : List ℕ)
    → further_tables image ≡ tables_within (length image) image (first_next image)
unfolding further_tables
further_with image = refl

-- ---- the slots

slots_gained : (tables : List Table) (place : ℕ)
    → slots_further (tables ++ gained place ∷ []) ≡ slots_further tables ++ gained_slots place
slots_gained [] place = append-nil (gained_slots place)
slots_gained (t ∷ tables) place =
    ap (λ xs. slots_in_row (t.place + 4) t.count ++ xs) (slots_gained tables place) ∙ sym
    (append_assoc (slots_in_row (t.place + 4) t.count) (slots_further tables) (gained_slots place))

-- after a table was added: those of the old image, then the new ones
pub slots_more : (old new : List ℕ) (place : ℕ) → slot_count new ≡ slot_count old
    → further_tables new ≡ further_tables old ++ gained place ∷ []
    → slots_of new ≡ slots_of old ++ gained_slots place
unfolding slots_of
slots_more old new place count further =
    ap (λ (n : ℕ). slots_in_row 16 n ++ slots_further (further_tables new)) count
    ∙ ap (λ (ts : List Table). slots_in_row 16 (slot_count old) ++ slots_further ts) further
    ∙ ap (λ xs. slots_in_row 16 (slot_count old) ++ xs) (slots_gained (further_tables old) place)
    ∙ sym (append_assoc (slots_in_row 16 (slot_count old)) (slots_further (further_tables old))
    (gained_slots place))

-- ---- together

-- What the write leaves: the chunks, of which tables may have other bytes, and one table more.
pub record Added (old new : List ℕ) (place : ℕ) (cs : List Chunk) : Type 0 where
  pub head : HeadStays old new
  pub chunks : List Chunk
  pub alike : SpellsAlike old new (area_start old) cs chunks
  pub tiles : Tiles new chunks
  pub further : further_tables new ≡ further_tables old ++ gained place ∷ []
  pub adds : AddsSlots old new place

pub added : (old new : List ℕ) (place : ℕ) → (a : AddsTable old new place)
    → Added old new place a.fresh.chunks
added old new place a = record {
  head = h;
  chunks = ds;
  alike = r.alike;
  tiles = tiles;
  further = further;
  adds = adds;
} where
  cs : List Chunk
  cs = a.fresh.chunks

  start : ℕ
  start = area_start old

  t : Tiles old cs
  t = a.fresh.tiles

  r : Relinks old new start cs
  r = relaid old new place a

  ds : List Chunk
  ds = r.chunks

  g : Table
  g = gained place

  tables : List Table
  tables = further_tables old ++ g ∷ []

  h : HeadStays old new
  h = added_head old new place a

  q : LastLies old cs (last_next old)
  q = last_lies old cs a.chained t

  w : WroteWithin old new (last_next old) (last_next old + 4)
  w = wrote_last old new place a

  starts : area_start new ≡ start
  starts = stays_start old new h

  ends : length old ≡ start + total cs
  ends = SpelledAll-end old start cs (length old) t.area

  area : SpelledAll new (area_start new) ds (length new)
  area = rw (← starts) at (rw (sym ends ∙ sym w.len) at r.alike.spelled)

  lies : TableLies start (length old) place
  lies = table_lies old start (length old) g cs t.area (omega arith) a.fresh.there

  few : length tables ≤ length new
  few =
      let old_few = tables_few old cs t in
      let one = length-append (further_tables old) (g ∷ []) in
      let same = h.len in
      omega arith

  now : u32_at new (last_next old) ≡ place
  now =
      let end = q.inside in
      let most = t.head.most in
      let high = lies.high in
      ap (λ x. u32_at x (last_next old)) a.word ∙ u32_at-written place _ old end (omega arith)

  -- the last word isn't that of the new table
  other : last_next old ≢ place
  other e = elim q.head [
    | inl is ↦ let low = lies.low in omega (arith, is, e)
    | inr l ↦ a.fresh.apart (subst (λ (k : ℕ). IsTablePlace (further_tables old) k) e l.listed)
  ]

  none : u32_at new place ≡ 0
  none =
      let whole = lies.whole in
      let four = q.whole in
      let high = lies.high in
      let size : place + 64 - place ≡ 64 = omega arith in
      let beside : (place + 4 ≤ last_next old) ⊎ (last_next old + 4 ≤ place) =
      elim (cases_lt place (last_next old)) [
        | inl below ↦ inl (omega arith)
        | inr above ↦ inr (omega (arith, above, other))
      ] in
      beside_same old new place place a beside (omega arith)
      ∙ zero_word old place 64 place (rw size at a.fresh.zeros) (omega arith) (omega arith)

  stand : (table : Table) → AnyPlaced (TableHere table) start cs
      → AnyPlaced (TableHere table) (area_start new) ds
  stand table f = rw (← starts) at (any_alike _ (table_tells table) start cs ds r.alike.alike f)

  next_lies : NextLies old cs
  next_lies table f =
      let l = table_lies old start (length old) table cs t.area (omega arith) f in
      let whole = l.whole in
      let high = l.high in
      (omega arith, omega arith)

  chain : IsChain new ds (first_next new) tables
  chain =
      let end : table_end new ≡ table_end old = ap (λ n. 16 + 4 * n) (stays_count old new h) in
      let first_old : IsChain old cs (u32_at old (table_end old)) (further_tables old) =
      rw (table_at_end old a.chained) at t.chain in
      let four = chained_behind old a.chained in
      let fits = t.head.a_chunk_fits in
      subst (λ n. IsChain new ds n tables)
      (sym (table_at_end new (stays_chained old new h ∙ a.chained) ∙ ap (u32_at new) end))
      (gains_chain old new cs ds g (last_next old) (table_end old)
      (further_tables old) first_old refl q.whole w now (omega arith)
      (omega (arith, four, fits)) next_lies stand (stand g a.fresh.there) none)

  further : further_tables new ≡ tables
  further = further_with new ∙ chain_read new ds (length new) _ (length new) tables area chain few

  tiles : Tiles new ds
  tiles = record { head = head_as old new h t.head; area = area; chain = rw (← further) at chain }

  adds : AddsSlots old new place
  adds = record {
    tiled = (ds, tiles);
    slots = slots_more old new place (stays_count old new h) further;
    empty = every_standing (λ slot. u32_at new slot ≡ 0) (gained_slots place)
        (λ slot s. added_empty old new place slot a s);
    same = λ slot s. added_same old new place slot a s;
  }
