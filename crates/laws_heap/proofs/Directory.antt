-- The directory word is written: all else of the image is as it was.
use Rattle.laws_heap.proofs.Words.{◌≡◌, ℕ, ◌+◌, ◌<◌, ◌≤◌, ◌^◌, List, ◌∷◌, ◌++◌, length, Option, Some, None, refl, sym, ap, subst, ◌∙◌, arith, inl, inr, cases_eq, ◌⊎◌, u32_at, u32_bytes, overwritten, Chunk, free, movable, fixed, total, SpelledAll, managers_owner, directory_at, IsSlot, slot_count, slots_of, tables_of, further_tables, first_next, table_end, head_end, area_start, IsHead, IsChain, Tiles, Tied, ManagersHere, HasDirectory, directory_of, IsHeap, HeapAccepted, AnyPlaced, LiveChunk, NamedHere, chunks_of, held, live_under, Finds, merged, Becomes, IsSpot, IsFreeAt, WritesPlain, relocated, Relocates}
use Rattle.heap_model.specs.Store.{owner_of, owner_under}
use Rattle.heap_model.specs.Leaving.{NamesDirectory}
use Rattle.laws_heap.proofs.Frames.{SameBetween, SameBetween-within, u16_at-same, u32_at-same, u32_at-written}
use Rattle.laws_heap.proofs.Chunks.{SpelledAll-same, SpelledAll-end}
use Rattle.laws_heap.proofs.Slots.{slot_facts, same_slots, slot_alike, start_listed, ends_listed}
use Rattle.laws_heap.proofs.Tables.{SameChain, chained_behind, spelled_table, same_further, chain_stays, next_same}
use Rattle.laws_heap.proofs.Replacements.{tables_alike}
use Rattle.laws_heap.proofs.Runs.{chunks_of-tiled}
use Rattle.laws_heap.proofs.Placed.{AnyPlaced-mid, SpelledAll-takes}
use Rattle.laws_heap.proofs.FixedNames.{fixed_live_is, fixed_owned}
use Rattle.laws_heap.proofs.FoundChunks.{read_heap, held_finds}
use Rattle.laws_heap.proofs.Plain.{free_inside}
use Rattle.laws_heap.proofs.OwnedChunks.{not_directory}
use Rattle.laws_heap.proofs.Writes.{WroteWithin, wrote_word, wrote_word_apart}

-- a chunk of the manager's has this name
is_managers : (image : List ℕ) (name : ℕ) → HeapAccepted image
    → owner_under image name ≡ managers_owner
    → AnyPlaced (ManagersHere name) (area_start image) (chunks_of image)
unfolding owner_under
is_managers image name h owned = by_held (held image name) refl owned where
  by_chunk : (live : LiveChunk) (at : ℕ) (chunk : Chunk) → live.owner ≡ managers_owner
      → NamedHere name live at chunk → ManagersHere name at chunk
  by_chunk live at (free size) none n = n
  by_chunk live at (movable bytes lock owner slot) none n = (n.0, ap (λ x. x.owner) n.1 ∙ none)
  by_chunk live at (fixed bytes owner) none n =
      let same : owner ≡ live.owner = ap (λ x. x.owner) (fixed_live_is at bytes owner n) in
      let some : 0 < owner = fixed_owned at bytes owner n in
      absurd (omega arith)

  by_found : (live : LiveChunk) (chunk : Chunk) (at : ℕ) → live.owner ≡ managers_owner
      → Finds image name live chunk at
      → AnyPlaced (ManagersHere name) (area_start image) (chunks_of image)
  by_found live chunk at none f =
      subst (λ cs. AnyPlaced (ManagersHere name) (area_start image) cs) (sym f.chunks)
      (AnyPlaced-mid (ManagersHere name) (area_start image) f.before chunk f.after
      (by_chunk live (area_start image + total f.before) chunk none (rw f.there at f.named)))

  by_held : (x : Option LiveChunk) → held image name ≡ x → owner_of x ≡ managers_owner
      → AnyPlaced (ManagersHere name) (area_start image) (chunks_of image)
  by_held None e none = absurd (omega (arith, none))
  by_held (Some live) e none =
      let k = held_finds image name live h e in
      by_found live k.chunk k.at none k.finds

-- the word is 0, or names a chunk of the manager's
abbrev pub MayBeDirectory : List ℕ → ℕ → Type 0
MayBeDirectory image word = (word ≡ 0) ⊎ (owner_under image word ≡ managers_owner)

pub directory_written : (old new : List ℕ) (word : ℕ) → HeapAccepted old
    → new ≡ overwritten old directory_at (u32_bytes word) → word < 2 ^ 32 → MayBeDirectory old word
    → NamesDirectory old new word × WritesPlain old new
unfolding held
directory_written old new word h is fits may = (
  record {
    accepted = (cs, heap_new);
    len = len;
    tables = tables;
    slots = slots;
    directory = named;
    map = map_same;
    chunks = chunks_same;
  },
  plain,
) where
  cs : List Chunk
  cs = chunks_of old

  heap : IsHeap old cs
  heap = read_heap old h

  inside : area_start old + 8 ≤ length old
  inside = heap.tiles.head.a_chunk_fits

  w : WroteWithin old new 12 16
  w = let fits_in = heap.tiles.head.a_chunk_fits in wrote_word old new 12 word is (omega arith)

  len : length new ≡ length old
  len = w.len

  count : slot_count new ≡ slot_count old
  count = sym (u16_at-same 8 old new 0 12 w.below (omega arith) (omega arith))

  magic : u32_at new 0 ≡ u32_at old 0
  magic = sym (u32_at-same 0 old new 0 12 w.below (omega arith) (omega arith))

  behind_head : (low : ℕ) → 16 ≤ low → SameBetween low (length old) old new
  behind_head low above =
      let e : length old ≤ length old = omega arith in
      SameBetween-within 16 (length old) low (length old) old new w.above above e

  behind : SameBetween (area_start old) (length old) old new
  behind = behind_head (area_start old) (omega arith)

  area_new : SpelledAll new (area_start old) cs (length old)
  area_new = SpelledAll-same old new (area_start old) cs (length old) behind len heap.tiles.area

  chain_words : SameChain old new cs
  chain_words table t = spelled_table old new table _ cs _ (length old) t heap.tiles.area area_new

  next : first_next new ≡ first_next old
  next = next_same old new magic count (λ is. let four = chained_behind old is in
      sym (u32_at-same (table_end old) old new (table_end old) (length old)
      (behind_head (table_end old) (omega arith)) (omega arith) (omega (arith, four, inside))))

  further : further_tables new ≡ further_tables old
  further = same_further old new cs heap.tiles len next chain_words

  tables : tables_of new ≡ tables_of old
  tables = tables_alike old new magic count further

  slots : slots_of new ≡ slots_of old
  slots = same_slots old new tables

  start : area_start new ≡ area_start old
  start = start_listed old new tables

  named : directory_of new ≡ word
  named = ap directory_of is ∙ u32_at-written word 12 old (omega (arith, inside)) fits

  head_new : IsHead new
  head_new =
      let head = heap.tiles.head in
      let some = head.some_slot in
      let ends : head_end new ≡ head_end old = ends_listed old new tables in
      record {
        magic_is = elim head.magic_is [
          | inl one ↦ inl (magic ∙ one)
          | inr chained ↦ inr (magic ∙ chained)
        ];
        size_is = sym (u32_at-same 4 old new 0 12 w.below (omega arith) (omega arith))
            ∙ head.size_is ∙ sym len;
        least = rw len head.least;
        most = rw len head.most;
        whole = rw len head.whole;
        some_slot = omega (arith, count, some);
        a_chunk_fits = omega (arith, start, len, inside);
        reserved =
            sym (u16_at-same 10 old new 0 12 w.below (omega arith) (omega arith)) ∙ head.reserved;
        padding = λ ne.
            ap (u32_at new) ends ∙ sym (u32_at-same (head_end old) old new 16 (length old) w.above
            (omega arith) (omega (arith, inside))) ∙ head.padding (λ e. ne (ends ∙ e ∙ sym start));
      }

  tiles_new : Tiles new cs
  tiles_new = record {
    head = head_new;
    area = rw (← start) at (rw (← len) at area_new);
    chain = subst (λ n. IsChain new cs n (further_tables new)) (sym next)
        (subst (λ ts. IsChain new cs (first_next old) ts) (sym further)
        (chain_stays old new cs cs (first_next old) (further_tables old) chain_words
        (λ table t. rw (← start) at t) heap.tiles.chain));
  }

  chunks_same : chunks_of new ≡ chunks_of old
  chunks_same = chunks_of-tiled new cs tiles_new

  map_same : (name : ℕ) → held new name ≡ held old name
  map_same name = ap (λ n. live_under n (chunks_of new) name) start
      ∙ ap (λ ds. live_under (area_start old) ds name) chunks_same

  slot_was : (slot : ℕ) → IsSlot new slot → IsSlot old slot
  slot_was slot s = slot_alike new old slot (sym slots) s

  slot_is : (slot : ℕ) → IsSlot old slot → IsSlot new slot
  slot_is slot s = slot_alike old new slot slots s

  slot_same : (slot : ℕ) → IsSlot old slot → u32_at new slot ≡ u32_at old slot
  slot_same slot s =
      let facts = slot_facts old cs slot heap.tiles s in
      wrote_word_apart old new 12 16 slot w (inr (facts.low, facts.inside))

  tied_new : Tied new cs
  tied_new slot place some = (
    λ s. rw (← start) at ((heap.tied slot place some).0
        (slot_was slot s.0, sym (slot_same slot (slot_was slot s.0)) ∙ s.1)),
    λ b. let s = (heap.tied slot place some).1 (rw start at b) in
        (slot_is slot s.0, slot_same slot s.0 ∙ s.1),
  )

  directory_new : HasDirectory new cs
  directory_new = elim may [
    | inl none ↦ inl (named ∙ none)
    | inr owned ↦ inr (rw (← named) at (rw (← start) at (is_managers old word h owned)))
  ]

  heap_new : IsHeap new cs
  heap_new = record {
    tiles = tiles_new;
    tied = tied_new;
    fixed_are_known = rw (← start) at (rw (← further) at heap.fixed_are_known);
    directory = directory_new;
  }

  plain : WritesPlain old new
  plain at begins =
      let was : AnyPlaced (IsFreeAt at) (area_start old) cs =
      rw chunks_same at (rw start at begins) in
      let f = free_inside at _ cs (SpelledAll-takes old _ cs (length old) heap.tiles.area) was in
      let low = f.0 in
      let high = f.1 in
      let end = SpelledAll-end old (area_start old) cs (length old) heap.tiles.area in
      inr (
        was,
        wrote_word_apart old new 12 16 at w (inr (omega (arith, low), omega (arith, high, end))),
      )

-- ---- where another directory is named

pub named_slots : (old new : List ℕ) (word : ℕ) → NamesDirectory old new word
    → slots_of new ≡ slots_of old
named_slots old new word n = n.slots

pub named_start : (old new : List ℕ) (word : ℕ) → NamesDirectory old new word
    → area_start new ≡ area_start old
named_start old new word n = start_listed old new n.tables

pub named_finds : (old new : List ℕ) (word name : ℕ) (live : LiveChunk) (chunk : Chunk) (at : ℕ)
    → NamesDirectory old new word → Finds old name live chunk at → Finds new name live chunk at
named_finds old new word name live chunk at n f = record {
  before = f.before;
  after = f.after;
  chunks = n.chunks ∙ f.chunks;
  there = f.there ∙ ap (λ k. k + total f.before) (sym (named_start old new word n));
  named = f.named;
}

pub named_spot : (old new : List ℕ) (word at size : ℕ) → NamesDirectory old new word
    → IsSpot old at size → IsSpot new at size
named_spot old new word at size n r = record {
  before = r.before;
  run = r.run;
  after = r.after;
  chunks = n.chunks ∙ r.chunks;
  all_free = r.all_free;
  there = r.there ∙ ap (λ (k : ℕ). k + total r.before) (sym (named_start old new word n));
  sums = r.sums;
}

-- the directory's chunk is the manager's
pub directory_owned : (image : List ℕ) (live : LiveChunk) → HeapAccepted image
    → held image (directory_of image) ≡ Some live → live.owner ≡ managers_owner
directory_owned image live h e = elim (cases_eq live.owner 0) [
  | inl none ↦ none
  | inr some ↦ absurd (not_directory image (directory_of image) live h e some refl)
]

-- what is done to the chunks while there is no directory, and the directory is named again
pub named_again : (old mid later new : List ℕ) (name : ℕ) (cs : List Chunk)
    → NamesDirectory old mid 0 → Becomes mid later cs → NamesDirectory later new name
    → name ≡ directory_of old → Becomes old new cs
named_again old mid later new name cs first b last is = record {
  frame = record {
    accepted = last.accepted;
    len = last.len ∙ b.frame.len ∙ first.len;
    tables = last.tables ∙ b.frame.tables ∙ first.tables;
    slots = last.slots ∙ b.frame.slots ∙ first.slots;
    directory = last.directory ∙ is;
  };
  layout = ap merged last.chunks ∙ b.layout;
}

pub relocated_again : (old mid later new : List ℕ) (name here there room : ℕ) (chunk : Chunk)
    → NamesDirectory old mid 0 → Relocates mid later here there room chunk
    → NamesDirectory later new name → name ≡ directory_of old
    → Relocates old new here there room chunk
unfolding named_spot
relocated_again old mid later new name here there room chunk first moved last is r =
    let spot : List Chunk = r.before ++ free room ∷ r.after in
    subst (λ cs. Becomes old new cs)
    (ap (λ n. relocated here there chunk n spot) (named_start old mid 0 first))
    (named_again old mid later new name (relocated here there chunk (area_start mid) spot) first
    (moved (named_spot old mid 0 there room first r)) last is)
