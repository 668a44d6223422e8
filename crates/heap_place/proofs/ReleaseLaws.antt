-- A live chunk of an accepted heap is made free.
use Rattle.heap_place.proofs.Words.{◌≡◌, ◌≢◌, ℕ, ◌+◌, ◌-◌, ◌%◌, ◌^◌, ◌<◌, ◌≤◌, List, [], ◌∷◌, ◌++◌, length, refl, sym, ap, subst, ◌∙◌, arith, inl, inr, u32_at, u32_bytes, overwritten, Chunk, need, free, movable, fixed, fixed_lock, size_of, total, Spelled, IsSlot, TablesLie, ManagersHere, directory_of, IsHeap, HeapAccepted, LiveChunk, NamedHere, Alters, HoldNoSlots, FreeUpTo, freed, WritesPlain, BeginsFree, HasLists, Any, ButAt, IsFreeChunk, KeepsFree, Pushes, Finds, u32_at-written, Spelled-size, Spelled-same, chunks_of, chunks_of-tiled, slot_facts, slot_beside, same_start, becomes_heap, finds_spelled, exchanges_parts, named_live_chunk, WroteWithin, wrote_none, wrote_word, wrote_wider, WroteArea, area_replaces, wrote_slot, area_slots, beside_same, beside_word, table_kept, free_plain, replaced_plain, OtherSlots, ClearsSlot, released, fixed_live_is, HasHeader, Found, IsOne, Emptied, Memory, HoldsHeap, IsWithin, slot_still_within, same_lock, apart, in_front, one, behind, size_field}
use Rattle.heap_place.proofs.WithinLaws.{named_apart}
use Rattle.heap_place.proofs.ListLaws.{lists_weaker, lists_kept, push_lists}
use Rattle.heap_place.proofs.KeepLaws.{NotAmong, keeps_replaced, live_apart, free_there}
use Rattle.chunk_format.specs.declared.header.Header.TheVariants as headers
use Rattle.heap_place.proofs.TakeLaws.{begun_chunk, chunk_inside}
use Rattle.heap_place.proofs.FoundLaws.{heap_in_parts, Middle, finds_middle, own_slot, no_slots, found_size}
use Rattle.heap_place.proofs.CutLaws.{has_free}

-- ---- the writes

-- a live chunk's header is written anew before its slot is emptied
module _ {old : List ℕ} {at name : ℕ} {live : LiveChunk} {chunk : Chunk} (h : HeapAccepted old) (f : Finds old name live chunk at) where
  standing : Middle old f.before (chunk ∷ []) f.after at
  standing = finds_middle h f

  heap_at : IsHeap old (f.before ++ chunk ∷ f.after)
  heap_at = heap_in_parts old (f.before ++ chunk ∷ f.after) h f.chunks

  least : 8 ≤ size_of chunk
  least = (Spelled-size old at chunk standing.spelled.0).0

  no_table : HoldNoSlots (chunk ∷ [])
  no_table = no_slots name live at chunk f.named

  first_word : {mid : List ℕ} (size : ℕ) → mid ≡ overwritten old at (u32_bytes (2 ^ 31 + size))
      → WroteWithin old mid at (at + total (chunk ∷ []))
  first_word {mid} size is =
      let fits = least in let inside = standing.inside in
      wrote_wider _ _ at _ at _ (wrote_word _ mid at _ is (omega arith)) (omega arith) (omega arith)

  -- its slot stays one
  slot_stays : {mid : List ℕ} (size : ℕ) → IsSlot old name
      → mid ≡ overwritten old at (u32_bytes (2 ^ 31 + size)) → TablesLie mid × IsSlot mid name
  slot_stays {mid} size own is = table_kept old mid f.before
      (chunk ∷ []) f.after at name heap_at.tiles no_table standing.there (first_word size is) own

-- the word that is written for the free chunk
first_is : (old : List ℕ) {mid : List ℕ} (at size : ℕ) → mid ≡ overwritten old at (u32_bytes (2 ^ 31 + size)) → at + 4 ≤ length old → size < 2 ^ 24 → u32_at mid at ≡ 2 ^ 31 + size
first_is old at size is inside small = ap (λ x. u32_at x at) is ∙ u32_at-written _ at old inside (omega arith)

-- the two writes: one among the chunks, and one to the slot
record Given (old new : List ℕ) (at size name : ℕ) (chunk : Chunk) : Type 0 where
  pub area : WroteArea old new at (at + total (chunk ∷ []))
  pub clears : ClearsSlot new chunk
  pub others : OtherSlots old new name
  pub spelled : Spelled new at (free size)
  pub word : u32_at new at ≡ 2 ^ 31 + size

given : {old mid : List ℕ} (new : List ℕ) {at : ℕ} (size : ℕ) {name : ℕ} {live : LiveChunk} (chunk : Chunk) → HeapAccepted old → Finds old name live chunk at → size ≡ size_of chunk
    → mid ≡ overwritten old at (u32_bytes (2 ^ 31 + size)) → HasHeader mid at (headers.Free size)
    → Emptied mid chunk new → Given old new at size name chunk
given new size (free n) h f takes is header emptied = absurd f.named
given {old} {mid} new {at} size {name} {live} (movable bytes lock owner slot) h f takes is header emptied =
    let c : Chunk = movable bytes lock owner slot in let m = standing h f in
    let fits = least h f in let inside = m.inside in let most = m.most in
    let s = own_slot old name at live bytes lock owner slot h f in
    let slot_inside = (slot_facts old _ slot h.1.tiles s).inside in
    let beside = slot_beside old _ (c ∷ []) f.after at slot (heap_at h f).tiles tt m.there s in
    let first = first_word h f size is in let len = first.len in
    let word = wrote_word mid new slot 0 emptied (omega arith) in
    let area : WroteArea old new at (at + total (c ∷ [])) = record { mid = mid; slot = slot; area = first; word = word; is_slot = inr s; there = let there = m.there in omega arith; fits = omega arith } in
    record {
      area = area;
      clears = ap (λ x. u32_at x slot) emptied ∙ u32_at-written 0 _ mid (omega arith) (omega arith);
      others = record { same = λ t ts ne. area_slots old new f.before (c ∷ []) f.after at t (heap_at h f).tiles tt m.there area ts (λ e. ne (sym e ∙ f.named.0)) };
      spelled = Spelled-same mid new at (free size) (beside_same mid new slot at (at + total (c ∷ [])) at (at + size) word beside (omega arith) (omega arith) (omega arith)) word.len (has_free mid at size header);
      word = beside_word mid new slot at (at + total (c ∷ [])) at word beside (omega arith)
          (omega arith) (omega arith) ∙ first_is old at size is (omega arith) (omega arith);
    }
given {old} {mid} new {at} size {name} {live} (fixed bytes owner) h f takes is header emptied =
    let c : Chunk = fixed bytes owner in let m = standing h f in
    let fits = least h f in let inside = m.inside in let most = m.most in let there = m.there in
    let first = first_word h f size (emptied ∙ is) in
    let area : WroteArea old new at (at + total (c ∷ [])) = record { mid = new; slot = at; area = first; word = wrote_none new at (at + 4); is_slot = inl refl; there = omega arith; fits = omega arith } in
    record {
      area = area;
      clears = tt;
      others = record { same = λ t ts ne. wrote_slot old new f.before (c ∷ []) f.after at t (heap_at h f).tiles (no_table h f) m.there first ts };
      spelled = rw (← emptied) at (has_free mid at size header);
      word = ap (λ x. u32_at x at) emptied ∙ first_is old at size is (omega arith) (omega arith);
    }

-- the chunk of another name is not the directory
not_directory : (image : List ℕ) (at name : ℕ) (live : LiveChunk) (chunk : Chunk) → name ≢ directory_of image → NamedHere name live at chunk → ManagersHere (directory_of image) at chunk → ⊥
not_directory image at name live (free size) apart n m = m
not_directory image at name live (movable bytes lock owner slot) apart n m = apart (sym n.0 ∙ m.0)
not_directory image at name live (fixed bytes owner) apart n m = m

gave_back_at : {old mid : List ℕ} (new : List ℕ) {at : ℕ} (size : ℕ) {name : ℕ} {live : LiveChunk} {chunk : Chunk} → HeapAccepted old → name ≢ directory_of old → (f : Finds old name live chunk at) → size ≡ size_of chunk
    → mid ≡ overwritten old at (u32_bytes (2 ^ 31 + size)) → HasHeader mid at (headers.Free size) → Emptied mid chunk new → Alters old new at freed × IsFreeChunk new at size × KeepsFree (NotAmong at (chunk ∷ [])) old new × WritesPlain old new × (chunks_of new ≡ f.before ++ free size ∷ f.after)
gave_back_at {old} new {at} size {name} {live} {chunk} h own f takes is header emptied =
    let m = standing h f in
    let fits = least h f in let inside = m.inside in let most = m.most in
    let w = given new size chunk h f takes is header emptied in
    let r = area_replaces old new _ _ _ _ at (heap_at h f).tiles (no_table h f) m.there m.inside w.area (w.spelled, omega arith) in
    let all = released old new _ _ [] f.after at size name live (heap_at h f) r tt f.named
    (not_directory old at name live _ own f.named) w.clears w.others in
    let there = m.there in
    let exact = chunks_of-tiled new (f.before ++ free size ∷ f.after) all.tiles in
    let start = same_start old new r.head in (
      (exchanges_parts old new at (λ c. freed c ∷ []) _ _ _ h (named_live_chunk name at live _ f.named) f.chunks there).1
          (rw takes at (becomes_heap old new (f.before ++ free size ∷ f.after) r.head all)),
      record { before = f.before; after = f.after; chunks = exact; there = omega arith },
      keeps_replaced old new f.before (chunk ∷ []) (free size ∷ []) f.after at h f.chunks all r,
      replaced_plain old new _ _ _ _ at f.chunks all r (free_plain new at size [] w.word (omega arith) (λ there none. absurd none)),
      exact,
    )

-- a free chunk is free up to its end
pub chunk_up_to : {image : List ℕ} {at size : ℕ} → HeapAccepted image → IsFreeChunk image at size
    → FreeUpTo image at (at + size)
chunk_up_to {image} {at} {size} h f =
    let least = (free_there image at size h f).header_fits in
    record { before = f.before; run = free size ∷ []; after = _; chunks = f.chunks; all_free = tt; from = omega arith; to = omega arith; least = omega arith }

-- ---- of a chunk that was found

-- how much becomes free
pub given_size : {image : List ℕ} {found : Found} {size : ℕ} → HeapAccepted image
    → IsOne image found → size ≡ need found.length
    → (8 ≤ size) × (found.place.0 - 8 + size ≤ length image) × (size % 8 ≡ 0) × (length image ≤ 16777208)
given_size {image} {found} {size} h f size_is =
    let at : ℕ = found.place.0 - 8 in let s = finds_spelled image _ f.live f.chunk at h f.finds in
    let is : size ≡ size_of f.chunk = size_is ∙ found_size image found f in
    let t = Spelled-size image at f.chunk s in
    (omega arith, omega arith, subst (λ n. n % 8 ≡ 0) (sym is) t.2, h.1.tiles.head.most)

-- the slot of a movable chunk is emptied, and a fixed one has none
emptied_movable : (mid : List ℕ) {new : List ℕ} (at name : ℕ) (live : LiveChunk) (c : Chunk) → NamedHere name live at c → live.lock ≢ fixed_lock → new ≡ overwritten mid name (u32_bytes 0) → Emptied mid c new
emptied_movable mid at name live (free size) n loose is = absurd n
emptied_movable mid at name live (movable bytes lock owner slot) n loose is = is ∙ ap (λ k. overwritten mid k (u32_bytes 0)) (sym n.0)
emptied_movable mid at name live (fixed bytes owner) n loose is = absurd (loose (same_lock (sym (fixed_live_is at bytes owner n))))

emptied_fixed : {image : List ℕ} (mid : List ℕ) {at name : ℕ} {live : LiveChunk} (c : Chunk)
    → HeapAccepted image → Finds image name live c at → live.lock ≡ fixed_lock → Emptied mid c mid
emptied_fixed mid (free size) h f is = absurd f.named
emptied_fixed {image} mid {at} {name} {live} (movable bytes lock owner slot) h f is =
    let s : Spelled image at (movable bytes lock owner slot) = (standing h f).spelled.0 in
    let same : lock ≡ live.lock = same_lock f.named.1 in absurd (omega arith)
emptied_fixed mid (fixed bytes owner) h f is = refl

pub emptied_loose : {old : List ℕ} (mid : List ℕ) {new : List ℕ} {found : Found} → (f : IsOne old found) → found.lock ≢ fixed_lock → new ≡ overwritten mid found.name.0 (u32_bytes 0) → Emptied mid f.chunk new
emptied_loose mid {found} f loose is = emptied_movable mid (found.place.0 - 8) found.name.0 f.live f.chunk f.finds.named (λ e. loose (f.lock_is ∙ e)) is

pub emptied_locked : {old : List ℕ} (mid : List ℕ) {found : Found} → HeapAccepted old
    → (f : IsOne old found) → found.lock ≡ fixed_lock → Emptied mid f.chunk mid
emptied_locked mid h f is = emptied_fixed mid f.chunk h f.finds (sym f.lock_is ∙ is)

pub gave_back : {old mid : List ℕ} (new : List ℕ) {found : Found} {size : ℕ} → HeapAccepted old
    → (f : IsOne old found) → found.name.0 ≢ directory_of old → size ≡ need found.length
    → mid ≡ overwritten old (found.place.0 - 8) (u32_bytes (2 ^ 31 + size))
    → HasHeader mid (found.place.0 - 8) (headers.Free size) → Emptied mid f.chunk new
    → Alters old new (found.place.0 - 8) freed × IsFreeChunk new (found.place.0 - 8) size × KeepsFree Any old new × WritesPlain old new × (chunks_of new ≡ f.finds.before ++ free size ∷ f.finds.after)
gave_back {old} new {found} {size} h f apart size_is is header emptied =
    let at : ℕ = found.place.0 - 8 in
    let done = gave_back_at new size h apart f.finds (size_is ∙ found_size old found f) is header emptied in
    (done.0, done.1, λ there any b. done.2 there (live_apart at there f.chunk (λ n e. named_apart found.name.0 at f.live f.finds.named e)) b, done.3, done.4)

-- where it stood no free chunk began
pub none_there : {image : List ℕ} {found : Found} (there : ℕ) → HeapAccepted image
    → IsOne image found → BeginsFree image there → there ≢ found.place.0 - 8
none_there {image} {found} there h f b same =
    let size = found_size image found f in let k = begun_chunk there h b in
    let least = chunk_inside h k in
    elim (apart f.finds.before f.chunk f.finds.after k.before (free (size_field (u32_at image there))) k.after (sym f.finds.chunks ∙ k.chunks)) [
      | in_front x ↦ omega arith
      | one t is ↦ named_apart found.name.0 (found.place.0 - 8) f.live f.finds.named is
      | behind x ↦ omega arith
    ]

-- the lists, with the chunk that was made free
pub given_lists : {old mid new heads after : List ℕ} {found : Found} → HeapAccepted old → IsOne old found → KeepsFree Any old mid → Pushes mid new heads after (found.place.0 - 8) → HasLists old heads → HasLists new after
given_lists {old} {mid} {heads} {found} h f keeps p lists =
    let at : ℕ = found.place.0 - 8 in
    let others = lists_weaker Any (ButAt at) old heads (λ x b any. none_there x h f b) lists in
    push_lists _ Any (lists_kept _ old mid _ (λ x apart b. keeps x tt b) others) (λ x b apart. (tt, apart)) tt p

-- its own slot
own_slot_is : {old : List ℕ} {found : Found} → HeapAccepted old → (f : IsOne old found)
    → found.lock ≢ fixed_lock → IsSlot old found.name.0
own_slot_is {old} {found} h f loose = by_chunk f.chunk f.finds where
  by_chunk : (c : Chunk) → Finds old found.name.0 f.live c (found.place.0 - 8)
      → IsSlot old found.name.0
  by_chunk (free size) g = absurd g.named
  by_chunk (fixed bytes o) g = absurd (loose (f.lock_is ∙ same_lock (sym (fixed_live_is (found.place.0 - 8) bytes o g.named))))
  by_chunk (movable bytes l o s) g = rw g.named.0 at (own_slot old _ _ f.live bytes l o s h g)

pub own_slot_within : {old : Memory} (new : Memory) {found : Found} (all : ℕ) → HoldsHeap old → (f : IsOne old.bytes found) → found.lock ≢ fixed_lock → new.lents ≡ old.lents → new.bytes ≡ overwritten old.bytes (found.place.0 - 8) (u32_bytes (2 ^ 31 + all))
    → IsWithin new found.name.0 4 × IsSlot new.bytes found.name.0
own_slot_within {old} new all h f loose lents is =
    let own = own_slot_is h.accepted f loose in let t = slot_stays h.accepted f.finds all own is in
    (slot_still_within old new _ h.accepted h.lent own lents t.0 t.1, t.1)
