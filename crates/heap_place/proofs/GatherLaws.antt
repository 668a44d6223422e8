-- The walk that joins free neighbours and puts each free chunk into its list.
use Rattle.heap_place.proofs.Words.{◌≡◌, ℕ, ◌+◌, ◌-◌, ◌%◌, ◌<◌, ◌≤◌, List, [], ◌∷◌, ◌++◌, length, refl, sym, ap, subst, ◌∙◌, arith, inl, append_assoc, Chunk, size_of, total, Spelled, HasChunk, area_start, HeapAccepted, chunks_of, Becomes, IsSpot, total-append, Spelled-size, SpelledAll-end, SpelledAll-split, frame_then, front_parts, Header, HasHeader, size_by, size_by-header_of, AreLists, HasLists, Any, ButAt, Outside, KeepsFree, IsFreeChunk, Pushes, IsBound, BeginsWithFree, Before, Gathering}
use Rattle.heap_place.proofs.FoundLaws.{heap_in_parts}
use Rattle.heap_place.proofs.ListLaws.{lists_kept, lists_weaker, push_lists}
use Rattle.heap_place.proofs.WithinLaws.{first_size}
use Rattle.heap_place.proofs.CutLaws.{room_facts}
use Rattle.heap_place.proofs.RunLaws.{from_bound, a_chunk_there}

-- ---- where chunks begin

pub bound_chunk : {image : List ℕ} {at : ℕ} → HeapAccepted image → IsBound image at
    → at < length image → HasChunk image at
bound_chunk h b inside = a_chunk_there (from_bound h b) inside

-- the free chunks with which those begin
pub bound_spot : {image : List ℕ} {at size : ℕ} → IsBound image at → BeginsWithFree image at size
    → IsSpot image at size
bound_spot b begins =
    let p = front_parts b.after in let is = begins b.before b.after b.ends in
    record { before = b.before; run = p.run; after = _; chunks = b.ends.chunks ∙ ap (λ cs. b.before ++ cs) p.parts; all_free = p.all_free; there = b.ends.there; sums = is ∙ sym p.sums }

pub spot_least : {image : List ℕ} {at size : ℕ} → HeapAccepted image → IsSpot image at size
    → 0 < size → (8 ≤ size) × (size % 8 ≡ 0)
spot_least {image} {at} {size} h r some = let f = room_facts image at size h r in (omega arith, f.1)

total_one : (before : List Chunk) (c : Chunk) → total (before ++ c ∷ []) ≡ total before + size_of c
total_one before c = let e = total-append before (c ∷ []) in omega arith

bound_after : (image : List ℕ) (before : List Chunk) (c : Chunk) (after : List Chunk) {at : ℕ} (size : ℕ) → chunks_of image ≡ before ++ c ∷ after → at ≡ area_start image + total before → size ≡ size_of c → IsBound image (at + size)
bound_after image before c after size e there is =
    let sum = total_one before c in
    record { before = before ++ c ∷ []; after = _; ends = record { chunks = e ∙ sym (append_assoc before (c ∷ []) after); there = omega arith } }

-- after a free chunk
pub chunk_bound : {image : List ℕ} {at size : ℕ} → IsFreeChunk image at size
    → IsBound image (at + size)
chunk_bound {size} f = bound_after _ _ _ _ size f.chunks f.there refl

-- after a chunk whose header is read
pub header_bound : {image : List ℕ} {at : ℕ} {header : Header} → HeapAccepted image → IsBound image at → HasHeader image at header → IsBound image (at + size_by header) × (at + size_by header ≤ length image) × (8 ≤ size_by header)
header_bound {image} {at} {header} h b found = by_after b.after b.ends.chunks where
  size_is : size_by header ≡ size_of found.chunk
  size_is = ap size_by found.header_is ∙ size_by-header_of found.chunk

  within : (8 ≤ size_of found.chunk) × (at + size_of found.chunk ≤ length image)
  within = let s = Spelled-size image at found.chunk found.spelled in (s.0, s.1)

  by_after : (after : List Chunk) → chunks_of image ≡ b.before ++ after → IsBound image (at + size_by header) × (at + size_by header ≤ length image) × (8 ≤ size_by header)
  by_after [] e =
      let heap = heap_in_parts image (b.before ++ []) h e in
      let all = SpelledAll-end image _ (b.before ++ []) (length image) heap.tiles.area in
      let sum = total-append b.before [] in let sizes = within in
      absurd (omega arith)
  by_after (c ∷ after) e =
      let heap = heap_in_parts image (b.before ++ c ∷ after) h e in
      let s = SpelledAll-split image _ b.before (c ∷ after) (length image) heap.tiles.area in
      let spelled = subst (λ n. Spelled image n c) (sym b.ends.there) s.1.0 in
      let same : size_by header ≡ size_of c = size_is ∙ first_size image at found.chunk found.spelled ∙ sym (first_size image at c spelled) in
      let sizes = size_is in let fits = within in
      (bound_after image b.before c after _ e b.ends.there same, omega arith, omega arith)

-- ---- one step

pub gathered_lists : {old mid new heads after : List ℕ} {at : ℕ} (size : ℕ) → 8 ≤ size → AreLists (Before at) old heads → KeepsFree (Outside at size) old mid → Pushes mid new heads after at → AreLists (Before (at + size)) new after
gathered_lists {old} {mid} size least a keeps p =
    push_lists _ _ (lists_kept _ old mid _ (λ x before b. keeps x (inl before) b) a)
    (λ x b before. (omega arith, λ e. omega arith)) (omega arith) p

pub passed_lists : {image heads : List ℕ} (at more : ℕ) → AreLists (Before at) image heads
    → AreLists (Before (at + more)) image heads
passed_lists at more a = lists_weaker _ _ _ _ (λ x b before. omega arith) a

-- what is done keeps those in front
pub kept_lists : (old new heads : List ℕ) (at to : ℕ) → at ≤ to → KeepsFree (Before at) old new
    → AreLists (Before at) old heads → AreLists (Before to) new heads
kept_lists old new heads at to more keeps a = lists_weaker _ _ new _ (λ x b before. omega arith) (lists_kept _ old new _ keeps a)

-- a chunk that ends there is put into its list
pub pushed_lists : {old new heads after : List ℕ} (end room : ℕ) → 8 ≤ room → room ≤ end → AreLists (Before (end - room)) old heads → Pushes old new heads after (end - room) → AreLists (Before end) new after
pushed_lists end room least within a p = push_lists _ _ a (λ x b before. (omega arith, λ e. omega arith)) (omega arith) p

-- the only one
pub alone_lists : {old new heads after : List ℕ} {at : ℕ} → AreLists (ButAt at) old heads
    → Pushes old new heads after at → HasLists new after
alone_lists {at} a p = push_lists (ButAt at) Any a (λ x b apart. (tt, apart)) tt p

-- ---- the walk

pub becomes_twice : (old mid new : List ℕ) (cs : List Chunk) → Becomes old mid cs
    → Becomes mid new (chunks_of mid) → Becomes old new cs
becomes_twice old mid new cs a b = record { frame = frame_then old mid new a.frame b.frame; layout = b.layout ∙ a.layout }

pub gathered : {old new heads : List ℕ} {at : ℕ} → Gathering old new heads at → HasLists new heads
gathered {new} {heads} {at} g = lists_weaker (Before at) Any new heads (λ x b before. tt) g.lists
