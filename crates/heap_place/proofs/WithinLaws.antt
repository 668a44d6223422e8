-- What is written in a live chunk after its first word, and in front of the chunks, keeps the free
-- chunks.
use Rattle.heap_place.proofs.Words.{◌≡◌, ℕ, ◌+◌, ◌-◌, ◌≤◌, List, [], ◌∷◌, ◌++◌, length, refl, sym, ap, subst, ◌∙◌, arith, inl, inr, Memory, u32_at, u32_bytes, overwritten, Chunk, free, need, size_of, total, Spelled, area_start, HeapAccepted, LiveChunk, NamedHere, chunks_of, size_field, Spelled-size, SpelledAll-split, SpelledAll-same, SpelledAll-end, chunk_there, chunks_of-tiled, read_heap, SpelledAll-takes, free_inside, same_start, replaced_tiles, WroteWithin, wrote_none, wrote_part, wrote_word, wrote_wider, wrote_apart, wrote_word_apart, WroteArea, area_replaces, wrote_head, Found, IsOne, Any, KeepsFree, HasLists, HoldNoSlots}
use Rattle.heap_model.specs.Frame.{directory_at}
use Rattle.heap_model.specs.Leaving.{NamesDirectory}
use Rattle.laws_heap.proofs.Directory.{named_start}
use Rattle.heap_place.proofs.FoundLaws.{heap_in_parts, middle_of, found_size, bytes_inside, no_slots}
use Rattle.heap_place.proofs.AlterLaws.{written_there}
use Rattle.heap_place.proofs.ListLaws.{lists_kept}
use Rattle.heap_place.proofs.KeepLaws.{NotAmong, keeps_replaced, live_apart}

-- the size of a chunk is that of its first word
pub first_size : (image : List ℕ) (at : ℕ) (c : Chunk) → Spelled image at c
    → size_of c ≡ size_field (u32_at image at)
first_size image at (free size) s = sym s.size_field
first_size image at c s = omega arith

pub keeps_within : {old new : List ℕ} (before : List Chunk) (c : Chunk) (after : List Chunk) {at : ℕ} → HeapAccepted old → HeapAccepted new → chunks_of old ≡ before ++ c ∷ after → at ≡ area_start old + total before → HoldNoSlots (c ∷ []) → WroteWithin old new (at + 4) (at + size_of c)
    → KeepsFree (NotAmong at (c ∷ [])) old new
keeps_within {old} {new} before c after {at} h g was is none w =
    let heap = heap_in_parts old (before ++ c ∷ after) h was in
    let m = middle_of old before (c ∷ []) after at heap is in
    let size = Spelled-size old at c m.spelled.0 in let len = w.len in
    let wide = wrote_wider old new (at + 4) (at + size_of c) at (at + (size_of c + 0)) w (omega arith) (omega arith) in
    let same = wrote_head old new before (c ∷ []) after at heap.tiles none is wide in
    let start = same_start old new same in
    let front = rw (← is) at (SpelledAll-split old (area_start old) before (c ∷ after) (length old) heap.tiles.area).0 in
    let front_now = SpelledAll-same old new (area_start old) before at (wrote_apart old new (at + 4) (at + size_of c) (area_start old) at w (inl (omega arith))) len front in
    let there = chunk_there new (chunks_of new) before at (read_heap new g).tiles (rw (← start) at front_now) (omega arith) in
    let word = wrote_word_apart old new (at + 4) (at + size_of c) at w (inl (omega arith)) in
    let sizes = first_size new at there.0 there.1 ∙ ap size_field word ∙ sym (first_size old at c m.spelled.0) in
    let area : WroteArea old new at (at + (size_of c + 0)) = record { mid = new; slot = at; area = wide; word = wrote_none new at (at + 4); is_slot = inl refl; there = omega arith; fits = omega arith } in
    let r = area_replaces old new before (c ∷ []) (there.0 ∷ []) after at heap.tiles none is m.inside area (there.1, omega arith) in
    let tiles = replaced_tiles old new before (c ∷ []) (there.0 ∷ []) after at heap.tiles r in
    keeps_replaced old new before (c ∷ []) (there.0 ∷ []) after at h was (heap_in_parts new (before ++ ((there.0 ∷ []) ++ after)) g (chunks_of-tiled new (before ++ ((there.0 ∷ []) ++ after)) tiles)) r

-- ---- of a chunk that was found

pub named_apart : (name at : ℕ) (live : LiveChunk) {c : Chunk} {size : ℕ} → NamedHere name live at c
    → c ≡ free size → ⊥
named_apart name at live n e = subst (λ d. NamedHere name live at d) e n

pub keeps_found : {old new : List ℕ} {found : Found} → HeapAccepted old → HeapAccepted new → (f : IsOne old found) → WroteWithin old new (found.place.0 - 8 + 4) (found.place.0 - 8 + need found.length) → KeepsFree Any old new
keeps_found {old} {found} h g f w there any b =
    let at : ℕ = found.place.0 - 8 in
    keeps_within _ _ _ h g f.finds.chunks f.finds.there (no_slots _ _ at _ f.finds.named) (rw (found_size old _ f) at w) there
    (live_apart at there f.chunk (λ size e. named_apart found.name.0 at f.live f.finds.named e)) b

-- its second word
pub keeps_second : {old new : List ℕ} {found : Found} (word : ℕ) → HeapAccepted old → HeapAccepted new → IsOne old found → new ≡ overwritten old (found.place.0 - 8 + 4) (u32_bytes word) → KeepsFree Any old new
keeps_second {old} {new} {found} word h g f is =
    let at : ℕ = found.place.0 - 8 in let inside = bytes_inside old found h f in
    keeps_found h g f (wrote_wider old new _ _ _ _ (wrote_word old new _ word is (omega arith)) (omega arith) (omega arith))

-- a part of its body
pub keeps_body : (old new : List ℕ) (found : Found) (at : ℕ) (part : List ℕ) → HeapAccepted old → IsOne old found → at + length part ≤ found.length → new ≡ overwritten old (found.place.0 + at) part → KeepsFree Any old new
keeps_body old new found at part h f within is =
    let inside = bytes_inside old found h f in let there : ℕ = found.place.0 - 8 in
    keeps_found h (written_there old new found at part h f within is).0.frame.accepted f
    (wrote_wider _ _ _ _ _ _ (wrote_part old new _ _ is (omega arith)) (omega arith) (omega arith))

-- so the lists stay, where the region's value was the space's
pub body_lists : (old region : Memory) (new heads : List ℕ) (found : Found) (at : ℕ) (part : List ℕ) → region ≡ old → HeapAccepted old.bytes → IsOne old.bytes found → at + length part ≤ found.length → new ≡ overwritten region.bytes (found.place.0 + at) part → HasLists region.bytes heads → HasLists new heads
body_lists old region new heads found at part same h f within is lists =
    lists_kept Any _ new _ (keeps_body _ new _ at part h f within (is ∙ ap (λ m. overwritten m.bytes (found.place.0 + at) part) same)) (rw same at lists)

-- ---- the directory word

pub keeps_directory : {old new : List ℕ} {word : ℕ} → HeapAccepted old → new ≡ overwritten old directory_at (u32_bytes word) → NamesDirectory old new word → KeepsFree Any old new
keeps_directory {old} {new} {word} h is names there any b =
    let heap = read_heap old h in let w = wrote_word old new 12 word is (omega arith) in
    let f = free_inside _ _ _ (SpelledAll-takes old _ _ _ heap.tiles.area) b in
    let all = SpelledAll-end old (area_start old) (chunks_of old) (length old) heap.tiles.area in
    let start = named_start old new word names in record {
      begins = rw (← start) at (rw (← names.chunks) at b);
      first = wrote_word_apart old new 12 (12 + 4) there w (inr (omega arith, omega arith));
      second = wrote_word_apart old new 12 (12 + 4) (there + 4) w (inr (omega arith, omega arith));
    }
