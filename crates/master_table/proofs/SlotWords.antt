-- In a heap the word before a slot is a slot's, the directory word or a word `next`: none is
-- greater than a place.
use Rattle.std.proofs.Common.{◌≡◌, ℕ, zero, suc, ◌+◌, ◌-◌, ◌*◌, ◌^◌, ◌<◌, ◌≤◌, List, [], ◌∷◌, ◌++◌, length, refl, sym, subst, arith, inl, inr}
use Rattle.heap_model.specs.Memory.{Memory, Lent}
use Rattle.heap_model.specs.Bytes.{u32_at}
use Rattle.heap_model.specs.Chunk.{Chunk, free, movable, fixed, total, Spelled, SpelledAll}
use Rattle.heap_model.specs.Slots.{Table, further_tables, first_next, slot_count, slots_in_row, slots_further, slots_of, area_start, IsSlot, StandsIn}
use Rattle.heap_model.specs.Heap.{BodyHere, ManagersHere, IsChain, Tiles, IsHeap, HeapAccepted, directory_of}
use Rattle.heap_model.specs.Lending.{LentHere, IsLentBody, LendsBodies}
use Rattle.raw_region.specs.Marks.{BeginsAt}
use Rattle.laws_heap.proofs.Chunks.{SpelledAll-split}
use Rattle.laws_heap.proofs.LentBodies.{some_gives, lent_chunk}
use Rattle.laws_heap.proofs.Slots.{stands_split, stands_left, stands_right, row_slot, row_stands, slot_facts}
use Rattle.laws_heap.proofs.Placed.{AnyPlaced-parts, AnyPlaced-mid}
use Rattle.laws_heap.proofs.FoundChunks.{read_heap, in_slot, finds_body}
use Rattle.master_table.proofs.RowLaws.{table_there}

slot_word : (image : List ℕ) (slot word : ℕ) → HeapAccepted image → IsSlot image slot → u32_at image slot ≡ word → u32_at image slot < 2 ^ 24
slot_word image slot zero h s e = omega (arith, e)
slot_word image slot (suc before) h s e =
    let i = in_slot image slot (suc before) h s e (omega arith) in
    let body = (finds_body image slot i.live (movable i.live.bytes i.live.lock i.live.owner i.named) (suc before - 8) h i.finds).inside in
    let low = i.behind_header in
    let most = h.1.tiles.head.most in
    omega (arith, e, body, low, most)

-- ---- the directory word

directory_slot : (image : List ℕ) (before : List Chunk) (c : Chunk) (after : List Chunk) → IsHeap image (before ++ c ∷ after) → ManagersHere (directory_of image) (area_start image + total before) c → directory_of image + 4 ≤ length image
directory_slot image before (free size) after h m = absurd m
directory_slot image before (movable bytes lock owner slot) after h m =
    let place : ℕ = area_start image + total before + 8 in
    let is = (h.tied (directory_of image) place (omega arith)).1 (AnyPlaced-mid (BodyHere (directory_of image) place) (area_start image) before (movable bytes lock owner slot) after (m.0, refl)) in
    (slot_facts image (before ++ movable bytes lock owner slot ∷ after) (directory_of image) h.tiles is.0).inside
directory_slot image before (fixed bytes owner) after h m = absurd m

directory_word : (image : List ℕ) → HeapAccepted image → directory_of image < 2 ^ 24
directory_word image h = elim h.1.directory [
  | inl none ↦ omega (arith, none)
  | inr there ↦
      let p = AnyPlaced-parts (ManagersHere (directory_of image)) (area_start image) h.0 there in
      let inside = directory_slot image p.before p.chunk p.after (subst (λ (cs : List Chunk). IsHeap image cs) p.parts h.1) p.holds in
      let most = h.1.tiles.head.most in
      omega (arith, inside, most)
]

-- ---- the words of tables

next_word : (image : List ℕ) (cs : List Chunk) (next : ℕ) (tables : List Table) → Tiles image cs → IsChain image cs next tables → next < 2 ^ 24
next_word image cs next [] t chain = let none : next ≡ 0 = chain in omega (arith, none)
next_word image cs next (table ∷ tables) t chain =
    let inside = (table_there image cs table t chain.1).inside in
    let there = chain.0 in
    let most = t.head.most in
    omega (arith, inside, there, most)

-- of a row with such a word before it
row_front : (image : List ℕ) (first count slot : ℕ) → HeapAccepted image → 4 ≤ first → u32_at image (first - 4) < 2 ^ 24 → ((other : ℕ) → StandsIn (slots_in_row first count) other → IsSlot image other) → StandsIn (slots_in_row first count) slot → u32_at image (slot - 4) < 2 ^ 24
row_front image first count slot h low front each s = by r.0 r.1 r.2 where
  r : (k : ℕ) × (k < count) × (slot ≡ first + 4 * k)
  r = row_slot first count slot s

  by : (k : ℕ) → k < count → slot ≡ first + 4 * k → u32_at image (slot - 4) < 2 ^ 24
  by zero below there = let e : first - 4 ≡ slot - 4 = omega (arith, there) in subst (λ (n : ℕ). u32_at image n < 2 ^ 24) e front
  by (suc k) below there =
      let e : first + 4 * k ≡ slot - 4 = omega (arith, there) in
      subst (λ (n : ℕ). u32_at image n < 2 ^ 24) e (slot_word image (first + 4 * k) (u32_at image (first + 4 * k)) h (each (first + 4 * k) (row_stands first count k (omega (arith, below)))) refl)

further_front : (image : List ℕ) (next : ℕ) (tables : List Table) (slot : ℕ) → (h : HeapAccepted image) → IsChain image h.0 next tables → ((other : ℕ) → StandsIn (slots_further tables) other → IsSlot image other) → StandsIn (slots_further tables) slot → u32_at image (slot - 4) < 2 ^ 24
further_front image next [] slot h chain each s = absurd s
further_front image next (table ∷ tables) slot h chain each s = elim (stands_split (slots_in_row (table.place + 4) table.count) (slots_further tables) slot s) [
  | inl own ↦
      let word : u32_at image table.place < 2 ^ 24 = next_word image h.0 (u32_at image table.place) tables h.1.tiles chain.2 in
      let e : table.place ≡ table.place + 4 - 4 = omega arith in
      row_front image (table.place + 4) table.count slot h (omega arith) (subst (λ (n : ℕ). u32_at image n < 2 ^ 24) e word)
      (λ other there. each other (stands_left (slots_in_row (table.place + 4) table.count) (slots_further tables) other there)) own
  | inr later ↦ further_front image (u32_at image table.place) tables slot h chain.2 (λ other there. each other (stands_right (slots_in_row (table.place + 4) table.count) (slots_further tables) other there)) later
]

pub slot_front : (image : List ℕ) (slot : ℕ) → HeapAccepted image → IsSlot image slot → u32_at image (slot - 4) < 2 ^ 24
unfolding slots_of
slot_front image slot h s = elim (stands_split first further slot s.listed) [
  | inl own ↦ row_front image 16 (slot_count image) slot h (omega arith) (directory_word image h) (λ other there. record { listed = stands_left first further other there }) own
  | inr later ↦ further_front image (first_next image) (further_tables image) slot h h.1.tiles.chain (λ other there. record { listed = stands_right first further other there }) later
] where
  first : List ℕ
  first = slots_in_row 16 (slot_count image)

  further : List ℕ
  further = slots_further (further_tables image)

-- ---- the word before a lent body

stays_word : (image : List ℕ) (lent : Lent) (at : ℕ) (c : Chunk) → LentHere lent at c → Spelled image at c → 2 ^ 24 ≤ u32_at image (at + 4)
stays_word image lent at (free size) h s = absurd h
stays_word image lent at (movable bytes zero owner slot) h s = absurd h
stays_word image lent at (movable bytes (suc lock) owner slot) h s = let word = s.1.second_word in omega (arith, word)
stays_word image lent at (fixed bytes owner) h s = let word = s.second_word in omega (arith, word)

-- so a lent body begins at no slot
pub lent_no_slot : (memory : Memory) (at : ℕ) → HeapAccepted memory.bytes → LendsBodies memory → BeginsAt at memory.lents → IsSlot memory.bytes at → ⊥
lent_no_slot memory at h l begins slot = some_gives (λ lent. lent.at ≡ at) (IsLentBody memory.bytes) memory.lents l begins (λ lent body is.
    let p = lent_chunk memory.bytes lent body in
    let place = p.is.there in
    let area : SpelledAll memory.bytes (area_start memory.bytes) (p.before ++ p.chunk ∷ p.after) (length memory.bytes) = subst (λ (cs : List Chunk). SpelledAll memory.bytes (area_start memory.bytes) cs (length memory.bytes)) p.chunks (read_heap memory.bytes h).tiles.area in
    let high = stays_word memory.bytes lent (area_start memory.bytes + total p.before) p.chunk p.here (SpelledAll-split memory.bytes (area_start memory.bytes) p.before (p.chunk ∷ p.after) (length memory.bytes) area).1.0 in
    let e : area_start memory.bytes + total p.before + 4 ≡ at - 4 = omega (arith, place, is) in
    let low : u32_at memory.bytes (area_start memory.bytes + total p.before + 4) < 2 ^ 24 = subst (λ (n : ℕ). u32_at memory.bytes n < 2 ^ 24) (sym e) (slot_front memory.bytes at h slot) in
    absurd (omega (arith, high, low)))
