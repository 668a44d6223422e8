-- The test of an accepted heap decides it.
use Rattle.laws_heap.proofs.Words.{◌≡◌, ℕ, ◌+◌, ◌*◌, ◌%◌, Bool, List, [], ◌∷◌, ◌++◌, length, refl, sym, ap, ◌∙◌, inl, inr, cases_eq, Decides-and, Decides-or, Decides-eqb, Decides-ltb, Decides-like, ◌⊎◌, Decides, list_all, u16_at, u32_at, Chunk, free, movable, fixed, total, Table, slot_count, head_end, slots_of, area_start, first_next, further_tables, magic, chained_magic, most_size, IsHead, Tiles, TableHere, IsChain, BodyHere, IsTablePlace, IsKnownIfFixed, ManagersHere, HasDirectory, directory_of, IsHeap, HeapAccepted, EveryPlaced, AnyPlaced, EveryOne, HoldsBody, NamesItsSlot, chunks_of, head_tests, area_tests, is_body_here, holds_body, names_its_slot, is_table_here, is_chain, is_table_place, is_known_if_fixed, is_managers_here, is_accepted}
use Rattle.laws_heap.proofs.Tests.{Decides-nat_le}
use Rattle.laws_heap.proofs.Chunks.{SpelledAll-end}
use Rattle.laws_heap.proofs.Placed.{Decides-every, Decides-any, Decides-every_one}
use Rattle.laws_heap.proofs.Slots.{Decides-slot}
use Rattle.laws_heap.proofs.Runs.{chunks_from-spelled, chunks_of-tiled}
use Rattle.laws_heap.proofs.Bodies.{tied_halves, halves_tied}

-- ---- the head

no_test : Decides (list_all (λ test. test) []) (Unit {0})
no_test = (λ e. tt, λ h. refl)

-- what the tests of a head decide, before others
head_then : {Q : Type 0} (image : List ℕ) (others : List Bool)
    → Decides (list_all (λ test. test) others) Q
    → Decides (list_all (λ test. test) (head_tests image ++ others)) (IsHead image × Q)
head_then image others q = Decides-like _ (λ h. (
  record {
    magic_is = h.0;
    size_is = h.1.0;
    least = h.1.1.0;
    most = h.1.1.1.0;
    whole = h.1.1.1.1.0;
    some_slot = h.1.1.1.1.1.0;
    a_chunk_fits = h.1.1.1.1.1.1.0;
    reserved = h.1.1.1.1.1.1.1.0;
    padding = λ ne.
        elim h.1.1.1.1.1.1.1.1.0 [ inl none ↦ absurd (ne none) | inr zero_there ↦ zero_there ];
  },
  h.1.1.1.1.1.1.1.1.1,
))
    (λ s. (
      s.0.magic_is,
      (
        s.0.size_is,
        (
          s.0.least,
          (
            s.0.most,
            (s.0.whole, (s.0.some_slot, (s.0.a_chunk_fits, (s.0.reserved, (padded s.0, s.1))))),
          ),
        ),
      ),
    ))
    (Decides-and _ _ (Decides-or _ _ (Decides-eqb (u32_at image 0) magic)
    (Decides-eqb (u32_at image 0) chained_magic))
    (Decides-and _ _ (Decides-eqb (u32_at image 4) (length image))
    (Decides-and _ _ (Decides-nat_le 64 (length image))
    (Decides-and _ _ (Decides-nat_le (length image) most_size)
    (Decides-and _ _ (Decides-eqb (length image % 8) 0)
    (Decides-and _ _ (Decides-ltb 0 (slot_count image))
    (Decides-and _ _ (Decides-nat_le (area_start image + 8) (length image))
    (Decides-and _ _ (Decides-eqb (u16_at image 10) 0)
    (Decides-and _ _ (Decides-or _ _ (Decides-eqb (head_end image) (area_start image))
    (Decides-eqb (u32_at image (head_end image)) 0)) q))))))))) where
      padded : IsHead image
          → (head_end image ≡ area_start image) ⊎ (u32_at image (head_end image) ≡ 0)
      padded s = elim (cases_eq (head_end image) (area_start image)) [
        | inl none ↦ inl none
        | inr ne ↦ inr (s.padding ne)
      ]

-- ---- the chunks

-- the chunks reach the end
abbrev Reaches : List ℕ → Type 0
Reaches image = area_start image + total (chunks_of image) ≡ length image

abbrev HasChain : List ℕ → Type 0
HasChain image = IsChain image (chunks_of image) (first_next image) (further_tables image)

reaches_tiles : (image : List ℕ) → IsHead image → Reaches image → HasChain image
    → Tiles image (chunks_of image)
unfolding chunks_of
reaches_tiles image head e chain = record {
  head = head;
  area = rw e at (chunks_from-spelled image (area_start image));
  chain = chain;
}

tiles_chain : (image : List ℕ) (cs : List Chunk) → Tiles image cs → HasChain image
tiles_chain image cs t = rw (← (chunks_of-tiled image cs t)) at t.chain

tiles_reaches : (image : List ℕ) (cs : List Chunk) → Tiles image cs → Reaches image
tiles_reaches image cs t = ap (λ xs. area_start image + total xs) (chunks_of-tiled image cs t)
    ∙ sym (SpelledAll-end image (area_start image) cs (length image) t.area)

-- ---- each slot and each chunk

Decides-body : (slot place at : ℕ) (c : Chunk)
    → Decides (is_body_here slot place at c) (BodyHere slot place at c)
Decides-body slot place at (free size) = (λ e. absurd cc, λ b. absurd b)
Decides-body slot place at (movable bytes lock owner named) =
    Decides-and _ _ (Decides-eqb named slot) (Decides-eqb (at + 8) place)
Decides-body slot place at (fixed bytes owner) = (λ e. absurd cc, λ b. absurd b)

pub Decides-holds : (image : List ℕ) (slot : ℕ)
    → Decides (holds_body image slot) (HoldsBody image (chunks_of image) slot)
Decides-holds image slot =
    Decides-like _ (λ h used. elim h [ inl none ↦ absurd (used none) | inr body ↦ body ]) holds
    (Decides-or _ _ (Decides-eqb (u32_at image slot) 0) (Decides-any _ _
    (Decides-body slot (u32_at image slot)) (area_start image) (chunks_of image))) where
      holds : HoldsBody image (chunks_of image) slot → (u32_at image slot ≡ 0)
          ⊎ AnyPlaced (BodyHere slot (u32_at image slot)) (area_start image) (chunks_of image)
      holds h =
          elim (cases_eq (u32_at image slot) 0) [ inl none ↦ inl none | inr used ↦ inr (h used) ]

pub Decides-names : (image : List ℕ) (at : ℕ) (c : Chunk)
    → Decides (names_its_slot image at c) (NamesItsSlot image at c)
Decides-names image at (free size) = (λ e. tt, λ h. refl)
Decides-names image at (movable bytes lock owner slot) =
    Decides-and _ _ (Decides-slot image slot) (Decides-eqb (u32_at image slot) (at + 8))
Decides-names image at (fixed bytes owner) = (λ e. tt, λ h. refl)

pub Decides-place : (tables : List Table) (place : ℕ)
    → Decides (is_table_place tables place) (IsTablePlace tables place)
Decides-place [] place = (λ e. absurd cc, λ h. absurd h)
Decides-place (t ∷ tables) place =
    Decides-or _ _ (Decides-eqb t.place place) (Decides-place tables place)

pub Decides-known : (tables : List Table) (at : ℕ) (c : Chunk)
    → Decides (is_known_if_fixed tables at c) (IsKnownIfFixed tables at c)
Decides-known tables at (free size) = (λ e. tt, λ h. refl)
Decides-known tables at (movable bytes lock owner slot) = (λ e. tt, λ h. refl)
Decides-known tables at (fixed bytes owner) = Decides-and _ _ (Decides-ltb owner 15)
    (Decides-or _ _ (Decides-ltb 0 owner) (Decides-place tables (at + 8)))

Decides-table : (t : Table) (at : ℕ) (c : Chunk) → Decides (is_table_here t at c) (TableHere t at c)
Decides-table t at (free size) = (λ e. absurd cc, λ b. absurd b)
Decides-table t at (movable bytes lock owner slot) = (λ e. absurd cc, λ b. absurd b)
Decides-table t at (fixed bytes owner) =
    Decides-like _ (λ h. (h.0.0.0, h.0.0.1, h.0.1, h.1)) (λ b. (((b.0, b.1), b.2), b.3))
    (Decides-and _ _ (Decides-and _ _ (Decides-and _ _ (Decides-eqb owner 0) (Decides-eqb
    (at + 8) t.place)) (Decides-eqb (length bytes) (4 + 4 * t.count))) (Decides-ltb 0 t.count))

pub Decides-chain : (image : List ℕ) (cs : List Chunk) (next : ℕ) (tables : List Table)
    → Decides (is_chain image cs next tables) (IsChain image cs next tables)
Decides-chain image cs next [] = Decides-eqb next 0
Decides-chain image cs next (t ∷ tables) =
    Decides-like _ (λ h. (h.0.0, h.0.1, h.1)) (λ b. ((b.0, b.1), b.2))
    (Decides-and _ _ (Decides-and _ _ (Decides-eqb next t.place) (Decides-any _ _ (Decides-table t)
    (area_start image) cs)) (Decides-chain image cs (u32_at image t.place) tables))

Decides-managers : (slot at : ℕ) (c : Chunk)
    → Decides (is_managers_here slot at c) (ManagersHere slot at c)
Decides-managers slot at (free size) = (λ e. absurd cc, λ b. absurd b)
Decides-managers slot at (movable bytes lock owner named) =
    Decides-and _ _ (Decides-eqb named slot) (Decides-eqb owner 0)
Decides-managers slot at (fixed bytes owner) = (λ e. absurd cc, λ b. absurd b)

-- ---- the whole

-- what the tests decide, conjunct by conjunct
abbrev Conjuncts : List ℕ → Type 0
Conjuncts image =
    IsHead image
    × (Reaches image
    × (HasChain image
    × (EveryOne (HoldsBody image (chunks_of image)) (slots_of image)
    × (EveryPlaced (NamesItsSlot image) (area_start image) (chunks_of image)
    × (EveryPlaced (IsKnownIfFixed (further_tables image)) (area_start image) (chunks_of image)
    × (HasDirectory image (chunks_of image)
    × Unit {0}))))))

Decides-conjuncts : (image : List ℕ) → Decides (is_accepted image) (Conjuncts image)
unfolding is_accepted
Decides-conjuncts image =
    let cs : List Chunk = chunks_of image in
    let start : ℕ = area_start image in
    head_then image (area_tests image)
    (Decides-and _ _ (Decides-eqb (start + total cs) (length image))
    (Decides-and _ _ (Decides-chain image cs (first_next image) (further_tables image))
    (Decides-and _ _ (Decides-every_one _ _ (Decides-holds image) (slots_of image))
    (Decides-and _ _ (Decides-every _ _ (Decides-names image) start cs)
    (Decides-and _ _ (Decides-every _ _ (Decides-known (further_tables image)) start cs)
    (Decides-and _ _ (Decides-or _ _ (Decides-eqb (directory_of image) 0)
    (Decides-any _ _ (Decides-managers (directory_of image)) start cs)) no_test))))))

conjuncts_heap : (image : List ℕ) → Conjuncts image → IsHeap image (chunks_of image)
conjuncts_heap image h = record {
  tiles = reaches_tiles image h.0 h.1.0 h.1.1.0;
  tied = halves_tied image (chunks_of image) h.1.1.1.0 h.1.1.1.1.0;
  fixed_are_known = h.1.1.1.1.1.0;
  directory = h.1.1.1.1.1.1.0;
}

-- the chunks of an accepted heap are those that are read
pub heap_of_read : (image : List ℕ) (cs : List Chunk) → IsHeap image cs
    → IsHeap image (chunks_of image)
heap_of_read image cs h = rw (← (chunks_of-tiled image cs h.tiles)) at h

heap_conjuncts : (image : List ℕ) → IsHeap image (chunks_of image) → Conjuncts image
heap_conjuncts image h =
    let halves = tied_halves image (chunks_of image) h.tied in (
      h.tiles.head,
      (
        tiles_reaches image (chunks_of image) h.tiles,
        (
          tiles_chain image (chunks_of image) h.tiles,
          (halves.0, (halves.1, (h.fixed_are_known, (h.directory, tt)))),
        ),
      ),
    )

pub Decides-accepted : (image : List ℕ) → Decides (is_accepted image) (HeapAccepted image)
Decides-accepted image = Decides-like _ (λ c. (chunks_of image, conjuncts_heap image c))
    (λ h. heap_conjuncts image (heap_of_read image h.0 h.1)) (Decides-conjuncts image)
