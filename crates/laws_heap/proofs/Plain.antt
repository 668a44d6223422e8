-- First words of free chunks, after some chunks were replaced by others.
use Rattle.laws_heap.proofs.Words.{◌≡◌, ℕ, ◌+◌, ◌^◌, ◌<◌, ◌≤◌, List, [], ◌∷◌, ◌++◌, length, refl, sym, subst, ◌∙◌, arith, inl, inr, u32_at, Chunk, free, movable, fixed, need, size_of, total, area_start, Tiles, IsHeap, chunks_of, EveryPlaced, AnyPlaced, IsPlain, IsFreeAt, BeginsFree, WritesPlain, lives}
use Rattle.laws_heap.proofs.Chunks.{SameWords}
use Rattle.laws_heap.proofs.Runs.{chunks_of-tiled}
use Rattle.laws_heap.proofs.Placed.{TakesBytes, AnyPlaced-left, AnyPlaced-right, AnyPlaced-split}
use Rattle.laws_heap.proofs.Replacements.{Replaces, replaced_total, same_start}

-- where it begins among chunks
pub free_inside : (there at : ℕ) (cs : List Chunk) → EveryPlaced TakesBytes at cs
    → AnyPlaced (IsFreeAt there) at cs → (at ≤ there) × (there + 8 ≤ at + total cs)
free_inside there at [] sizes h = absurd h
free_inside there at (free size ∷ cs) sizes h = elim h [
  | inl here ↦ let least : 8 ≤ size = sizes.0 in (omega arith, omega arith)
  | inr later ↦
      let f = free_inside there (at + size) cs sizes.1 later in let low = f.0 in let high = f.1 in
      (omega arith, omega arith)
]
free_inside there at (movable bytes lock owner slot ∷ cs) sizes h = elim h [
  | inl here ↦ absurd here
  | inr later ↦
      let f = free_inside there (at + size_of (movable bytes lock owner slot)) cs sizes.1 later in
      let low = f.0 in let high = f.1 in
      (omega arith, omega arith)
]
free_inside there at (fixed bytes owner ∷ cs) sizes h = elim h [
  | inl here ↦ absurd here
  | inr later ↦
      let f = free_inside there (at + size_of (fixed bytes owner)) cs sizes.1 later in
      let low = f.0 in let high = f.1 in
      (omega arith, omega arith)
]

-- a word that is written for a free chunk
pub plain_word : (word size : ℕ) → word ≡ 2 ^ 31 + size → size < 2 ^ 24 → IsPlain word
plain_word word size is small = omega arith

-- so has the free one before some, if those have
pub free_plain : (image : List ℕ) (at size : ℕ) (cs : List Chunk) → u32_at image at ≡ 2 ^ 31 + size
    → size < 2 ^ 24
    → ((there : ℕ) → AnyPlaced (IsFreeAt there) (at + size) cs → IsPlain (u32_at image there))
    → (there : ℕ) → AnyPlaced (IsFreeAt there) at (free size ∷ cs) → IsPlain (u32_at image there)
free_plain image at size cs is small behind there h = elim h [
  | inl here ↦
      subst (λ k. IsPlain (u32_at image k)) here (plain_word (u32_at image at) size is small)
  | inr later ↦ behind there later
]

-- no live chunk is one
pub lives_plain : (image : List ℕ) (at : ℕ) (cs : List Chunk) → lives cs ≡ cs → (there : ℕ)
    → AnyPlaced (IsFreeAt there) at cs → IsPlain (u32_at image there)
lives_plain image at cs live there h = absurd (none at cs (rw (← live) at h)) where
  none : (at : ℕ) (cs : List Chunk) → AnyPlaced (IsFreeAt there) at (lives cs) → ⊥
  none at [] h = h
  none at (free size ∷ cs) h = none at cs h
  none at (movable bytes lock owner slot ∷ cs) h =
      elim h [ inl here ↦ here | inr later ↦ none (at + need (length bytes)) cs later ]
  none at (fixed bytes owner ∷ cs) h = elim h [ inl here ↦ here | inr later ↦ none _ cs later ]

-- nothing was written
pub plain_same : (old : List ℕ) → WritesPlain old old
plain_same old at h = inr (h, refl)

-- one after the other
pub plain_then : (old mid new : List ℕ) → WritesPlain old mid → WritesPlain mid new
    → WritesPlain old new
plain_then old mid new first second at h = elim (second at h) [
  | inl plain ↦ inl plain
  | inr kept ↦ elim (first at kept.0) [
    | inl plain ↦ inl (subst (λ (word : ℕ). IsPlain word) (sym kept.1) plain)
    | inr before ↦ inr (before.0, kept.1 ∙ before.1)
  ]
]

-- a free chunk among chunks whose first words are as they were
pub free_word : (old new : List ℕ) (there at : ℕ) (cs : List Chunk) → SameWords old new at cs
    → AnyPlaced (IsFreeAt there) at cs → u32_at new there ≡ u32_at old there
free_word old new there at [] same h = absurd h
free_word old new there at (free size ∷ cs) same h = elim h [
  | inl here ↦ subst (λ k. u32_at new k ≡ u32_at old k) here same.0
  | inr later ↦ free_word old new there (at + size) cs same.1 later
]
free_word old new there at (movable bytes lock owner slot ∷ cs) same h = elim h [
  | inl here ↦ absurd here
  | inr later ↦ free_word old new there (at + need (length bytes)) cs same.1 later
]
free_word old new there at (fixed bytes owner ∷ cs) same h = elim h [
  | inl here ↦ absurd here
  | inr later ↦ free_word old new there (at + need (length bytes)) cs same.1 later
]

-- Some chunks stand in place of others. Each free one of them has a plain first word, and the first
-- words of those before them and after them are as they were.
pub middle_plain : (old new : List ℕ) (before mid others after : List Chunk) (at : ℕ)
    → chunks_of old ≡ before ++ (mid ++ after) → Tiles new (before ++ (others ++ after))
    → area_start new ≡ area_start old → at ≡ area_start old + total before
    → total others ≡ total mid → SameWords old new (area_start old) before
    → SameWords old new (at + total mid) after
    → ((there : ℕ) → AnyPlaced (IsFreeAt there) at others → IsPlain (u32_at new there))
    → WritesPlain old new
middle_plain old new before mid others after at was tiles now_start begins sums front_words
    back_words plain there h =
    elim (AnyPlaced-split (IsFreeAt there) start before (others ++ after) found) [
      | inl front ↦
          inr (were (AnyPlaced-left _ _ _ _ front), free_word old new _ _ _ front_words front)
      | inr rest ↦
          elim (AnyPlaced-split (IsFreeAt there) (start + total before) others after rest) [
            | inl these ↦ inl (plain there (rw (← begins) at these))
            | inr back ↦
                let moved : AnyPlaced (IsFreeAt there) (start + total before + total mid) after =
                rw sums at back in
                inr (
                  were (AnyPlaced-right _ start before _ (AnyPlaced-right _ _ mid after moved)),
                  free_word old new there (at + total mid) after back_words
                      (rw (← begins) at moved),
                )
          ]
    ] where
      start : ℕ
      start = area_start old

      found : AnyPlaced (IsFreeAt there) (area_start old) (before ++ (others ++ after))
      found = rw (chunks_of-tiled new (before ++ (others ++ after)) tiles) at (rw now_start at h)

      were : AnyPlaced (IsFreeAt there) (area_start old) (before ++ (mid ++ after))
          → BeginsFree old there
      were a =
          subst (λ (cs : List Chunk). AnyPlaced (IsFreeAt there) (area_start old) cs) (sym was) a

pub replaced_plain : (old new : List ℕ) (before mid others after : List Chunk) (at : ℕ)
    → chunks_of old ≡ before ++ (mid ++ after) → IsHeap new (before ++ (others ++ after))
    → Replaces old new before mid others after at
    → ((there : ℕ) → AnyPlaced (IsFreeAt there) at others → IsPlain (u32_at new there))
    → WritesPlain old new
replaced_plain old new before mid others after at was now r plain =
    middle_plain old new before mid others after at was now.tiles (same_start old new r.head)
    r.there (replaced_total old new before mid others after at r) r.front.words r.back.words plain
