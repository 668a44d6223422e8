-- The chunk that is read at an offset is the one that is spelled there.
use Rattle.laws_heap.proofs.Words.{◌≡◌, ◌≢◌, ℕ, ◌+◌, ◌-◌, ◌%◌, ◌^◌, ◌<◌, ◌≤◌, true, false, List, length, Option, Some, None, refl, sym, ap, subst, ◌∙◌, arith, inl, inr, Decides-and, Decides-or, Decides-not, Decides-eqb, nat_tests, eqb-true, eqb-false, leb-true, leb-false, cases_eq, eq-eqb, ◌⊎◌, ◌==◌, nat_le, slice_range, if◌then◌else◌, Decides, u32_at, Chunk, free, movable, fixed, need, slot_named, seen, Spelled, IsFree, IsLive, size_field, above_size, lock_field, owner_field, h_offset_field, has_live_word, is_in_shape, chunk_by_words, chunk_at}
use Rattle.std.proofs.lemmas.List.{length-take, length-drop}
use Rattle.laws_heap.proofs.Chunks.{length-seen, seen-movable}
use Rattle.laws_heap.proofs.Tests.{Decides-nat_le, cond-true, cond-false, true_or_false, guarded, some, leb-is-true, lt-leb-false}

-- what the test of a second word decides
abbrev LiveWord : ℕ → Type 0
LiveWord word =
    ((lock_field word ≤ 15) × (((lock_field word ≡ 15) → ⊥) ⊎ (h_offset_field word ≡ 0)))
    × (((lock_field word ≡ 0) ⊎ (lock_field word ≡ 15)) ⊎ ((owner_field word ≡ 0) → ⊥))

Decides-live : (word : ℕ) → Decides (has_live_word word) (LiveWord word)
Decides-live word =
    let lock = lock_field word in
    Decides-and _ _ (Decides-and _ _ (Decides-nat_le lock 15)
    (Decides-or _ _ (Decides-not _ (Decides-eqb lock 15)) (Decides-eqb (h_offset_field word) 0)))
    (Decides-or _ _ (Decides-or _ _ (Decides-eqb lock 0) (Decides-eqb lock 15))
    (Decides-not _ (Decides-eqb (owner_field word) 0)))

-- what the test of shape decides
abbrev Shape : ℕ → ℕ → ℕ → Type 0
Shape left first second =
    (((8 ≤ size_field first) × (size_field first % 8 ≡ 0)) × (size_field first ≤ left))
    × ((2 ^ 31 ≤ first)
    ⊎ (((above_size first ≤ 7) × (above_size first ≤ size_field first - 8)) × LiveWord second))

Decides-shape : (left first second : ℕ)
    → Decides (is_in_shape left first second) (Shape left first second)
Decides-shape left first second =
    let size = size_field first in
    Decides-and _ _ (Decides-and _ _
    (Decides-and _ _ (Decides-nat_le 8 size) (Decides-eqb (size % 8) 0)) (Decides-nat_le size left))
    (Decides-or _ _ (Decides-nat_le (2 ^ 31) first)
    (Decides-and _ _ (Decides-and _ _ (Decides-nat_le (above_size first) 7)
    (Decides-nat_le (above_size first) (size - 8))) (Decides-live second)))

-- ---- a chunk in shape is spelled

abbrev body_length : ℕ → ℕ
body_length first = size_field first - 8 - above_size first

abbrev body_at : List ℕ → ℕ → ℕ → List ℕ
body_at image at first = slice_range image (at + 8) (at + 8 + body_length first)

-- what the value of the chunk has of it
abbrev seen_at : List ℕ → ℕ → ℕ → ℕ → List ℕ
seen_at image at first second =
    seen (lock_field second) (owner_field second) (body_at image at first)

-- two words in shape are those of a live chunk
live_words : (image : List ℕ) (at : ℕ) → u32_at image at < 2 ^ 31 → 8 ≤ size_field (u32_at image at)
    → size_field (u32_at image at) % 8 ≡ 0 → size_field (u32_at image at) ≤ length image - at
    → above_size (u32_at image at) ≤ 7
    → above_size (u32_at image at) ≤ size_field (u32_at image at) - 8
    → lock_field (u32_at image (at + 4)) ≤ 15 → IsLive image at (seen_at image at (u32_at image at)
    (u32_at image (at + 4))) (lock_field (u32_at image (at + 4)))
    (owner_field (u32_at image (at + 4))) (h_offset_field (u32_at image (at + 4)))
live_words image at low header whole inside small within lock =
    let first : ℕ = u32_at image at in
    let second : ℕ = u32_at image (at + 4) in
    let raw : length (body_at image at first) ≡ body_length first =
    simp (length-take, length-drop) (omega arith) in
    let len = length-seen (lock_field second) (owner_field second) (body_at image at first) ∙ raw in
    let size : need (length (seen_at image at first second)) ≡ size_field first = omega arith in
    record {
      first_word = omega arith;
      size_fits = omega arith;
      second_word = omega arith;
      lock_fits = omega arith;
      owner_fits = omega arith;
      h_offset_fits = omega arith;
      body = ap (λ n. seen (lock_field second) (owner_field second)
          (slice_range image (at + 8) (at + 8 + n))) len;
      inside = omega arith;
    }

shape_live : (image : List ℕ) (at : ℕ)
    → Shape (length image - at) (u32_at image at) (u32_at image (at + 4)) → u32_at image at < 2 ^ 31
    → IsLive image at (seen_at image at (u32_at image at) (u32_at image (at + 4)))
    (lock_field (u32_at image (at + 4))) (owner_field (u32_at image (at + 4)))
    (h_offset_field (u32_at image (at + 4))) × LiveWord (u32_at image (at + 4))
shape_live image at s low = elim s.1 [
  | inl high ↦ absurd (omega arith)
  | inr live ↦ (live_words image at low s.0.0.0 s.0.0.1 s.0.1 live.0.0 live.0.1 live.1.0.0, live.1)
]

-- the chunk after two words that have no free bit
abbrev live_by_words : List ℕ → ℕ → ℕ → ℕ → Chunk
live_by_words image at first second = if lock_field second
    == 15 then fixed (seen 15 (owner_field second) (body_at image at first)) (owner_field second)
    else movable (body_at image at first) (lock_field second) (owner_field second)
    (slot_named at (h_offset_field second))

live_spelled : (image : List ℕ) (at first second : ℕ) → IsLive image at
    (seen_at image at first second) (lock_field second) (owner_field second) (h_offset_field second)
    → LiveWord second → Spelled image at (live_by_words image at first second)
live_spelled image at first second live word = elim (true_or_false (lock_field second == 15)) [
  | inl is ↦
      let lock : lock_field second ≡ 15 = eqb-true (lock_field second) 15 is in
      subst (λ (c : Chunk). Spelled image at c) (sym (cond-true _ _ _ is))
      (subst (λ k. IsLive image at (seen k (owner_field second) (body_at image at first)) k
      (owner_field second) 0) lock
      (rw (no_way word.0.1 lock) at live))
  | inr isnt ↦
      let lock : lock_field second ≢ 15 = eqb-false (lock_field second) 15 isnt in
      let high : lock_field second ≤ 15 = word.0.0 in
      subst (λ c. Spelled image at c) (sym (cond-false _ _ _ isnt)) (
        h_offset_field second,
        rw (seen-movable (lock_field second) (owner_field second) (body_at image at first)
            (omega arith)) at live,
        omega arith,
        owned word.1 lock,
        refl,
      )
] where
  no_way : (((lock_field second ≡ 15) → ⊥) ⊎ (h_offset_field second ≡ 0)) → lock_field second ≡ 15
      → h_offset_field second ≡ 0
  no_way (inl isnt) is = absurd (isnt is)
  no_way (inr none) is = none

  owned : (((lock_field second ≡ 0) ⊎ (lock_field second ≡ 15)) ⊎ ((owner_field second ≡ 0) → ⊥))
      → lock_field second ≢ 15 → (lock_field second ≡ 0) ⊎ (0 < owner_field second)
  owned (inl (inl zero_lock)) isnt = inl zero_lock
  owned (inl (inr is)) isnt = absurd (isnt is)
  owned (inr some_owner) isnt = inr (omega arith)

shape_spelled : (image : List ℕ) (at : ℕ)
    → Shape (length image - at) (u32_at image at) (u32_at image (at + 4))
    → Spelled image at (chunk_by_words image at (u32_at image at) (u32_at image (at + 4)))
shape_spelled image at s = elim (true_or_false (nat_le (2 ^ 31) (u32_at image at))) [
  | inl high ↦
      let header : 8 ≤ size_field (u32_at image at) = s.0.0.0 in
      let inside : size_field (u32_at image at) ≤ length image - at = s.0.1 in
      let is_free : IsFree image at (size_field (u32_at image at)) = record {
        free_bit = leb-true _ _ high;
        size_field = refl;
        header_fits = header;
        whole = s.0.0.1;
        inside = omega arith;
      } in
      subst (λ (c : Chunk). Spelled image at c) (sym (cond-true _ _ _ high)) is_free
  | inr low ↦
      let live = shape_live image at s (leb-false _ _ low) in
      subst (λ c. Spelled image at c) (sym (cond-false _ _ _ low))
      (live_spelled image at (u32_at image at) (u32_at image (at + 4)) live.0 live.1)
]

-- ---- a chunk that is spelled is in shape, and is read

-- the fields of the words of a live chunk
pub record Fields (first second : ℕ) (count lock owner h_offset : ℕ) : Type 0 where
  pub no_free_bit : first < 2 ^ 31
  pub size : size_field first ≡ need count
  pub adjustment : above_size first ≡ need count - 8 - count
  pub lock_is : lock_field second ≡ lock
  pub owner_is : owner_field second ≡ owner
  pub way : h_offset_field second ≡ h_offset

live_fields : (image : List ℕ) (at : ℕ) (bytes : List ℕ) (lock owner h_offset : ℕ)
    → IsLive image at bytes lock owner h_offset
    → Fields (u32_at image at) (u32_at image (at + 4)) (length bytes) lock owner h_offset
live_fields image at bytes lock owner h_offset s =
    let first = s.first_word in
    let second = s.second_word in
    let fits : need (length bytes) < 2 ^ 24 = s.size_fits in
    let a = s.lock_fits in
    let b = s.owner_fits in
    let c = s.h_offset_fits in
    record {
      no_free_bit = omega arith;
      size = omega arith;
      adjustment = omega arith;
      lock_is = omega arith;
      owner_is = omega arith;
      way = omega arith;
    }

live_word : (second lock owner h_offset : ℕ) → lock_field second ≡ lock → owner_field second ≡ owner
    → h_offset_field second ≡ h_offset → lock < 16 → ((lock ≡ 15) → h_offset ≡ 0)
    → ((lock ≡ 0) ⊎ (lock ≡ 15)) ⊎ (0 < owner) → LiveWord second
live_word second lock owner h_offset a b c low fixed_way owned = (
  (omega arith, way),
  own owned,
) where
  way : ((lock_field second ≡ 15) → ⊥) ⊎ (h_offset_field second ≡ 0)
  way = elim (cases_eq lock 15) [
    | inl is ↦ inr (c ∙ fixed_way is)
    | inr isnt ↦ inl (λ e. isnt (sym a ∙ e))
  ]

  own : ((lock ≡ 0) ⊎ (lock ≡ 15)) ⊎ (0 < owner)
      → ((lock_field second ≡ 0) ⊎ (lock_field second ≡ 15)) ⊎ ((owner_field second ≡ 0) → ⊥)
  own (inl (inl z)) = inl (inl (a ∙ z))
  own (inl (inr f)) = inl (inr (a ∙ f))
  own (inr some_owner) = inr (λ e. omega arith)

live_shape : (image : List ℕ) (at : ℕ) (bytes : List ℕ) (lock owner h_offset : ℕ)
    → IsLive image at bytes lock owner h_offset → LiveWord (u32_at image (at + 4))
    → Shape (length image - at) (u32_at image at) (u32_at image (at + 4))
live_shape image at bytes lock owner h_offset s word =
    let f = live_fields image at bytes lock owner h_offset s in
    let size = f.size in
    let adjustment = f.adjustment in
    let inside : at + need (length bytes) ≤ length image = s.inside in
    (((omega arith, omega arith), omega arith), inr ((omega arith, omega arith), word))

spelled_shape : (image : List ℕ) (at : ℕ) (c : Chunk) → Spelled image at c
    → Shape (length image - at) (u32_at image at) (u32_at image (at + 4))
spelled_shape image at (free size) s =
    let field = s.size_field in
    let header : 8 ≤ size = s.header_fits in
    let whole = s.whole in
    let inside : at + size ≤ length image = s.inside in
    (((omega arith, omega arith), omega arith), inl s.free_bit)
spelled_shape image at (movable bytes lock owner slot) s =
    let f = live_fields image at bytes lock owner s.0 s.1 in
    let low : lock < 15 = s.2 in
    live_shape image at bytes lock owner s.0 s.1
    (live_word (u32_at image (at + 4)) lock owner s.0 f.lock_is f.owner_is f.way (omega arith)
    (λ e. absurd (omega arith)) (elim s.3 [ inl z ↦ inl (inl z) | inr o ↦ inr o ]))
spelled_shape image at (fixed bytes owner) s =
    let f = live_fields image at bytes 15 owner 0 s in
    live_shape image at bytes 15 owner 0 s (live_word (u32_at image (at + 4)) 15 owner 0 f.lock_is
    f.owner_is f.way (omega arith) (λ e. refl) (inl (inr refl)))

-- the body that is read has the length that the words say
read_body : (image : List ℕ) (at : ℕ) (bytes : List ℕ) (lock owner h_offset : ℕ)
    → IsLive image at bytes lock owner h_offset
    → seen lock owner (body_at image at (u32_at image at)) ≡ bytes
read_body image at bytes lock owner h_offset s =
    let f = live_fields image at bytes lock owner h_offset s in
    let size = f.size in
    let adjustment = f.adjustment in
    let len : body_length (u32_at image at) ≡ length bytes = omega arith in
    ap (λ (n : ℕ). seen lock owner (slice_range image (at + 8) (at + 8 + n))) len ∙ s.body

pub same_movable : {xs ys : List ℕ} {k l v w d e : ℕ} → xs ≡ ys → k ≡ l → v ≡ w → d ≡ e
    → movable xs k v d ≡ movable ys l w e
same_movable a b c d = cc

spelled_read : (image : List ℕ) (at : ℕ) (c : Chunk) → Spelled image at c
    → chunk_by_words image at (u32_at image at) (u32_at image (at + 4)) ≡ c
spelled_read image at (free size) s =
    cond-true _ _ _ (leb-is-true _ _ s.free_bit) ∙ ap free s.size_field
spelled_read image at (fixed bytes owner) s =
    let f = live_fields image at bytes 15 owner 0 s in
    let own = f.owner_is in
    let body = ap (λ v. seen 15 v (body_at image at (u32_at image at))) own
    ∙ read_body image at bytes 15 owner 0 s in
    let is : (lock_field (u32_at image (at + 4)) == 15) ≡ true = eq-eqb _ _ f.lock_is in
    cond-false _ _ _ (lt-leb-false _ _ f.no_free_bit) ∙ cond-true _ _ _ is
    ∙ ap (λ x. fixed x (owner_field (u32_at image (at + 4)))) body ∙ ap (fixed bytes) own
spelled_read image at (movable bytes lock owner slot) s =
    let f = live_fields image at bytes lock owner s.0 s.1 in
    let low : lock < 15 = s.2 in
    let lock_is = f.lock_is in
    let isnt : (lock_field (u32_at image (at + 4)) == 15) ≡ false = grind (arith, nat_tests) in
    cond-false _ _ _ (lt-leb-false _ _ f.no_free_bit) ∙ cond-false _ _ _ isnt
    ∙ same_movable (sym (seen-movable lock owner (body_at image at (u32_at image at)) low)
    ∙ read_body image at bytes lock owner s.0 s.1) f.lock_is f.owner_is (ap (slot_named at) f.way
    ∙ sym s.4)

-- ---- what stands at an offset is read there, and what is read stands there

pub chunk_at-spelled : (image : List ℕ) (at : ℕ) (c : Chunk) → Spelled image at c
    → chunk_at image at ≡ Some c
unfolding chunk_at
chunk_at-spelled image at c s =
    cond-true _ _ _ ((Decides-shape (length image - at) (u32_at image at) (u32_at image (at + 4))).1
    (spelled_shape image at c s)) ∙ ap some (spelled_read image at c s)

pub chunk_at-stands : (image : List ℕ) (at : ℕ) (c : Chunk) → chunk_at image at ≡ Some c
    → Spelled image at c
unfolding chunk_at
chunk_at-stands image at c e =
    let g = guarded (is_in_shape (length image - at) (u32_at image at) (u32_at image (at + 4)))
    (chunk_by_words image at (u32_at image at) (u32_at image (at + 4))) c e in
    subst (λ d. Spelled image at d) g.1 (shape_spelled image at ((Decides-shape _ _ _).0 g.0))

-- where nothing is spelled, nothing is read
pub chunk_at-none : (image : List ℕ) (at : ℕ) → ((c : Chunk) → Spelled image at c → ⊥)
    → chunk_at image at ≡ None
chunk_at-none image at none = by_case (chunk_at image at) refl where
  by_case : (r : Option Chunk) → chunk_at image at ≡ r → r ≡ None
  by_case None e = refl
  by_case (Some c) e = absurd (none c (chunk_at-stands image at c e))
