-- Cells, and the bytes in them.
use Rattle.heap_map.proofs.Words.{◌≡◌, ℕ, suc, ◌+◌, ◌-◌, ◌*◌, ◌/◌, ◌<◌, ◌≤◌, Bool, true, false, cond, List, [], ◌∷◌, ◌++◌, length, refl, sym, ap, subst, ◌∙◌, arith, inl, inr, ◌⊎◌, min, nat_lt, slice_index, cases_lt, nat_tests, Chunk, free, movable, fixed, size_of, total, free_size, area_start, IsSlot, BodyHere, HeapAccepted, chunks_of, SpelledAll-end, read_heap, Header, header_of, size_by, HasHeader, IsRoomFor, HasPassed, passed_step, passed_more, slot_word, numbered, Accepted, length-numbered, area_size, cell_size, cell_count, mark_at, in_cell, mark_here, first_mark, free_here, free_within, free_taken, drawn_by, IsClear, HoldChunks, AddsChunk}
use Rattle.std.proofs.Math.Nat.{mul-le-mul_left, mul-le-mul_right}
use Rattle.heap_model.specs.Placed.{AnyPlaced}
use Rattle.laws_heap.proofs.Placed.{AnyPlaced-mid}
use Rattle.laws_heap.proofs.Meanings.{slot_place}
use Rattle.chunk_format.proofs.HeaderLaws.{size_by-header_of}
use Rattle.store_check.specs.Naming.{AreEnoughMarks}
use Rattle.heap_map.specs.declared.cells.Cells.{Cells}
use Rattle.heap_map.specs.Marks.{free_mark, mark_of, mark_by, cell_byte}
use Rattle.laws_store.proofs.Numbers.{numbered_more}
use Rattle.heap_map.specs.Cells.{marks as image_marks}

-- ---- the cells that have some bytes

-- the cells before the first
pub cell_before : (size k from to : ℕ) → 0 < size → k < from / size → in_cell size k from to ≡ 0
cell_before size k from to positive less =
    let up = mul-le-mul_left size (let e : k + 1 ≤ from / size = omega arith in e) in
    omega arith

-- those after the last
pub cell_behind : (size k from to : ℕ) → 0 < size → from < to → (to - 1) / size < k
    → in_cell size k from to ≡ 0
cell_behind size k from to positive some more =
    let up = mul-le-mul_left size (let e : (to - 1) / size + 1 ≤ k = omega arith in e) in
    omega arith

-- and those between
pub cell_between : (size k from to : ℕ) → 0 < size → from < to → from / size ≤ k
    → k ≤ (to - 1) / size → 0 < in_cell size k from to
cell_between size k from to positive some low high =
    let left = mul-le-mul_left size low in
    let right = mul-le-mul_left size high in
    omega arith

-- the first is not after the last
pub cells_order : (size from to : ℕ) → 0 < size → from < to → from / size ≤ (to - 1) / size
cells_order size from to positive some = elim (cases_lt ((to - 1) / size) (from / size)) [
  | inl less ↦ let up = mul-le-mul_left size
      (let e : (to - 1) / size + 1 ≤ from / size = omega arith in e) in absurd (omega arith)
  | inr order ↦ order
]

-- there are as many cells as it takes
pub cells_within : (size from to count : ℕ) → 0 < size → from < to → to ≤ size * count
    → (to - 1) / size < count
cells_within size from to count positive some inside = elim (cases_lt ((to - 1) / size) count) [
  | inl less ↦ less
  | inr past ↦ let up = mul-le-mul_left size past in absurd (omega arith)
]

lt_yes : (a x y : ℕ) → 0 < a → cond (nat_lt 0 a) x y ≡ x
lt_yes a x y less = grind (arith, nat_tests)

lt_no : (a x y : ℕ) → a ≡ 0 → cond (nat_lt 0 a) x y ≡ y
lt_no a x y e = grind (arith, nat_tests)

-- a cell after bytes get a mark, or are counted
pub cell_marked : (size k from to mark old new : ℕ) → 0 < size → from < to
    → ((k < from / size) ⊎ ((to - 1) / size + 1 ≤ k) → new ≡ old)
    → (from / size ≤ k → k < (to - 1) / size + 1 → new ≡ min mark old)
    → new ≡ cond (nat_lt 0 (in_cell size k from to)) (min mark old) old
cell_marked size k from to mark old new positive some outside inside =
    elim (cases_lt k (from / size)) [
      | inl before ↦ outside (inl before)
          ∙ sym (lt_no _ (min mark old) _ (cell_before _ k from to positive before))
      | inr low ↦ elim (cases_lt ((to - 1) / size) k) [
        | inl behind ↦ outside (inr (omega arith))
            ∙ sym (lt_no _ (min mark old) _ (cell_behind _ k _ to positive some behind))
        | inr high ↦ inside low (omega arith)
            ∙ sym (lt_yes _ _ old (cell_between _ k _ to positive some low high))
      ]
    ]

pub cell_counted : (size k from to old new : ℕ) → 0 < size → from < to
    → ((k < from / size) ⊎ ((to - 1) / size + 1 ≤ k) → new ≡ old)
    → (from / size ≤ k → k < (to - 1) / size + 1 → new ≡ old + in_cell size k from to)
    → new ≡ old + in_cell size k from to
cell_counted size k from to old new positive some outside inside = elim (cases_lt k (from / size)) [
  | inl before ↦ let same = outside (inl before) in
      let none = cell_before _ k from to positive before in omega arith
  | inr low ↦ elim (cases_lt ((to - 1) / size) k) [
    | inl behind ↦ let same = outside (inr (omega arith)) in
        let none = cell_behind _ k _ to positive some behind in omega arith
    | inr high ↦ inside low (omega arith)
  ]
]

-- ---- one chunk more

pub first_more : (image : List ℕ) (size k at : ℕ) (cs : List Chunk) (c : Chunk)
    → first_mark image size k at (cs ++ c ∷ [])
    ≡ min (mark_here image size k (at + total cs) c) (first_mark image size k at cs)
first_more image size k at [] c =
    let e : at + 0 ≡ at = omega arith in
    ap (λ (n : ℕ). min (mark_here image size k n c) free_mark) (sym e)
first_more image size k at (d ∷ cs) c =
    let ih = first_more image size k (at + size_of d) cs c in
    let e : at + size_of d + total cs ≡ at + (size_of d + total cs) = omega arith in
    let there = ap (λ (n : ℕ). mark_here image size k n c) e in
    omega arith

pub free_more : (size k at : ℕ) (cs : List Chunk) (c : Chunk) → free_within size k at (cs ++ c ∷ [])
    ≡ free_within size k at cs + free_here size k (at + total cs) c
free_more size k at [] c =
    let e : at + 0 ≡ at = omega arith in
    let there = ap (λ (n : ℕ). free_here size k n c) e in
    omega arith
free_more size k at (d ∷ cs) c =
    let ih = free_more size k (at + size_of d) cs c in
    let e : at + size_of d + total cs ≡ at + (size_of d + total cs) = omega arith in
    let there = ap (λ (n : ℕ). free_here size k n c) e in
    omega arith

-- no mark comes after that of free space
marks_before : (image : List ℕ) (size k at : ℕ) (cs : List Chunk)
    → first_mark image size k at cs ≤ free_mark
marks_before image size k at [] = omega arith
marks_before image size k at (c ∷ cs) = let ih = marks_before image size k (at + size_of c) cs in
    omega arith

-- a cell has no more free bytes than there are
pub free_most : (size k at : ℕ) (cs : List Chunk) → free_within size k at cs ≤ total cs
free_most size k at [] = omega arith
free_most size k at (free n ∷ cs) = let ih = free_most size k (at + n) cs in omega arith
free_most size k at (movable bytes lock owner slot ∷ cs) = let ih =
    free_most size k (at + size_of (movable bytes lock owner slot)) cs in omega arith
free_most size k at (fixed bytes owner ∷ cs) = let ih =
    free_most size k (at + size_of (fixed bytes owner)) cs in omega arith

-- the mark of a chunk by its header
pub mark_by-is : (image : List ℕ) (c : Chunk) → mark_by image (header_of c) ≡ mark_of image c
mark_by-is image (free size) = refl
mark_by-is image (movable bytes lock owner slot) = refl
mark_by-is image (fixed bytes owner) = refl

-- ---- a chunk that is added

pick : (t : Bool) (m o : ℕ) → o ≤ free_mark → cond t (min m o) o ≡ min (cond t m free_mark) o
pick true m o less = refl
pick false m o less = omega arith

drawn : (image : List ℕ) (c : Chunk)
    → drawn_by (header_of c) (mark_by image (header_of c)) ≡ mark_of image c
drawn image (free size) = refl
drawn image (movable bytes lock owner slot) = refl
drawn image (fixed bytes owner) = refl

freed : (c : Chunk) → free_taken (header_of c) (size_of c) ≡ free_size c
freed (free size) = refl
freed (movable bytes lock owner slot) = refl
freed (fixed bytes owner) = refl

pub hold_none : (image : List ℕ) (cells : Cells) → IsClear (length cells.marks.items) cells
    → HoldChunks image cells []
hold_none image cells clear = record {
  marks = λ k below. clear.marks k below;
  free = λ k below. let same = clear.free_count in clear.free k (omega arith);
  same = clear.free_count;
}

-- the effect of a chunk that begins where others end
record Adds (image : List ℕ) (old new : Cells) (cs : List Chunk) (c : Chunk) : Type 0 where
  size : new.size ≡ old.size
  marks : (k : ℕ) → k < length old.marks.items → slice_index old.marks.items k ≤ free_mark
      → slice_index new.marks.items k
      ≡ cond (nat_lt 0 (in_cell old.size k (total cs) (total cs + size_of c)))
      (min (mark_of image c) (slice_index old.marks.items k)) (slice_index old.marks.items k)
  free : (k : ℕ) → k < length old.free.items → slice_index new.free.items k
      ≡ slice_index old.free.items k + in_cell old.size k (total cs) (total cs + free_size c)
  mark_count : length new.marks.items ≡ length old.marks.items
  free_count : length new.free.items ≡ length old.free.items

added : (image : List ℕ) (old new : Cells) (cs : List Chunk) (c : Chunk) (header : Header)
    (mark at taken : ℕ) → header ≡ header_of c → mark ≡ mark_by image header → at ≡ total cs
    → taken ≡ size_of c → AddsChunk old new header mark at taken → Adds image old new cs c
added image old new cs c header mark at taken is is_mark there takes a =
    let drawn_is = ap (λ m. drawn_by header m) is_mark ∙ ap (λ x. drawn_by x (mark_by image x)) is
    ∙ drawn image c in
    let free_is =
    ap (λ n. free_taken header n) takes ∙ ap (λ x. free_taken x (size_of c)) is ∙ freed c in
    record {
      size = a.size;
      marks = λ k below most. a.marks k below most
          ∙ ap (λ (m : ℕ). cond (nat_lt 0 (in_cell old.size k at (at + taken)))
          (min m (slice_index old.marks.items k)) (slice_index old.marks.items k)) drawn_is
          ∙ ap (λ (n : ℕ). cond (nat_lt 0 (in_cell old.size k at (at + n))) (min (mark_of image c)
          (slice_index old.marks.items k)) (slice_index old.marks.items k)) takes
          ∙ ap (λ (n : ℕ). cond (nat_lt 0 (in_cell old.size k n (n + size_of c))) (min
          (mark_of image c) (slice_index old.marks.items k)) (slice_index old.marks.items k)) there;
      free = λ k below. a.free k below
          ∙ ap (λ (n : ℕ). slice_index old.free.items k + in_cell old.size k at (at + n)) free_is
          ∙ ap (λ n. slice_index old.free.items k + in_cell old.size k n (n + free_size c)) there;
      mark_count = a.mark_count;
      free_count = a.free_count;
    }

pub hold_more : (image : List ℕ) (old new : Cells) (cs : List Chunk) (c : Chunk) (header : Header)
    (mark at taken : ℕ) → header ≡ header_of c → mark ≡ mark_by image header → at ≡ total cs
    → taken ≡ size_of c → AddsChunk old new header mark at taken → HoldChunks image old cs
    → HoldChunks image new (cs ++ c ∷ [])
hold_more image old new cs c header mark at taken is is_mark there takes adds h =
    record { marks = marks; free = frees; same = same } where
      a : Adds image old new cs c
      a = added image old new cs c header mark at taken is is_mark there takes adds

      same : length new.free.items ≡ length new.marks.items
      same = a.free_count ∙ h.same ∙ sym a.mark_count

      marks : (k : ℕ) → k < length new.marks.items
          → slice_index new.marks.items k ≡ first_mark image new.size k 0 (cs ++ c ∷ [])
      marks k below =
          let count = a.mark_count in
          let inside : k < length old.marks.items = omega arith in
          let was = h.marks k inside in
          let most = marks_before image old.size k 0 cs in
          let start : 0 + total cs ≡ total cs = omega arith in
          a.marks k inside (omega arith)
          ∙ pick (nat_lt 0 (in_cell old.size k (total cs) (total cs + size_of c))) (mark_of image c)
          (slice_index old.marks.items k) (omega arith)
          ∙ ap (λ (o : ℕ). min (mark_here image old.size k (total cs) c) o) was
          ∙ ap (λ n. min (mark_here image old.size k n c) (first_mark image old.size k 0 cs))
          (sym start) ∙ sym (first_more image old.size k 0 cs c)
          ∙ ap (λ (s : ℕ). first_mark image s k 0 (cs ++ c ∷ [])) (sym a.size)

      frees : (k : ℕ) → k < length new.free.items
          → slice_index new.free.items k ≡ free_within new.size k 0 (cs ++ c ∷ [])
      frees k below =
          let count = a.free_count in
          let inside : k < length old.free.items = omega arith in
          let start : 0 + total cs ≡ total cs = omega arith in
          a.free k inside ∙ ap (λ (o : ℕ). o + free_here old.size k (total cs) c) (h.free k inside)
          ∙ ap (λ (n : ℕ). free_within old.size k 0 cs + free_here old.size k n c) (sym start)
          ∙ sym (free_more old.size k 0 cs c)
          ∙ ap (λ (s : ℕ). free_within s k 0 (cs ++ c ∷ [])) (sym a.size)

-- ---- the walk

pub hold_step : (image : List ℕ) (old new : Cells) (at start : ℕ) (header : Header) (mark taken : ℕ)
    → start ≡ area_start image → HasPassed image (HoldChunks image old) at
    → (f : HasHeader image at header) → mark ≡ mark_by image header → taken ≡ size_by header
    → AddsChunk old new header mark (at - start) taken
    → HasPassed image (HoldChunks image new) (at + size_by header)
hold_step image old new at start header mark taken is_start p f is_mark takes adds =
    let size = ap size_by f.header_is ∙ size_by-header_of f.chunk in
    passed_more image (HoldChunks image old) (HoldChunks image new) at header p f
    (λ cs there h. hold_more _ _ _ cs f.chunk _ _ _ _ f.header_is is_mark
    (omega (arith, there, is_start)) (takes ∙ size) adds h)

-- the walk is not before the first chunk
pub hold_start : (image : List ℕ) (P : List Chunk → Type 0) (at : ℕ) → HasPassed image P at
    → area_start image ≤ at
hold_start image P at p = let there = SpelledAll-end _ _ _ at p.spelled in omega arith

-- a cell has fewer free bytes than the image has bytes
pub free_few : (image : List ℕ) (cells : Cells) (at k : ℕ)
    → HasPassed image (HoldChunks image cells) at → k < length cells.free.items
    → slice_index cells.free.items k ≤ at
free_few image cells at k p below =
    let there = SpelledAll-end image (area_start image) p.chunks at p.spelled in
    let is = p.holds.free k below in
    let most = free_most cells.size k 0 p.chunks in
    omega arith

-- a movable chunk's slot has a word in a table
pub header_room : (image : List ℕ) (P : List Chunk → Type 0) (at : ℕ) (header : Header) (count : ℕ)
    → HeapAccepted image → HasPassed image P at → HasHeader image at header
    → AreEnoughMarks image count → IsRoomFor header count
header_room image P at header count h p f room =
    (passed_step _ P (λ chunks. IsRoomFor header count) at _ (read_heap _ h).tiles p f
    (λ chunks after there parts was. by chunks after f.chunk parts f.header_is)).holds where
      by : (chunks after : List Chunk) (c : Chunk) → chunks_of image ≡ chunks ++ c ∷ after
          → header ≡ header_of c → IsRoomFor header count
      by chunks after (free size) parts is = subst (λ (x : Header). IsRoomFor x count) (sym is) tt
      by chunks after (fixed bytes owner) parts is = rw is tt
      by chunks after (movable bytes lock owner slot) parts is =
          let at : ℕ = area_start image + total chunks in
          let s = (slot_place image (chunks_of image) slot (at + 8) (read_heap image h)
          (rw parts (AnyPlaced-mid _ _ chunks _ after (refl, refl)))).0 in
          let word = slot_word image slot h s in
          rw is (word.0, sym word.1, room word.0 (subst (IsSlot image) (sym word.1) s))

-- ---- the cells of an image

pub length-marks : (image : List ℕ) → length (image_marks image) ≡ cell_count image
unfolding image_marks
length-marks image = length-numbered (mark_at image) (cell_count image)

-- some bytes are chunks'
some_area : (image : List ℕ) → Accepted image → 8 ≤ area_size image
some_area image a = let fits = (read_heap image a.heap).tiles.head.a_chunk_fits in omega arith

-- each cell begins within the area
pub cell_starts : (image : List ℕ) (k : ℕ) → Accepted image → k < cell_count image
    → cell_size image * k < area_size image
cell_starts image k a below =
    let some = some_area image a in
    let up =
    mul-le-mul_left (cell_size image) (let e : k + 1 ≤ cell_count image = omega arith in e) in
    omega arith

pub few_cells : (image : List ℕ) → Accepted image → cell_count image ≤ area_size image
few_cells image a = elim (cases_lt (area_size image) (cell_count image)) [
  | inl less ↦
      let starts = cell_starts image (area_size image) a less in
      let some = some_area image a in
      let up =
      mul-le-mul_right (area_size image) (let e : 1 ≤ cell_size image = omega arith in e) in
      absurd (omega arith)
  | inr few ↦ few
]

pub mark_is : (image : List ℕ) (size k mark free_bytes size_here : ℕ) → size ≡ cell_size image
    → mark ≡ first_mark image size k 0 (chunks_of image)
    → free_bytes ≡ free_within size k 0 (chunks_of image)
    → size_here ≡ min size (area_size image - size * k)
    → cell_byte mark free_bytes size_here ≡ mark_at image k
unfolding mark_at
mark_is image size k mark free_bytes size_here is_size is_mark is_free is_here =
    let cs : List Chunk = chunks_of image in
    ap (λ (m : ℕ). cell_byte m free_bytes size_here) is_mark
    ∙ ap (λ (f : ℕ). cell_byte (first_mark image size k 0 cs) f size_here) is_free
    ∙ ap (λ (n : ℕ). cell_byte (first_mark image size k 0 cs) (free_within size k 0 cs) n) is_here
    ∙ ap (λ s. cell_byte (first_mark image s k 0 cs) (free_within s k 0 cs)
    (min s (area_size image - s * k))) is_size

pub free_total_most : (image : List ℕ) (size k : ℕ) → Accepted image
    → free_within size k 0 (chunks_of image) ≤ 16777208
free_total_most image size k a =
    let tiles = (read_heap image a.heap).tiles in
    let most = free_most size k 0 (chunks_of image) in
    let there = SpelledAll-end _ _ _ _ tiles.area in
    let whole = tiles.head.most in
    omega arith

pub marks_more : (image : List ℕ) (k byte : ℕ) (old new : List ℕ) → new ≡ old ++ byte ∷ []
    → old ≡ numbered (mark_at image) k → byte ≡ mark_at image k
    → new ≡ numbered (mark_at image) (k + 1)
marks_more image k byte old new is was here =
    let e : suc k ≡ k + 1 = omega arith in
    is ∙ ap (λ xs. xs ++ byte ∷ []) was ∙ ap (λ b. numbered (mark_at image) k ++ b ∷ []) here
    ∙ sym (numbered_more (mark_at image) k) ∙ ap (numbered (mark_at image)) e

pub marks_all : (image : List ℕ) (k : ℕ) (marks : List ℕ) → marks ≡ numbered (mark_at image) k
    → k ≡ cell_count image → marks ≡ image_marks image
unfolding image_marks
marks_all image k marks is e = is ∙ ap (numbered (mark_at image)) e
