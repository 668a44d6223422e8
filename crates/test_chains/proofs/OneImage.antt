-- The bytes of a migrated image, one by one.
use Rattle.std.proofs.Common.{true, false, ◌≡◌, ℕ, suc, ◌+◌, ◌-◌, ◌*◌, ◌/◌, ◌<◌, ◌≤◌, List, [], ◌∷◌, length, refl, sym, ap, subst, ◌∙◌, arith, inl, inr}
use Rattle.std.proofs.lemmas.Bool.{cases_eq, cases_lt}
use Rattle.std.proofs.lemmas.Grind.{same_number_lists}
use Rattle.std.specs.Prelude.{◌==◌, slice_index}
use Rattle.heap_model.specs.Bytes.{AreBytes, u32_at}
use Rattle.heap_model.specs.Chunk.{Chunk, free, movable, fixed, size_of, SpelledAll}
use Rattle.heap_model.specs.Placed.{EveryPlaced}
use Rattle.heap_model.specs.Slots.{slot_count, table_end, head_end, aligned, area_start, is_chained, IsSlot}
use Rattle.heap_model.specs.Heap.{HeapAccepted}
use Rattle.heap_model.specs.Reading.{chunks_of}
use Rattle.heap_model.specs.Migration.{StandsFurther, MigratesBytes}
use Rattle.laws_heap.proofs.Frames.{u16_at-same}
use Rattle.laws_heap.proofs.Tables.{chained_behind}
use Rattle.laws_heap.proofs.OneTable.{one_stands}
use Rattle.laws_heap.proofs.Slots.{stands_slot}
use Rattle.laws_heap.proofs.FoundChunks.{read_heap}
use Rattle.test_chains.specs.Laws.{MigratesToOne}

-- ---- the bytes of a word

high_part : (a r b s : ℕ) → r < 16777216 → s < 16777216 → a * 16777216 + r ≡ b * 16777216 + s → (a ≡ b) × (r ≡ s)
high_part a r b s low other e = (omega arith, omega arith)

next_part : (a r b s : ℕ) → r < 65536 → s < 65536 → a * 65536 + r ≡ b * 65536 + s → (a ≡ b) × (r ≡ s)
next_part a r b s low other e = (omega arith, omega arith)

low_parts : (a r b s : ℕ) → r < 256 → s < 256 → a * 256 + r ≡ b * 256 + s → (a ≡ b) × (r ≡ s)
low_parts a r b s low other e = (omega arith, omega arith)

-- two lists of bytes that have the same word at an offset have the same four bytes there
word_bytes : (xs ys : List ℕ) (at : ℕ) → AreBytes xs → AreBytes ys → u32_at xs at ≡ u32_at ys at → (k : ℕ) → at ≤ k → k < at + 4 → slice_index xs k ≡ slice_index ys k
unfolding u32_at
word_bytes xs ys at bx by e k low high =
    let b1 = bx (suc at) in
    let b2 = bx (suc (suc at)) in
    let b3 = bx (suc (suc (suc at))) in
    let c1 = by (suc at) in
    let c2 = by (suc (suc at)) in
    let c3 = by (suc (suc (suc at))) in
    let one = high_part (slice_index xs at) (slice_index xs (suc at) * 65536 + (slice_index xs (suc (suc at)) * 256 + slice_index xs (suc (suc (suc at))))) (slice_index ys at) (slice_index ys (suc at) * 65536 + (slice_index ys (suc (suc at)) * 256 + slice_index ys (suc (suc (suc at))))) (omega arith) (omega arith) (omega (arith, e)) in
    let two = next_part (slice_index xs (suc at)) (slice_index xs (suc (suc at)) * 256 + slice_index xs (suc (suc (suc at)))) (slice_index ys (suc at)) (slice_index ys (suc (suc at)) * 256 + slice_index ys (suc (suc (suc at)))) (omega arith) (omega arith) one.1 in
    let three = low_parts (slice_index xs (suc (suc at))) (slice_index xs (suc (suc (suc at)))) (slice_index ys (suc (suc at))) (slice_index ys (suc (suc (suc at)))) b3 c3 two.1 in
    elim (cases_eq k at) [
      | inl is ↦ there at is one.0
      | inr other ↦ elim (cases_eq k (suc at)) [
        | inl is ↦ there (suc at) is two.0
        | inr more ↦ elim (cases_eq k (suc (suc at))) [
          | inl is ↦ there (suc (suc at)) is three.0
          | inr last ↦ there (suc (suc (suc at))) (omega arith) three.1
        ]
      ]
    ] where
      there : (n : ℕ) → k ≡ n → slice_index xs n ≡ slice_index ys n → slice_index xs k ≡ slice_index ys k
      there n is same = subst (λ (i : ℕ). slice_index xs i ≡ slice_index ys i) (sym is) same

-- ---- the bytes of chunks

chunk_bytes : (old a b : List ℕ) (by at : ℕ) (c : Chunk) → AreBytes a → AreBytes b → StandsFurther old a by at c → StandsFurther old b by at c → (k : ℕ) → at ≤ k → k < at + size_of c → slice_index a (k + by) ≡ slice_index b (k + by)
chunk_bytes old a b by at (free size) ba bb f g k low high = f k low high ∙ sym (g k low high)
chunk_bytes old a b by at (fixed bytes owner) ba bb f g k low high = f k low high ∙ sym (g k low high)
chunk_bytes old a b by at (movable bytes lock owner slot) ba bb f g k low high = elim (cases_lt k (at + 4)) [
  | inl first ↦ f.0 k low first ∙ sym (g.0 k low first)
  | inr rest ↦ elim (cases_lt k (at + 8)) [
    | inl second ↦ word_bytes a b (at + by + 4) ba bb (f.1 ∙ sym g.1) (k + by) (omega arith) (omega arith)
    | inr body ↦ f.2 k body high ∙ sym (g.2 k body high)
  ]
]

chunks_bytes : (old a b : List ℕ) (by at : ℕ) (cs : List Chunk) (end : ℕ) → AreBytes a → AreBytes b → EveryPlaced (StandsFurther old a by) at cs → EveryPlaced (StandsFurther old b by) at cs → SpelledAll old at cs end
    → (k : ℕ) → at ≤ k → k < end → slice_index a (k + by) ≡ slice_index b (k + by)
chunks_bytes old a b by at [] end ba bb f g s k low high = let e : at ≡ end = s in absurd (omega arith)
chunks_bytes old a b by at (c ∷ cs) end ba bb f g s k low high = elim (cases_lt k (at + size_of c)) [
  | inl here ↦ chunk_bytes old a b by at c ba bb f.0 g.0 k low here
  | inr later ↦ chunks_bytes old a b by (at + size_of c) cs end ba bb f.1 g.1 s.1 k later high
]

-- ---- the image

-- the new image has the offset of its chunks by the table of the old one
start_is : (old new : List ℕ) (by : ℕ) → MigratesBytes old new by → area_start old + by ≡ aligned (table_end old + 4)
start_is old new by m =
    let chained : is_chained new ≡ true = ap (λ (w : ℕ). w == 0x50484932) m.magic in
    let count : slot_count new ≡ slot_count old = sym (u16_at-same 8 old new 8 16 record { same = λ k low high. sym (m.frame k low high) } (omega arith) (omega arith)) in
    let more = chained_behind new chained in
    let four : head_end new ≡ table_end old + 4 = omega (arith, more, count) in
    sym m.shift ∙ ap (λ (end : ℕ). aligned end) four

same_growth : (old a b : List ℕ) (by more : ℕ) → MigratesBytes old a by → MigratesBytes old b more → by ≡ more
same_growth old a b by more f g = let one = start_is old a by f in let other = start_is old b more g in omega (arith, one, other)

same_image : (old a b : List ℕ) (by : ℕ) → HeapAccepted old → is_chained old ≡ false → AreBytes a → AreBytes b → MigratesBytes old a by → MigratesBytes old b by → a ≡ b
same_image old a b by h plain ba bb f g = same_number_lists a b (f.len ∙ sym g.len) each where
  size : u32_at a 4 ≡ u32_at b 4
  size = f.size ∙ f.len ∙ sym g.len ∙ sym g.size

  in_slot : (k : ℕ) → 16 ≤ k → k < table_end old → slice_index a k ≡ slice_index b k
  in_slot k low high =
      let j : ℕ = (k - 16) / 4 in
      let slot : ℕ = 16 + 4 * j in
      let is : IsSlot old slot = stands_slot old slot j (one_stands old slot j plain (omega arith) refl) in
      word_bytes a b slot ba bb (f.slots slot is ∙ sym (g.slots slot is)) k (omega arith) (omega arith)

  in_chunk : (k : ℕ) → area_start old + by ≤ k → k < length a → slice_index a k ≡ slice_index b k
  in_chunk k low high =
      let len = f.len in
      let back : k - by + by ≡ k = omega arith in
      subst (λ (n : ℕ). slice_index a n ≡ slice_index b n) back (chunks_bytes old a b by (area_start old) (chunks_of old) (length old) ba bb f.chunks g.chunks (read_heap old h).tiles.area (k - by) (omega arith) (omega (arith, len)))

  each : (k : ℕ) → k < length a → slice_index a k ≡ slice_index b k
  each k inside = elim (cases_lt k 4) [
    | inl magic ↦ word_bytes a b 0 ba bb (f.magic ∙ sym g.magic) k (omega arith) magic
    | inr four ↦ elim (cases_lt k 8) [
      | inl low ↦ word_bytes a b 4 ba bb size k four low
      | inr eight ↦ elim (cases_lt k 16) [
        | inl low ↦ f.frame k eight low ∙ sym (g.frame k eight low)
        | inr sixteen ↦ elim (cases_lt k (table_end old)) [
          | inl low ↦ in_slot k sixteen low
          | inr behind ↦ elim (cases_lt k (area_start old + by)) [
            | inl low ↦ f.zeros k behind low ∙ sym (g.zeros k behind low)
            | inr high ↦ in_chunk k high inside
          ]
        ]
      ]
    ]
  ]

pub one_image : MigratesToOne
one_image old a b by more h plain ba bb f g =
    let same = same_growth old a b by more f g in
    (same, same_image old a b by h plain ba bb f (subst (λ (n : ℕ). MigratesBytes old b n) (sym same) g))
