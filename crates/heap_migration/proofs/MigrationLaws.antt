-- The migrated image: its head and its chunks.
use Rattle.std.proofs.Common.{true, false, ◌≡◌, ◌≢◌, ℕ, inl, inr, ◌+◌, ◌*◌, ◌/◌, ◌%◌, List, length, sym, ap, ◌∙◌, arith}
use Rattle.std.proofs.lemmas.Bool.{cases_eq, eq-eqb}
use Rattle.std.proofs.lemmas.Bool.Decides.{nat_tests}
use Rattle.std.specs.Prelude.{◌==◌}
use Rattle.heap_model.specs.Bytes.{u32_at}
use Rattle.heap_model.specs.Slots.{slot_count, is_chained, area_start}
use Rattle.heap_model.specs.Heap.{HeapAccepted}
use Rattle.heap_model.specs.Migration.{MigratesBytes}
use Rattle.laws_heap.proofs.Frames.{u16_at-same}
use Rattle.laws_heap.proofs.Tests.{cond-true, cond-false}
use Rattle.laws_heap.proofs.Tables.{chained_behind, none_behind}
use Rattle.laws_heap.proofs.OneTable.{one_number, one_total}
use Rattle.laws_heap.proofs.Slots.{slot_stands, stands_below}
use Rattle.heap_migration.specs.Growth.{growth, growth_of}
use Rattle.heap_migration.specs.Writing.{HasHead, WroteChunks}
use Rattle.heap_migration.proofs.HeadLaws.{as_same, same_word}

-- the chunks begin further on by the growth
starts : (n : ℕ) → 8 * ((16 + 4 * n + 4 + 7) / 8) ≡ 8 * ((16 + 4 * n + 0 + 7) / 8) + growth n
starts n = elim (cases_eq (n % 2) 0) [
  | inl even ↦ let g : growth n ≡ 8 = cond-true ((n % 2) == 0) 8 0 (eq-eqb (n % 2) 0 even) in omega (arith, g, even)
  | inr odd ↦ let g : growth n ≡ 0 = cond-false ((n % 2) == 0) 8 0 (uneven n odd) in omega (arith, g, odd)
] where
  uneven : (n : ℕ) → n % 2 ≢ 0 → ((n % 2) == 0) ≡ false
  uneven n odd = grind (arith, nat_tests)

pub migrated_bytes : (old mid new : List ℕ) → HeapAccepted old → is_chained old ≡ false → HasHead old mid (growth_of old) → WroteChunks old mid new (growth_of old) → MigratesBytes old new (growth_of old)
migrated_bytes old mid new h plain head w = record {
  shift = shift;
  len = len;
  magic = magic;
  size = same_word mid new 0 (area_start old + growth_of old) 4 w.front (omega arith) (omega arith) ∙ head.size ∙ sym w.len;
  frame = λ k low high. w.front k (omega arith) (omega arith) ∙ head.frame k low high;
  slots = λ slot s.
      let k = slot_stands old slot s in
      let there = one_number old slot k.0 plain k.1 in
      let below = stands_below old slot k.0 k.1 in
      let total = one_total old plain in
      same_word mid new 0 (area_start old + growth_of old) slot w.front (omega arith) (omega arith) ∙ head.slots slot s;
  zeros = λ k low high. w.front k (omega arith) high ∙ head.zeros k low high;
  chunks = w.further;
} where
  len : length new ≡ length old + growth_of old
  len = w.len ∙ head.len

  magic : u32_at new 0 ≡ 0x50484932
  magic = same_word mid new 0 (area_start old + growth_of old) 0 w.front (omega arith) (omega arith) ∙ head.magic

  count : slot_count new ≡ slot_count old
  count = u16_at-same 8 new old 8 16 (as_same old new 8 16 (λ k low high. w.front k (omega arith) (omega arith) ∙ head.frame k low high)) (omega arith) (omega arith)

  chained : is_chained new ≡ true
  chained = ap (λ (m : ℕ). m == 0x50484932) magic

  shift : area_start new ≡ area_start old + growth_of old
  shift =
      let four = chained_behind new chained in
      let none = none_behind old plain in
      let more = starts (slot_count old) in
      omega (arith, four, none, count, more)
