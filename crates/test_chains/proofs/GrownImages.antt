-- The bytes of migrated images.
use Rattle.std.proofs.Common.{◌≡◌, ◌+◌, refl}
use Rattle.std.specs.Prelude.{◌==◌, if◌then◌else◌, slice_index}
use Rattle.heap_model.specs.Bytes.{u16_at, u32_at, u32_bytes}
use Rattle.heap_model.specs.Chunk.{seen}
use Rattle.heap_model.specs.Slots.{slots_of, further_tables}
use Rattle.heap_model.specs.Migration.{MigratesBytes}
use Rattle.heap_model.specs.Reading.{chunk_at, chunks_from, chunks_of, held, is_accepted}
use Rattle.laws_heap.proofs.Slots.{each_slot}
use Rattle.test_chains.specs.MigratedImages.{two_slots, grown_two_slots, one_slot, chained_one_slot}
use Rattle.test_chains.proofs.Tried.{each_from, parts_further}

pub even_bytes : MigratesBytes two_slots grown_two_slots 8
unfolding u16_at u32_at u32_bytes seen slots_of further_tables chunk_at chunks_from chunks_of held is_accepted
even_bytes = record {
  shift = refl;
  len = refl;
  magic = refl;
  size = refl;
  frame = each_from (λ at. slice_index grown_two_slots at ≡ slice_index two_slots at) 8 8 (refl, (refl, (refl, (refl, (refl, (refl, (refl, (refl, tt))))))));
  slots = each_slot (λ slot. u32_at grown_two_slots slot ≡ (if u32_at two_slots slot == 0 then 0 else u32_at two_slots slot + 8)) two_slots (refl, (refl, tt));
  zeros = each_from (λ at. slice_index grown_two_slots at ≡ 0) 24 8 (refl, (refl, (refl, (refl, (refl, (refl, (refl, (refl, tt))))))));
  chunks = (
    (parts_further two_slots grown_two_slots 8 24 4 refl 28 refl, refl, parts_further two_slots grown_two_slots 8 32 8 refl 40 refl),
    (parts_further two_slots grown_two_slots 8 40 16 refl 56 refl, (parts_further two_slots grown_two_slots 8 56 8 refl 64 refl, tt)),
  );
}

pub odd_bytes : MigratesBytes one_slot chained_one_slot 0
unfolding u16_at u32_at u32_bytes seen slots_of further_tables chunk_at chunks_from chunks_of held is_accepted
odd_bytes = record {
  shift = refl;
  len = refl;
  magic = refl;
  size = refl;
  frame = each_from (λ at. slice_index chained_one_slot at ≡ slice_index one_slot at) 8 8 (refl, (refl, (refl, (refl, (refl, (refl, (refl, (refl, tt))))))));
  slots = each_slot (λ slot. u32_at chained_one_slot slot ≡ (if u32_at one_slot slot == 0 then 0 else u32_at one_slot slot + 0)) one_slot (refl, tt);
  zeros = each_from (λ at. slice_index chained_one_slot at ≡ 0) 20 4 (refl, (refl, (refl, (refl, tt))));
  chunks = (
    (parts_further one_slot chained_one_slot 0 24 4 refl 28 refl, refl, parts_further one_slot chained_one_slot 0 32 8 refl 40 refl),
    (parts_further one_slot chained_one_slot 0 40 16 refl 56 refl, (parts_further one_slot chained_one_slot 0 56 8 refl 64 refl, tt)),
  );
}
