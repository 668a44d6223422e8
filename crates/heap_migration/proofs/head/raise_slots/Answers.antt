use Rattle.std.proofs.Common.{◌^◌, ◌<◌, ℕ, List, ap, ◌∙◌, arith}
use Rattle.heap_model.specs.Memory.{Memory}
use Rattle.heap_model.specs.Bytes.{u32_at, u32_bytes, overwritten}
use Rattle.laws_heap.proofs.Tables.{none_behind}
use Rattle.heap_migration.specs.Writing.{raised_place}
use Rattle.heap_migration.proofs.HeadLaws.{slot_fits, raised_fits, raised_more}
use Rattle.heap_migration.proofs.head.raise_slots.Goals as goal

pub raise-requires : goal.raise-requires
raise-requires c =
    let none = none_behind c.args.image.now.bytes c.requires.one_table in
    let end = c.head_end-end.ensures in
    let fits = slot_fits c.args.image.now.bytes c.loop-slot.slot c.requires.accepted c.requires.one_table c.loop-slot.invariant.raised.low c.loop-slot.invariant.raised.whole (omega arith) in
    let place = c.get_u32-place.ensures in
    omega arith

pub loop-slot-preserved : goal.loop-slot-preserved
loop-slot-preserved c =
    let image : List ℕ = c.args.image.now.bytes in
    let none = none_behind image c.requires.one_table in
    let end = c.head_end-end.ensures in
    let chunk_fits = c.requires.accepted.1.tiles.head.a_chunk_fits in
    let fits : u32_at image c.loop-slot.slot < 2 ^ 24 = slot_fits image c.loop-slot.slot c.requires.accepted c.requires.one_table c.loop-slot.invariant.raised.low c.loop-slot.invariant.raised.whole (omega arith) in
    let word = c.raise.ensures ∙ ap (raised_place c.args.by) c.get_u32-place.ensures in
    record {
      raised = raised_more image c.args.grown.now.bytes c.loop-slot.grown.bytes c.put_u32.new.self.bytes c.args.by c.loop-slot.slot c.loop-slot.invariant.raised (omega arith) (omega arith) (raised_fits c.args.by (u32_at image c.loop-slot.slot) c.requires.few fits)
          (ap (λ (m : Memory). m.bytes) c.put_u32.ensures.after ∙ ap (λ (n : ℕ). overwritten c.loop-slot.grown.bytes c.loop-slot.slot (u32_bytes n)) word);
      whole = ap (λ (m : Memory). m.lents) c.put_u32.ensures.after ∙ c.loop-slot.invariant.whole;
    }
