use Rattle.std.proofs.Common.{ℕ, ap, subst, sym, ◌∙◌}
use Rattle.heap_model.specs.Memory.{Memory, IsWithin}
use Rattle.heap_model.specs.Bytes.{u32_bytes, overwritten}
use Rattle.laws_heap.proofs.AddedTables.{added}
use Rattle.laws_heap.proofs.LentTables.{last_within}
use Rattle.master_table.proofs.chain.add_table.Goals as goal

pub last_next-last-requires-clause-tiled : goal.last_next-last-requires-clause-tiled
last_next-last-requires-clause-tiled c = (c.requires.table.chunks, c.requires.table.tiles)

pub put_u32-requires : goal.put_u32-requires
put_u32-requires c = subst (λ (n : ℕ). IsWithin c.args.region.now n 4) (sym c.last_next-last.ensures) (last_within c.args.region.now c.requires.table.chunks c.requires.chained c.requires.table.tiles c.requires.lent)

pub returns-clause-after : goal.returns-clause-after
returns-clause-after c = c.put_u32.ensures.after ∙ ap (λ (n : ℕ). record c.args.region.now { bytes = overwritten c.args.region.now.bytes n (u32_bytes c.args.place.0) }) c.last_next-last.ensures

pub returns-clause-adds : goal.returns-clause-adds
returns-clause-adds c =
    (added c.args.region.now.bytes c.put_u32.new.self.bytes c.args.place.0 record {
      chained = c.requires.chained;
      fresh = c.requires.table;
      word = ap (λ (m : Memory). m.bytes) c.put_u32.ensures.after ∙ ap (λ (n : ℕ). overwritten c.args.region.now.bytes n (u32_bytes c.args.place.0)) c.last_next-last.ensures;
    }).adds
