-- `header_bytes` returns the bytes of the header of the file, by the laws of PackedEntries.
use Rattle.file_parts.proofs.AllLaws.{List, ℕ, Option, length, map, ap, ◌∙◌, sym, refl, Database, idle, idle_entry, with_offsets, first_block, block_offset, length-map, length-with_offsets, data_at, database_of_parts, part_at, length-packed}
use Rattle.file_parts.proofs.packing.header_bytes.Goals as goal

pub returns : goal.returns
returns c = λ parts places.
    let listed = c.args.listed.now in
    let d : Database (Option (List ℕ)) = database_of_parts listed parts in
    let count = length-with_offsets (data_at d) (map idle_entry d.entries)
    ∙ length-map d.entries idle_entry ∙ length-packed listed.entries.items parts in
    c.to_bytes.ensures.is (with_offsets (first_block d) (idle d)) (record {
      values = refl;
      app_info = c.offset_of.ensures (part_at parts 0)
          ∙ ap (λ (at : ℕ). block_offset at d.app_info) places.app;
      sort_info = c.offset_of-2.ensures (part_at parts 1)
          ∙ ap (λ (at : ℕ). block_offset at d.sort_info) places.sort;
      entry_count = ap length c.as_slice.ensures.value ∙ sym count;
    })
