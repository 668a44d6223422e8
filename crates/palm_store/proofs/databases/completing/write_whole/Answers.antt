-- The header is written at the front, and then the entries after it.
use Rattle.palm_store.proofs.Laws.{sym, ap, subst, ◌∙◌, ◌≡◌, ◌++◌, ℕ, List, length, drop, arith, rules, flat_map, Database, entry_bytes, header_bytes, entry_offset, Leaves, rewritten, held, IsHeaderOf, length-header_bytes, is_movable, keeps_then, numbers_in, entries_named, whole_database, puts_front, start_room, then_rebodied, whole_header, whole_spelled, whole_fits, managers_here}
use Rattle.palm_store.proofs.WholeBytes.{length-named}
use Rattle.palm_store.proofs.databases.completing.write_whole.Goals as goal

pub sys_find-chunk-requires : goal.sys_find-chunk-requires
sys_find-chunk-requires c = is_movable c.args.heap.now.bytes c.args.slot.0 (record { heap = c.requires.heap; owner = c.requires.owner })

pub write_entries-requires-clause-owner : goal.write_entries-requires-clause-owner
write_entries-requires-clause-owner c =
    let has = whole_header c.named_header-header.result c.args.info.now c.args.entries.now c.args.names.now _ c.named_header-header.ensures.values c.named_header-header.ensures.app_info c.named_header-header.ensures.sort_info c.named_header-header.ensures.entry_count c.requires.whole.entry_count c.requires.names in
    let size = ap length (c.to_bytes.ensures.is _ has) ∙ length-header_bytes _ c.requires.whole.name in
    (puts_front c.args.heap.now.bytes c.sys_write.new.self.bytes c.args.slot.0 c.to_bytes.result c.requires.heap c.requires.owner size (start_room _ _ _ c.requires.body) c.sys_write.ensures.leaves).body.owner

pub write_entries-requires-clause-body : goal.write_entries-requires-clause-body
write_entries-requires-clause-body c =
    let has = whole_header c.named_header-header.result c.args.info.now c.args.entries.now c.args.names.now _ c.named_header-header.ensures.values c.named_header-header.ensures.app_info c.named_header-header.ensures.sort_info c.named_header-header.ensures.entry_count c.requires.whole.entry_count c.requires.names in
    let size = ap length (c.to_bytes.ensures.is _ has) ∙ length-header_bytes _ c.requires.whole.name in
    (puts_front c.args.heap.now.bytes c.sys_write.new.self.bytes c.args.slot.0 c.to_bytes.result c.requires.heap c.requires.owner size (start_room _ _ _ c.requires.body) c.sys_write.ensures.leaves).long
    ∙ c.requires.body ∙ ap (λ resources. entry_offset resources (length c.args.entries.now)) (sym c.has_resources-resources.ensures)

pub returns-clause-written : goal.returns-clause-written
returns-clause-written c =
    let names : List ℕ = numbers_in c.args.names.now in
    let d : Database ℕ = whole_database c.args.info.now c.args.entries.now names in
    let has : IsHeaderOf d c.named_header-header.result = whole_header c.named_header-header.result c.args.info.now c.args.entries.now c.args.names.now _ c.named_header-header.ensures.values c.named_header-header.ensures.app_info c.named_header-header.ensures.sort_info c.named_header-header.ensures.entry_count c.requires.whole.entry_count c.requires.names in
    let bytes : c.to_bytes.result ≡ header_bytes d = c.to_bytes.ensures.is d has in
    let size = ap length bytes ∙ length-header_bytes d c.requires.whole.name in
    let puts = puts_front c.args.heap.now.bytes c.sys_write.new.self.bytes c.args.slot.0 c.to_bytes.result c.requires.heap c.requires.owner size (start_room _ _ _ c.requires.body) c.sys_write.ensures.leaves in
    let all = then_rebodied c.args.heap.now.bytes c.sys_write.new.self.bytes c.write_entries.new.heap.bytes c.args.slot.0 _ _ c.requires.heap c.requires.owner puts.leaves c.write_entries.ensures.written in
    subst (λ (body : List ℕ). Leaves c.args.heap.now.bytes c.write_entries.new.heap.bytes (rewritten (held c.args.heap.now.bytes) c.args.slot.0 body))
    (ap (λ (front : List ℕ). front ++ flat_map entry_bytes (entries_named c.args.entries.now (drop 2 names))) (puts.front ∙ bytes) ∙ whole_spelled c.args.info.now c.args.entries.now names) all

pub returns-clause-fits : goal.returns-clause-fits
returns-clause-fits c =
    let names : List ℕ = numbers_in c.args.names.now in
    let d : Database ℕ = whole_database c.args.info.now c.args.entries.now names in
    let has : IsHeaderOf d c.named_header-header.result = whole_header c.named_header-header.result c.args.info.now c.args.entries.now c.args.names.now _ c.named_header-header.ensures.values c.named_header-header.ensures.app_info c.named_header-header.ensures.sort_info c.named_header-header.ensures.entry_count c.requires.whole.entry_count c.requires.names in
    let many = length-named c.args.entries.now (drop 2 names) in
    let few = c.requires.whole.few in
    whole_fits c.named_header-header.result c.to_bytes.result d has c.to_bytes.ensures.written c.requires.whole.name (omega (arith, many, few)) (rw (← c.has_resources-resources.ensures) c.write_entries.ensures.fits)

pub sys_write-requires-clause-here : goal.sys_write-requires-clause-here
sys_write-requires-clause-here c = managers_here c.args.heap.now c.args.slot.0 c.requires.owner

pub returns-clause-kept : goal.returns-clause-kept
returns-clause-kept c = record {
  loan = keeps_then _ _ _ c.sys_write.ensures.loan c.write_entries.ensures.kept.loan;
  rest = search rules;
}
