-- Each entry is written after those before it.
use Rattle.palm_store.proofs.Laws.{refl, sym, ◌∙◌, ◌+◌, arith, get_or-map, length-map, Name, entry_of, kept_then, numbers_in, keeps_itself, keeps_then, writes_none, entry_at, writes_inside, writes_more, writes_all, writes_fits, body_now, managers_here}
use Rattle.palm_store.proofs.databases.completing.write_entries.Goals as goal

pub loop-index-init : goal.loop-index-init
loop-index-init c = record { writes = writes_none c.args.heap.now.bytes c.args.slot.0 c.args.resources c.args.entries.now (numbers_in c.args.names.now) c.requires.heap c.requires.owner; stands = c.requires.stands; loan = keeps_itself c.args.heap.now; rest = refl }

pub sys_write-requires-clause-within : goal.sys_write-requires-clause-within
sys_write-requires-clause-within c =
    let below = c.loop-index-test.true in
    let long = c.requires.names in
    let many = length-map c.args.names.now (λ (one : Name). one.0) in
    let at = entry_at c.args.resources c.args.entries.now (numbers_in c.args.names.now) c.loop-index.index _ (entry_of c.named_entry-entry.result) _ below (many ∙ long)
    (sym (get_or-map (λ (one : Name). one.0) c.args.names.now (c.loop-index.index + 2) (record { 0 = 0 }) 0 (omega (arith, below, long)))) c.named_entry-entry.ensures.is c.named_entry-entry.ensures.fits in
    writes_inside c.args.heap.now.bytes c.loop-index.heap.bytes c.args.slot.0 c.args.resources c.args.entries.now (numbers_in c.args.names.now) c.loop-index.index (entry_of c.named_entry-entry.result) c.entry_offset-at.result c.as_slice.result.now
    c.requires.owner c.requires.body c.loop-index.invariant.writes at c.entry_offset-at.ensures (c.as_slice.ensures ∙ c.to_bytes.ensures.is)

pub loop-index-preserved : goal.loop-index-preserved
loop-index-preserved c =
    let below = c.loop-index-test.true in
    let long = c.requires.names in
    let many = length-map c.args.names.now (λ (one : Name). one.0) in
    let at = entry_at c.args.resources c.args.entries.now (numbers_in c.args.names.now) c.loop-index.index _ (entry_of c.named_entry-entry.result) _ below (many ∙ long)
    (sym (get_or-map (λ (one : Name). one.0) c.args.names.now (c.loop-index.index + 2) (record { 0 = 0 }) 0 (omega (arith, below, long)))) c.named_entry-entry.ensures.is c.named_entry-entry.ensures.fits in
    record {
      writes = writes_more c.args.heap.now.bytes c.loop-index.heap.bytes c.sys_write.new.self.bytes c.args.slot.0 c.args.resources c.args.entries.now (numbers_in c.args.names.now) c.loop-index.index (entry_of c.named_entry-entry.result) c.entry_offset-at.result c.as_slice.result.now
          c.requires.heap c.requires.owner c.requires.body c.loop-index.invariant.writes at c.entry_offset-at.ensures (c.as_slice.ensures ∙ c.to_bytes.ensures.is) c.sys_write.ensures.leaves;
      stands = c.sys_write.ensures.stands;
      loan = keeps_then c.args.heap.now c.loop-index.heap c.sys_write.new.self c.loop-index.invariant.loan c.sys_write.ensures.loan;
      rest = kept_then c.args.heap.now c.loop-index.heap c.sys_write.new.self c.loop-index.invariant.rest c.sys_write.ensures.rest;
    }

pub returns-clause-written : goal.returns-clause-written
returns-clause-written c =
    let most = c.loop-index.auto.index-end in
    let least = c.loop-index-test.false in
    writes_all c.args.heap.now.bytes c.loop-index.heap.bytes c.args.slot.0 c.args.resources c.args.entries.now (numbers_in c.args.names.now) c.loop-index.index c.requires.body c.loop-index.invariant.writes (omega (arith, most, least))

pub returns-clause-fits : goal.returns-clause-fits
returns-clause-fits c =
    let most = c.loop-index.auto.index-end in
    let least = c.loop-index-test.false in
    writes_fits c.args.heap.now.bytes c.loop-index.heap.bytes c.args.slot.0 c.args.resources c.args.entries.now (numbers_in c.args.names.now) c.loop-index.index c.loop-index.invariant.writes (omega (arith, most, least))

pub sys_write-requires-clause-here : goal.sys_write-requires-clause-here
sys_write-requires-clause-here c = managers_here c.loop-index.heap c.args.slot.0 (body_now c.args.heap.now.bytes c.loop-index.heap.bytes c.args.slot.0 _ c.requires.owner c.loop-index.invariant.writes.leaves).owner
