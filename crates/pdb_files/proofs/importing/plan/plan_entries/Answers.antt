-- Each entry of the file is planned after those before it.
use Rattle.pdb_files.proofs.Words.{◌+◌, List, sym, subst, arith, WholeEntry, ArePlannedOf, length-blocks, size_at}
use Rattle.pdb_files.proofs.Planned.{one_more}
use Rattle.pdb_files.proofs.importing.plan.plan_entries.Goals as goal

pub bounds-blocks-index : goal.bounds-blocks-index
bounds-blocks-index g c =
    let long = length-blocks c.args.file.now c.args.blocks.now c.requires.places.are in
    let count = c.entry_count-index-end.ensures in
    let below = c.loop-index-test.true in
    omega (arith, long, count, below)

pub plan_entry-requires-clause-size : goal.plan_entry-requires-clause-size
plan_entry-requires-clause-size g c =
    let long = length-blocks c.args.file.now c.args.blocks.now c.requires.places.are in
    let count = c.entry_count-index-end.ensures in
    let below = c.loop-index-test.true in
    size_at c.args.file.now c.args.blocks.now
    (2 + c.loop-index.index) c.size_of-size.result c.requires.places.are c.requires.places.within
    (omega (arith, long, count, below)) c.size_of-size.ensures

pub loop-index-preserved : goal.loop-index-preserved
loop-index-preserved g c = subst (λ (entries : List WholeEntry). ArePlannedOf c.args.file.now
    c.args.ids.now entries (c.loop-index.index + 1)) (sym c.in_ok-push.ensures.items)
    (one_more c.args.file.now c.args.ids.now c.loop-index.entries.items c.loop-index.index
    c.plan_entry.result c.loop-index.invariant c.plan_entry.ensures)
