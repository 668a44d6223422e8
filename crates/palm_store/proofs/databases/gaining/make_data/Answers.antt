-- One chunk more was made; or there was no room for it, and those before it are freed.
use Rattle.palm_store.proofs.Laws.{sym, subst, ◌∙◌, arith, List, take, ℕ, length-map, length-set, take-map, Memory, Leaves, held, all_gone, Name, size_of_data, data_sizes, numbers_in, AreOwnChunks, slides_then, none_slid, IsSizeAt, own_chunks, taken_back, makes_more, runs_at}
use Rattle.palm_store.proofs.databases.gaining.make_data.Goals as goal

pub free_named-requires-clause-own : goal.free_named-requires-clause-own
free_named-requires-clause-own c =
    let own = own_chunks c.args.heap.now.bytes c.loop-index.heap.bytes _ _ c.requires.heap c.loop-index.invariant.made in
    let listed = subst (λ (names : List ℕ). AreOwnChunks c.loop-index.heap.bytes names) (take-map (λ (one : Name). one.0) c.loop-index.index c.loop-index.names) own in
    subst (λ (m : Memory). AreOwnChunks m.bytes (numbers_in (take c.loop-index.index c.loop-index.names))) (sym c.in-Err.ensures.refused) listed

pub returns-in-Err-clause-no_room : goal.returns-in-Err-clause-no_room
returns-in-Err-clause-no_room c =
    let many = length-map c.args.entries.now size_of_data in
    let below = c.loop-index-test.true in
    let names = c.requires.names in
    let at : IsSizeAt (data_sizes c.args.blocks c.args.entries.now) c.loop-index.index c.size_at.result = record { below = omega (arith, many, below, names); is = c.size_at.ensures } in
    runs_at c.args.heap.now.bytes c.loop-index.heap.bytes (data_sizes c.args.blocks c.args.entries.now) _ c.loop-index.index c.size_at.result c.loop-index.invariant.made at c.in-Err.ensures.no_room

pub returns-in-Err-clause-refused : goal.returns-in-Err-clause-refused
returns-in-Err-clause-refused c =
    let back = subst (λ (m : Memory). Leaves m.bytes c.free_named.new.heap.bytes (all_gone (held m.bytes) (numbers_in (take c.loop-index.index c.loop-index.names)))) c.in-Err.ensures.refused c.free_named.ensures.leaves in
    let listed = subst (λ (names : List ℕ). Leaves c.loop-index.heap.bytes c.free_named.new.heap.bytes (all_gone (held c.loop-index.heap.bytes) names)) (sym (take-map (λ (one : Name). one.0) c.loop-index.index c.loop-index.names)) back in
    taken_back c.args.heap.now.bytes c.loop-index.heap.bytes c.free_named.new.heap.bytes _ _ c.requires.heap c.loop-index.invariant.made listed

pub loop-index-preserved : goal.loop-index-preserved
loop-index-preserved c =
    let many = length-map c.args.entries.now size_of_data in
    let below = c.loop-index-test.true in
    let names = c.requires.names in
    let long = c.loop-index.invariant.names in
    let at : IsSizeAt (data_sizes c.args.blocks c.args.entries.now) c.loop-index.index c.size_at.result = record { below = omega (arith, many, below, names); is = c.size_at.ensures } in
    record {
      made = makes_more c.args.heap.now.bytes c.loop-index.heap.bytes c.make_sized.new.heap.bytes (data_sizes c.args.blocks c.args.entries.now) c.loop-index.names c.loop-index.index c.size_at.result c.in-Ok.name c.loop-index.invariant.made c.in-Ok.ensures.made at (omega (arith, below, long));
      names = length-set c.loop-index.names c.loop-index.index c.in-Ok.name ∙ long;
      kept = slides_then c.args.heap.now c.loop-index.heap c.make_sized.new.heap
          c.loop-index.invariant.kept c.make_sized.ensures.kept;
    }

pub returns-in-Err-clause-kept : goal.returns-in-Err-clause-kept
returns-in-Err-clause-kept c =
    let made = slides_then _ _ _ c.loop-index.invariant.kept c.make_sized.ensures.kept in
    slides_then _ _ _ made (none_slid _ _ c.free_named.ensures.kept)
