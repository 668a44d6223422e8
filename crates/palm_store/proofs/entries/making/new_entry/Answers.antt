-- A new record gets a fresh ID, which is known to be free no more.
use Rattle.palm_store.proofs.Laws.{◌∙◌, arith, sym, ap, rules, store_of, makes_resource, times, count_here, records_here, record_made, ids_here, left_beside, resource_beside}
use Rattle.palm_store.proofs.entries.making.new_entry.Goals as goal

pub free_ids-free-requires-clause-records : goal.free_ids-free-requires-clause-records
free_ids-free-requires-clause-records c =
    records_here _ _ _ c.requires.opened.number c.header_in.ensures.is
    (sym c.requires.kind ∙ ap makes_resource c.in-Record.is)

pub free_ids-free-requires-clause-few : goal.free_ids-free-requires-clause-few
free_ids-free-requires-clause-few c =
    let few = c.requires.few in
    omega (arith, count_here _ _ _ c.requires.opened.number c.header_in.ensures.is, few)

pub returns-in-Record-clause-is : goal.returns-in-Record-clause-is
returns-in-Record-clause-is c =
    rw c.in-Record.is (record_made _ _ _ _ _ _ c.requires.opened.number c.header_in.ensures.is
    c.free_ids-free.ensures.fresh (search rules))

pub free_ids-free-requires-clause-known : goal.free_ids-free-requires-clause-known
free_ids-free-requires-clause-known c = λ id among.
    ap (times id) (sym (ids_here _ _ _ c.requires.opened.number c.header_in.ensures.is))
    ∙ c.of.ensures.free (store_of c.args.heap.now.bytes) c.requires.known id among

pub returns-in-Record-clause-known : goal.returns-in-Record-clause-known
returns-in-Record-clause-known c =
    let same = ids_here _ _ _ c.requires.opened.number c.header_in.ensures.is in
    left_beside (store_of c.args.heap.now.bytes) _ _ _ c.from_bits_retain.result.0 _ 0
    (λ id among. ap (times id) same ∙ c.free_ids-free.ensures.free id among)
    c.without.ensures (omega arith, c.free_ids-free.ensures.more)

pub returns-in-Resource-clause-known : goal.returns-in-Resource-clause-known
returns-in-Resource-clause-known c =
    resource_beside (store_of c.args.heap.now.bytes) c.in-Resource.kind c.in-Resource.id 0 _
    c.requires.known
