-- `note_databases` gives each slot the number of the database that names it, by the laws of
-- NumberLaws.
use Rattle.heap_map.proofs.Laws.{◌≡◌, ◌≤◌, length, ap, sym, subst, arith, directory_bytes, AreWholeBytes, listed_count, header_whole, few_listed, numbers_all}
use Rattle.heap_map.proofs.numbers.note_databases.Goals as goal

pub overflow_cast-db : goal.overflow_cast-db
overflow_cast-db c =
    let len = ap length c.directory_in-directory.ensures in
    let few = few_listed _ c.requires.accepted in
    omega arith

pub overflow_add-db : goal.overflow_add-db
overflow_add-db c =
    let len = ap length c.directory_in-directory.ensures in
    let few = few_listed _ c.requires.accepted in
    omega arith

pub note_database-requires : goal.note_database-requires
note_database-requires c =
    let len = ap length c.directory_in-directory.ensures in
    subst AreWholeBytes (sym c.header_in-header.ensures)
    (header_whole _ c.loop-db.db c.requires.accepted (omega arith))

pub returns : goal.returns
returns c =
    let len = ap length c.directory_in-directory.ensures in
    numbers_all c.args.region.now.bytes _ c.loop-db.db (omega arith) c.loop-db.invariant
