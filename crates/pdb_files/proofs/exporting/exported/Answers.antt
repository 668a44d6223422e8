-- `exported` returns the file of a database, or refuses one that is unknown or has a block that is
-- lent.
use Rattle.pdb_files.proofs.Laws.{both_ways, database_in, exportable, lent_here, lent_number, lent_out, no_number, no_room, numbered, written}
use Rattle.pdb_files.proofs.exporting.exported.Goals as goal

pub lends_data-requires : goal.lends_data-requires
lends_data-requires g c = numbered c.args.store.now.bytes c.args.db.0
    (database_in c.in-Some.bytes.now) c.in-Some.ensures.is

pub returns-then-lends_data-clause-does : goal.returns-then-lends_data-clause-does
returns-then-lends_data-clause-does g c = lent_out c.args.store.now c.args.db
    (database_in c.in-Some.bytes.now) c.in-Some.ensures.accepted c.in-Some.ensures.is
    (lent_here c.args.store.now c.in-Some.bytes.now c.args.db.0 c.in-Some.ensures.is
    (c.lends_data.ensures.0 c.if-lends_data.true))

pub file_bytes-requires : goal.file_bytes-requires
file_bytes-requires g c = exportable c.args.store.now c.in-Some.bytes.now c.args.db.0
    c.in-Some.ensures.accepted c.in-Some.ensures.is c.in-Some.ensures.spelled
    c.in-Some.ensures.shape (λ lent. both_ways _ c.if-lends_data.false (c.lends_data.ensures.1
    (lent_number c.args.store.now c.in-Some.bytes.now c.args.db.0 c.in-Some.ensures.is lent)))

pub returns-in-Ok-clause-does : goal.returns-in-Ok-clause-does
returns-in-Ok-clause-does g c = written c.args.store.now c.args.db c.in-Some.bytes.now c.in-Ok.file
    c.in-Some.ensures.accepted c.in-Some.ensures.is
    (λ lent. both_ways _ c.if-lends_data.false (c.lends_data.ensures.1 (lent_number c.args.store.now
    c.in-Some.bytes.now c.args.db.0 c.in-Some.ensures.is lent))) c.in-Ok.ensures.file

pub returns-in-Err-clause-does : goal.returns-in-Err-clause-does
returns-in-Err-clause-does g c = no_room c.args.store.now c.args.db _ c.in-Some.ensures.accepted
    c.in-Some.ensures.is (λ lent. both_ways _ c.if-lends_data.false (c.lends_data.ensures.1
    (lent_number c.args.store.now c.in-Some.bytes.now c.args.db.0 c.in-Some.ensures.is lent)))

pub returns-in_default-clause-does : goal.returns-in_default-clause-does
returns-in_default-clause-does g c =
    no_number c.args.store.now c.args.db c.in_default.ensures.accepted c.in_default.ensures.none
