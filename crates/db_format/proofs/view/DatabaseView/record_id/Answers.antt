use Rattle.std.proofs.Common.{◌≡◌, ◌<◌, false, length, arith}
use Rattle.heap_model.specs.Database.{database_in, resources_in}
use Rattle.db_format.proofs.ViewLaws.{kind_read, entry_inside, id_read}
use Rattle.db_format.proofs.view.DatabaseView.record_id.Goals as goal

pub overflow_cast-index : goal.overflow_cast-index
overflow_cast-index c =
    let inside : c.args.index < length (database_in c.self.inside.bytes.now).entries = rw c.self.view_is c.requires.inside in
    let few = c.self.invariant.fits.entry_count in
    omega (arith, inside, few)

pub record_id-requires-clause-inside : goal.record_id-requires-clause-inside
record_id-requires-clause-inside c =
    let records : resources_in c.self.inside.bytes.now ≡ false = kind_read c.self.inside.bytes.now false (rw c.self.view_is c.requires.records) in
    let inside : c.args.index < length (database_in c.self.inside.bytes.now).entries = rw c.self.view_is c.requires.inside in
    entry_inside c.self.inside.bytes.now false c.args.index c.self.invariant records inside

pub record_id-requires-clause-records : goal.record_id-requires-clause-records
record_id-requires-clause-records c = kind_read c.self.inside.bytes.now false (rw c.self.view_is c.requires.records)

pub returns : goal.returns
returns c =
    let inside : c.args.index < length (database_in c.self.inside.bytes.now).entries = rw c.self.view_is c.requires.inside in
    rw (← c.self.view_is) (id_read c.self.inside.bytes.now c.args.index c.record_id.result inside c.record_id.ensures.is)
