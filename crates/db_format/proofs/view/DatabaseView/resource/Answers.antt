use Rattle.std.proofs.Common.{◌≡◌, ◌<◌, true, length, arith}
use Rattle.heap_model.specs.Database.{database_in, resources_in}
use Rattle.db_format.specs.Entries.{resource_of}
use Rattle.db_format.proofs.ViewLaws.{kind_read, entry_inside, entry_there}
use Rattle.db_format.proofs.view.DatabaseView.resource.Goals as goal

pub overflow_cast-index : goal.overflow_cast-index
overflow_cast-index c =
    let inside : c.args.index < length (database_in c.self.inside.bytes.now).entries = rw c.self.view_is c.requires.inside in
    let few = c.self.invariant.fits.entry_count in
    omega (arith, inside, few)

pub read-requires-clause-inside : goal.read-requires-clause-inside
read-requires-clause-inside c =
    let resources : resources_in c.self.inside.bytes.now ≡ true = kind_read c.self.inside.bytes.now true (rw c.self.view_is c.requires.resources) in
    let inside : c.args.index < length (database_in c.self.inside.bytes.now).entries = rw c.self.view_is c.requires.inside in
    entry_inside c.self.inside.bytes.now true c.args.index c.self.invariant resources inside

pub read-requires-clause-resources : goal.read-requires-clause-resources
read-requires-clause-resources c = kind_read c.self.inside.bytes.now true (rw c.self.view_is c.requires.resources)

pub returns : goal.returns
returns c =
    let inside : c.args.index < length (database_in c.self.inside.bytes.now).entries = rw c.self.view_is c.requires.inside in
    rw (← c.self.view_is) (entry_there c.self.inside.bytes.now c.args.index (resource_of c.read.result) inside c.read.ensures)
