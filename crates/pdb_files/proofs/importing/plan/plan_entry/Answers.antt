-- A record has the ID that is given for it, and a resource has data.
use Rattle.pdb_files.proofs.Planned.{record_planned, resource_planned, resource_has_size}
use Rattle.std.proofs.Common.{refl}
use Rattle.pdb_files.proofs.importing.plan.plan_entry.Goals as goal

pub returns-in-Record : goal.returns-in-Record
returns-in-Record c =
    record_planned c.args.file.now c.args.ids.now c.args.index c.in-Record.record.attributes.0
    c.in-Record.record.id c.in-Record.record.slot _ c.idle_attributes-attributes.result.0
    c.args.size c.know_file.ensures.good c.requires.inside c.requires.ids c.in-Record.ensures.is
    c.in-Record.ensures.kind c.requires.size c.idle_attributes-attributes.ensures refl

pub returns-in-Resource : goal.returns-in-Resource
returns-in-Resource c =
    let file = c.args.file.now in
    let resource = c.in-Resource.resource in
    let is = c.in-Resource.ensures in
    let some = resource_has_size file c.args.index resource.kind resource.id resource.slot
    c.args.size c.know_file.ensures.good c.requires.inside is.is c.requires.size in
    resource_planned file c.args.ids.now c.args.index resource.kind resource.id resource.slot
    c.args.size is.is is.kind c.requires.size some
