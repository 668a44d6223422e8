-- `first_place` returns an offset at most two bytes after the file's end, by the laws of
-- GoodFiles.
use Rattle.std.proofs.Common.{◌≡◌, Bool, ap, ◌∙◌, arith}
use Rattle.heap_model.specs.Database.{resources_in}
use Rattle.pdb_format.specs.Filler.{first_place_after, first_place}
use Rattle.pdb_format.proofs.GoodFiles.{not_truncated}
use Rattle.pdb_format.proofs.pdb_file.PdbFile.first_place.Goals as goal

pub returns-clause-most : goal.returns-clause-most
returns-clause-most g c =
    let end = (not_truncated c.args.self.now c.know_file.ensures.good).1 in
    let is : c.first_place_after.result ≡ first_place c.args.self.now =
    c.first_place_after.ensures
    ∙ ap (λ (resources : Bool). first_place_after resources c.entry_count.result)
    c.has_resources.ensures
    ∙ ap (first_place_after (resources_in c.args.self.now)) c.entry_count.ensures in
    omega (arith, end, is)
