-- `taken_apart` takes a file that is opened apart, by the laws of PackedBack.
use Rattle.pdb_format.proofs.FileIds.{ids_for}
use Rattle.pdb_format.proofs.ReadFiles.{reads}
use Rattle.file_parts.proofs.PackedBack.{packs_back}
use Rattle.file_parts.proofs.unpacked.taken_apart.Goals as goal

pub returns-in-Ok-clause-done : goal.returns-in-Ok-clause-done
returns-in-Ok-clause-done g c = record {
  short = c.requires;
  ids = record {
    have = c.in-Ok.ensures.given;
    fit = ids_for c.args.file c.in-Ok.given.ids.items _ _ c.in-Ok.ensures.given c.in-Ok.ensures.fit;
    seed = c.in-Ok.ensures.seed;
  };
}

pub returns-in-Ok-clause-reads : goal.returns-in-Ok-clause-reads
returns-in-Ok-clause-reads g c = reads c.args.file c.in-Ok.given.ids.items c.in-Ok.given.seed
    c.know_file.ensures.good c.in-Ok.ensures.given

pub returns-in-Ok-clause-packs : goal.returns-in-Ok-clause-packs
returns-in-Ok-clause-packs g c = packs_back _ _ c.know_file.ensures.places
    c.know_file.ensures.numbers (returns-in-Ok-clause-done g c) c.in-Ok.ensures.distinct
