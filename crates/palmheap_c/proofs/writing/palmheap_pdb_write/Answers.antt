-- `palmheap_pdb_write` writes what was read of a file back as that file, by the laws of ReadLaws.
use Rattle.palmheap_c.proofs.Words.{buffer, given}
use Rattle.palmheap_c.proofs.ReadLaws.{written_back}
use Rattle.palmheap_c.proofs.writing.palmheap_pdb_write.Goals as goal

pub returns-clause-back : goal.returns-clause-back
returns-clause-back c =
    λ read bytes short is. written_back read (given c.args.bytes.now c.args.header.now
    c.args.app.now c.args.sort.now c.args.entries.now c.args.filler.now c.args.order.now)
    (buffer c.args.file.now c.args.count.now) (buffer c.put_file.new.file c.put_file.new.count)
    c.put_file.result bytes short is c.put_file.ensures
