-- `in_file` returns an entry as its file has it.
use Rattle.pdb_files.proofs.Laws.{ℕ, ap, ◌∙◌, bytes_named, block_offset, entry_in_file}
use Rattle.db_format.specs.EitherEntry.{entry_of}
use Rattle.pdb_files.proofs.exporting.parts.in_file.Goals as goal

pub returns-clause-is : goal.returns-clause-is
returns-clause-is c = λ chunks. c.idle_entry_at.ensures.is ∙ entry_in_file chunks c.args.at
    c.block_offset.result (entry_of c.args.entry) (c.block_offset.ensures chunks
    ∙ ap (λ (slot : ℕ). block_offset c.args.at (bytes_named chunks slot)) c.slot.ensures)
