-- `put_database` writes the text `database` of a file that was taken apart.
use Rattle.file_parts.proofs.AllWords.{reads, read_once}
use Rattle.file_parts.proofs.text.put_database.Goals as goal

pub returns : goal.returns
returns g c = λ database is.
    let file = c.args.unpacked.now.file in
    let unpacked = c.args.unpacked.now in
    let same = read_once _ _ _ (reads file unpacked.given.ids.items unpacked.given.seed
    c.know_file.ensures.good c.requires.ids.have) is in
    rw same at c.put_text.ensures
