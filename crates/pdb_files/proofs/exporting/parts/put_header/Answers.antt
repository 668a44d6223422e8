-- `put_header` writes the header of the file.
use Rattle.pdb_files.proofs.Laws.{ℕ, List, Option, subst, is_ok, Writes, Database, database_in, store_of, idle, with_offsets, first_block, content_of, header_placed}
use Rattle.pdb_files.proofs.exporting.parts.put_header.Goals as goal

pub returns : goal.returns
returns g c =
    let d : Database (Option (List ℕ)) = content_of c.args.store.now.bytes c.args.bytes.now in
    let has = header_placed (store_of c.args.store.now.bytes).map (database_in c.args.bytes.now)
    c.read-header.result c.args.places c.read-header.ensures c.requires.places in
    subst (λ (text : List ℕ). Writes g.W.Write.contents c.args.out.now c.put_all.new.out text
    (is_ok c.put_all.result))
    (c.to_bytes.ensures.is (with_offsets (first_block d) (idle d)) has) c.put_all.ensures
