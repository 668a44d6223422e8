-- `put_file` writes the file of a database from its parts, or a prefix of it if a write fails.
use Rattle.pdb_files.proofs.Laws.{ℕ, false, List, [], ◌∷◌, ◌++◌, Option, refl, arith, is_ok, Database, file_of, then, stops, data_at, header_text, entries_text, content_of, size_parts, blocks_text, failed, as_file}
use Rattle.pdb_files.proofs.exporting.parts.put_file.Goals as goal

pub put_entries-requires-clause-short : goal.put_entries-requires-clause-short
put_entries-requires-clause-short g c =
    let size = size_parts (content_of c.args.store.now.bytes c.args.bytes.now) in
    omega (arith, size, c.requires.short, c.find_places-places.ensures.«data»)

pub returns-in_err-put_header : goal.returns-in_err-put_header
returns-in_err-put_header g c =
    let d : Database (Option (List ℕ)) = content_of c.args.store.now.bytes c.args.bytes.now in
    failed g.W.Write.contents c.args.out.now c.put_header.new.out
    (file_of d) c.from_residual.result c.from_residual.ensures.0
    (as_file g.W.Write.contents c.args.out.now c.put_header.new.out d (data_at d) false refl
    (stops g.W.Write.contents c.args.out.now c.put_header.new.out (header_text d) (entries_text
    (data_at d) d.entries ++ (0 ∷ 0 ∷ [] ++ blocks_text d)) c.in_err-put_header.ensures))

pub returns-in_err-put_entries : goal.returns-in_err-put_entries
returns-in_err-put_entries g c =
    let d : Database (Option (List ℕ)) = content_of c.args.store.now.bytes c.args.bytes.now in
    let first = c.find_places-places.result.«data» in
    failed g.W.Write.contents c.args.out.now c.put_entries.new.out (file_of d)
    c.from_residual-in_err-put_entries.result c.from_residual-in_err-put_entries.ensures.0
    (as_file g.W.Write.contents c.args.out.now c.put_entries.new.out d first false
    c.find_places-places.ensures.«data»
    (then g.W.Write.contents c.args.out.now c.put_header.new.out c.put_entries.new.out
    (header_text d) (entries_text first d.entries ++ (0 ∷ 0 ∷ [] ++ blocks_text d)) false
    c.in_ok-put_header.ensures (stops g.W.Write.contents c.put_header.new.out c.put_entries.new.out
    (entries_text first d.entries) (0 ∷ 0 ∷ [] ++ blocks_text d) c.in_err-put_entries.ensures)))

pub returns-in_err-put_all : goal.returns-in_err-put_all
returns-in_err-put_all g c =
    let d : Database (Option (List ℕ)) = content_of c.args.store.now.bytes c.args.bytes.now in
    let first = c.find_places-places.result.«data» in
    failed g.W.Write.contents c.args.out.now c.put_all.new.out
    (file_of d) c.from_residual-in_err-put_all.result c.from_residual-in_err-put_all.ensures.0
    (as_file g.W.Write.contents c.args.out.now c.put_all.new.out d first false
    c.find_places-places.ensures.«data»
    (then g.W.Write.contents c.args.out.now c.put_header.new.out c.put_all.new.out (header_text d)
    (entries_text first d.entries ++ (0 ∷ 0 ∷ [] ++ blocks_text d)) false c.in_ok-put_header.ensures
    (then g.W.Write.contents c.put_header.new.out c.put_entries.new.out c.put_all.new.out
    (entries_text first d.entries) (0 ∷ 0 ∷ [] ++ blocks_text d) false c.in_ok-put_entries.ensures
    (stops g.W.Write.contents c.put_entries.new.out c.put_all.new.out (0 ∷ 0 ∷ [])
    (blocks_text d) c.in_err-put_all.ensures))))

pub returns : goal.returns
returns g c =
    let d : Database (Option (List ℕ)) = content_of c.args.store.now.bytes c.args.bytes.now in
    let first = c.find_places-places.result.«data» in
    let ok = is_ok c.put_blocks.result in
    as_file g.W.Write.contents c.args.out.now c.put_blocks.new.out d first ok
    c.find_places-places.ensures.«data» (then g.W.Write.contents c.args.out.now c.put_header.new.out
    c.put_blocks.new.out (header_text d)
    (entries_text first d.entries ++ (0 ∷ 0 ∷ [] ++ blocks_text d)) ok c.in_ok-put_header.ensures
    (then g.W.Write.contents c.put_header.new.out c.put_entries.new.out c.put_blocks.new.out
    (entries_text first d.entries) (0 ∷ 0 ∷ [] ++ blocks_text d) ok c.in_ok-put_entries.ensures
    (then g.W.Write.contents c.put_entries.new.out c.put_all.new.out c.put_blocks.new.out
    (0 ∷ 0 ∷ []) (blocks_text d) ok c.in_ok-put_all.ensures c.put_blocks.ensures)))
