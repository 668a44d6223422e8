-- Each entry that is written with its new offset is the next one of the canonical form.
use Rattle.std.proofs.Common.{◌≡◌, ℕ, ◌+◌, ◌<◌, Option, None, List, ◌∷◌, ◌++◌, length, get_or, drop, refl, sym, ap, ◌∙◌, arith, add-one, drop-cons}
use Rattle.heap_model.specs.Database.{Entry, a_record, a_resource, entry_data, entry_with, entry_bytes, entry_count_in, entry_in}
use Rattle.heap_model.specs.Files.{idle_attributes, blocks_in, block_size, block_offset}
use Rattle.pdb_format.specs.FileTexts.{entries_text}
use Rattle.pdb_format.specs.ReadFiles.{entry_read, entry_read_at, entries_read}
use Rattle.pdb_format.proofs.ReadFiles.{length-entries_read, entry_read_is, data_read}
use Rattle.pdb_format.proofs.WrittenFiles.{idle_twice}
use Rattle.canonical_file.specs.Canonical.{placed_entry}

-- an entry as it is placed
pub written_placed : (entry : Entry ℕ) (given at offset : ℕ) (block : Option (List ℕ))
    → offset ≡ block_offset at block
    → entry_with (λ _. offset) (entry_read entry given block)
    ≡ placed_entry at (entry_read entry given block)
written_placed (a_record attributes id at_file) given at offset block is =
    ap (λ (a : ℕ). a_record a given offset) (idle_twice attributes)
    ∙ ap (λ (o : ℕ). a_record (idle_attributes (idle_attributes attributes)) given o) is
written_placed (a_resource kind id at_file) given at offset block is =
    ap (λ (o : ℕ). a_resource kind id o) is

one_text : (at : ℕ) (e : Entry (Option (List ℕ))) (es : List (Entry (Option (List ℕ))))
    → entries_text at (e ∷ es)
    ≡ entry_bytes (placed_entry at e) ++ entries_text (at + block_size (entry_data e)) es
one_text at (a_record attributes id block) es = refl
one_text at (a_resource kind id block) es = refl

entries_from : (es : List (Entry (Option (List ℕ)))) (i : ℕ) (d : Entry (Option (List ℕ)))
    → i < length es → drop i es ≡ get_or es i d ∷ drop (i + 1) es
entries_from es i d inside = rw (add-one, drop-cons es i d) refl

-- the entry at an index, whose data has `size` bytes, and those after it
pub entry_here : (file ids : List ℕ) (i at size : ℕ) (bytes : List ℕ) (block : Option (List ℕ))
    → i < entry_count_in file → bytes ≡ entry_bytes (placed_entry at (entry_read_at file ids i))
    → block ≡ get_or (blocks_in file) (2 + i) None → block_size block ≡ size
    → entries_text at (drop i (entries_read file ids))
    ≡ bytes ++ entries_text (at + size) (drop (i + 1) (entries_read file ids))
entry_here file ids i at size bytes block inside is is_block is_size =
    let es : List (Entry (Option (List ℕ))) = entries_read file ids in
    let e : Entry (Option (List ℕ)) = entry_read_at file ids i in
    let long = length-entries_read file ids in
    let here = entry_read_is file ids i e inside in
    let sized : block_size (entry_data e) ≡ size = ap block_size
    (data_read (entry_in file i) (get_or ids i 0) (get_or (blocks_in file) (2 + i) None)
    ∙ sym is_block) ∙ is_size in
    ap (entries_text at)
    (entries_from es i e (omega arith)
    ∙ ap (λ (one : Entry (Option (List ℕ))). one ∷ drop (i + 1) es) here)
    ∙ one_text at e (drop (i + 1) es)
    ∙ ap (λ (xs : List ℕ). xs ++ entries_text (at + block_size (entry_data e)) (drop (i + 1) es))
    (sym is)
    ∙ ap (λ (n : ℕ). bytes ++ entries_text (at + n) (drop (i + 1) es)) sized
