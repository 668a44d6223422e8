-- `file_head` returns the bytes before the blocks in the file of the database with these parts, and
-- the size of the file, by the laws of PackedEntries.
use Rattle.file_parts.proofs.AllLaws.{◌++◌, ◌∷◌, [], ℕ, List, sym, ap, ◌∙◌, blocks_text, entries_text, header_text, file_parts, ListedEntry, database_of_parts, packed_entries, joined}
use Rattle.file_parts.proofs.packing.file_head.Goals as goal

pub returns-clause-file : goal.returns-clause-file
returns-clause-file g c =
    let listed = c.args.listed.now in
    let parts = c.args.parts.now in
    let d = database_of_parts listed parts in
    let places = c.in_ok-places.places in
    let are = c.in_ok-places.ensures.are in
    let entries : List ℕ =
    entries_text places.entries (packed_entries c.as_slice.result.now parts) in
    let end : List ℕ = 0 ∷ 0 ∷ [] ++ blocks_text d in
    sym (joined _ _ _ _ c.header_bytes.result entries (0 ∷ 0 ∷ [])
    (blocks_text d) c.new-bytes.ensures.items c.in_ok-append.ensures.items c.in_ok-end.ensures.items
    c.in_ok-append-2.ensures.items ∙ ap (λ (xs : List ℕ). xs ++ (entries ++ end))
    (c.header_bytes.ensures parts are) ∙ ap (λ (items : List ListedEntry). header_text d
    ++ (entries_text places.entries (packed_entries items parts) ++ end)) c.as_slice.ensures.value
    ∙ ap (λ (at : ℕ). header_text d ++ (entries_text at d.entries ++ end)) are.entries
    ∙ sym (file_parts d))
