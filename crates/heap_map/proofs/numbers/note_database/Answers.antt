-- `note_database` gives each slot that a database names its number, by the laws of NumberLaws.
use Rattle.heap_map.proofs.Laws.{◌≡◌, ◌∷◌, ◌∙◌, [], ℕ, List, map, length, ap, subst, arith, entry_data, entry_in, numbered, NotesSlots, notes_then}
use Rattle.store_check.proofs.UseLaws.{entries_more, entries_all, data_all}
use Rattle.heap_map.proofs.numbers.note_database.Goals as goal

pub loop-index-preserved : goal.loop-index-preserved
loop-index-preserved c =
    let header = c.args.header.now in
    let met : List ℕ = map entry_data (numbered (entry_in header) c.loop-index.index) in
    let len : length c.loop-index.table ≡ length c.note-2.new.table = c.loop-index.auto.table in
    subst
    (λ (l : List ℕ). NotesSlots l c.args.number c.note-2.new.table c.note-in-loop-index.new.table)
    (entries_more header [] c.loop-index.index _ (c.slot.ensures ∙ ap entry_data c.read.ensures.is))
    (notes_then met (c.slot.result ∷ []) c.args.number c.note-2.new.table c.loop-index.table
    c.note-in-loop-index.new.table len c.loop-index.invariant c.note-in-loop-index.ensures)

pub returns : goal.returns
returns c =
    let header = c.args.header.now in
    let infos : List ℕ = c.app_info.result ∷ c.sort_info.result ∷ [] in
    let len = c.note-2.auto.table ∙ c.note.auto.table in
    subst (λ (l : List ℕ). NotesSlots l c.args.number c.args.table.now c.loop-index.table)
    (entries_all header infos c.loop-index.index (omega arith)
    ∙ data_all header [] _ _ c.app_info.ensures c.sort_info.ensures)
    (notes_then infos (map entry_data (numbered (entry_in header) c.loop-index.index)) c.args.number
    c.args.table.now c.note-2.new.table c.loop-index.table len (notes_then (c.app_info.result ∷ [])
    (c.sort_info.result ∷ []) c.args.number c.args.table.now c.note.new.table c.note-2.new.table
    c.note.auto.table c.note.ensures c.note-2.ensures) c.loop-index.invariant)
