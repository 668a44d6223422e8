-- The loop of `note_database` keeps its invariant: the slots of the entries before this one have
-- the number.
use Rattle.heap_map.proofs.Words.{map, numbered, entry_data, entry_in, NotesSlots}
use Rattle.heap_map.proofs.numbers.note_database.Given as goal

abbrev pub invariant-loop-index : goal.invariant-loop-index
invariant-loop-index l = NotesSlots (map entry_data (numbered (entry_in l.header) l.index)) l.number
    l.initial.table l.table
