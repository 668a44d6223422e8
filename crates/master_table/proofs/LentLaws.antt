-- What is lent is no part of the head, of a table's header, of a word `next` or of a slot.
use Rattle.std.proofs.Common.{true, ◌≡◌, ◌≢◌, ℕ, zero, suc, subst, arith}
use Rattle.heap_model.specs.Memory.{Memory, IsWithin}
use Rattle.heap_model.specs.Frame.{HasFrame}
use Rattle.heap_model.specs.Slots.{HasTable, is_chained, table_at, table_end, head_end, first_next, further_tables}
use Rattle.heap_model.specs.Heap.{IsTablePlace}
use Rattle.heap_model.specs.Lending.{LendsBodies}
use Rattle.laws_heap.proofs.ChainReads.{chain_table}
use Rattle.laws_heap.proofs.LentBodies.{tiled_frame, tiled_tables, head_within, ReadsTable, reads_table}
use Rattle.laws_heap.proofs.Lending.{part_within}
use Rattle.laws_heap.proofs.Tables.{chained_behind}
use Rattle.master_table.specs.Table.{IsTiled, StartsAt, next_word}
use Rattle.master_table.proofs.RowLaws.{NextStands, further_start, start_stands}
use Rattle.master_table.proofs.ChainLaws.{LeadsTo, next_step}
use Rattle.master_table.proofs.FurtherLaws.{WalksTables, step_of}

-- the frame, all tables, and the head with the first word `next`
pub frame_of : (memory : Memory) → IsTiled memory.bytes → LendsBodies memory → HasFrame memory
frame_of memory t l = tiled_frame memory t.0 t.1 l

pub table_of : (memory : Memory) → IsTiled memory.bytes → LendsBodies memory → HasTable memory
table_of memory t l = tiled_tables memory t.0 t.1 l

pub head_of : (memory : Memory) → IsTiled memory.bytes → LendsBodies memory → IsWithin memory 0 (head_end memory.bytes)
head_of memory t l = head_within memory (table_of memory t l)

-- the table of a row, the one that a word `next` leads to, and any further one
pub next_reads : (memory : Memory) (next : ℕ) → IsTiled memory.bytes → LendsBodies memory → NextStands memory.bytes next → ReadsTable memory next
next_reads memory next t l n = reads_table memory t.0 (table_at memory.bytes next) t.1 l (n.step t.0 t.1).first

pub leads_within : (memory : Memory) (at next : ℕ) → IsTiled memory.bytes → LendsBodies memory → LeadsTo memory.bytes at next → next ≢ 0 → IsWithin memory next 4
leads_within memory at next t l leads used = (reads_table memory t.0 (table_at memory.bytes next) t.1 l (next_step memory.bytes at next leads used t.0 t.1).first).next

pub walk_within : (memory : Memory) (next : ℕ) → IsTiled memory.bytes → LendsBodies memory → WalksTables memory.bytes next → next ≢ 0 → IsWithin memory next 4
walk_within memory next t l walks used = (reads_table memory t.0 (table_at memory.bytes next) t.1 l (step_of memory.bytes next walks used t.0 t.1).first).next

pub further_reads : (memory : Memory) (place : ℕ) → IsTiled memory.bytes → LendsBodies memory → IsTablePlace (further_tables memory.bytes) place → ReadsTable memory place
further_reads memory place t l there =
    let c = chain_table memory.bytes t.0 (first_next memory.bytes) (further_tables memory.bytes) place t.1.chain there in
    subst (λ (n : ℕ). ReadsTable memory n) c.place (reads_table memory t.0 c.table t.1 l c.there)

-- the word `next` of a table that is known
pub word_within : (memory : Memory) (place before : ℕ) → is_chained memory.bytes ≡ true → IsTiled memory.bytes → LendsBodies memory → StartsAt memory.bytes place before → IsWithin memory (next_word memory.bytes place) 4
word_within memory zero before chained t l s =
    let four = chained_behind memory.bytes chained in
    part_within memory 0 (head_end memory.bytes) (table_end memory.bytes) 4 (head_of memory t l) (omega arith) (omega (arith, four))
word_within memory (suc low) before chained t l s =
    (next_reads memory (suc low) t l (start_stands memory.bytes (suc low) before t (further_start memory.bytes (suc low) before s (λ e. absurd (omega (arith, e))))).next).next
