-- What is lent of a heap stays a body where a table is made; and the last word `next` misses it.
use Rattle.laws_heap.proofs.Words.{true, ◌≡◌, ℕ, List, [], ◌∷◌, refl, sym, subst, arith, inl, inr, Memory, Lent, IsWithin, Chunk, free, AnyPlaced, area_start, is_chained, Tiles, last_next, LentHere, IsLentBody, LendsBodies}
use Rattle.laws_heap.proofs.Runs.{chunks_of-tiled}
use Rattle.laws_heap.proofs.Tables.{chained_behind}
use Rattle.laws_heap.proofs.AlikeTables.{TellsNoTables, any_alike}
use Rattle.laws_heap.proofs.Replacements.{any_replaced, replaced_tiles, same_start}
use Rattle.laws_heap.proofs.AddedTables.{AddsTable, added, last_lies, stays_start}
use Rattle.laws_heap.proofs.MoreTables.{WritesTable, table_chunk, written_replaces}
use Rattle.laws_heap.proofs.LentBodies.{front_misses, reads_table, still_lends}

-- the last word `next` of a chain may be read and written
pub last_within : (memory : Memory) (cs : List Chunk) → is_chained memory.bytes ≡ true
    → Tiles memory.bytes cs → LendsBodies memory → IsWithin memory (last_next memory.bytes) 4
last_within memory cs chained t l =
    let lies = last_lies memory.bytes cs chained t in
    let four = chained_behind memory.bytes chained in
    elim lies.head [
      | inl first ↦ record {
        inside = lies.inside;
        misses = front_misses memory (last_next memory.bytes) 4 l (omega (arith, first, four));
      }
      | inr table ↦ rw table.place at (reads_table memory cs table.table t l table.there).next
    ]

-- what is lent stands among other chunks that begin at the same offset
moved_body : (old new : List ℕ) (cs ds : List Chunk) (lent : Lent) → Tiles old cs → Tiles new ds
    → area_start new ≡ area_start old → (AnyPlaced (LentHere lent) (area_start old) cs
    → AnyPlaced (LentHere lent) (area_start old) ds) → IsLentBody old lent → IsLentBody new lent
moved_body old new cs ds lent t u starts keeps x =
    subst (λ es. AnyPlaced (LentHere lent) (area_start new) es) (sym (chunks_of-tiled new ds u))
    (rw (← starts) at (keeps (rw (chunks_of-tiled old cs t) at x)))

-- where a table was written in place of a free chunk
pub written_lends : (old mid : Memory) (before after : List Chunk) (at : ℕ)
    → WritesTable old.bytes mid.bytes before after at → LendsBodies old → mid.lents ≡ old.lents
    → LendsBodies mid
written_lends old mid before after at w l same =
    let r = written_replaces old.bytes mid.bytes before after at w in
    let tiles = replaced_tiles old.bytes mid.bytes before _ _ after at w.heap.tiles r in
    still_lends old mid same l (λ lent is x.
    moved_body _ mid.bytes _ _ lent w.heap.tiles tiles (same_start old.bytes mid.bytes r.head)
    (any_replaced (LentHere lent) (area_start old.bytes) before (free 72 ∷ []) (table_chunk ∷ [])
    after refl (λ m. elim m [ inl own ↦ absurd own | inr nothing ↦ absurd nothing ])) x)

-- and where it was added to the chain
lent_tells : (lent : Lent) → TellsNoTables (LentHere lent)
lent_tells lent at xs ys e h = let some = h.2 in absurd (omega (arith, some))

pub added_lends : (old new : Memory) (place : ℕ) → AddsTable old.bytes new.bytes place
    → LendsBodies old → new.lents ≡ old.lents → LendsBodies new
added_lends old new place a l same =
    let d = added old.bytes new.bytes place a in
    still_lends old new same l (λ lent is x.
    moved_body _ _ _ d.chunks lent a.fresh.tiles d.tiles (stays_start old.bytes new.bytes d.head)
    (any_alike (LentHere lent) (lent_tells lent) _ a.fresh.chunks d.chunks d.alike.alike) x)
